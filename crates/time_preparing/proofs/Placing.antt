-- The places of items that have steps, and of rows of steps.
use Rattle.std.specs.Prelude.{IfErr, IsErr, IsErrAnd, OnOk, slice_set}
use Rattle.std.proofs.Common.{List, ℕ, [], Option, Some, None, Ok, IfSome, false, ◌≡◌, zero, suc, ◌+◌, ◌-◌, ◌<◌, ◌≤◌, ◌∷◌, ◌++◌, length, map, drop, take, Result, Err, refl, ap, sym, ◌∙◌, arith, append_assoc, append-nil, length-append}
use Rattle.std.proofs.lemmas.Bool.{false≢true}
use Rattle.std.proofs.lemmas.List.{length-drop, length-map, length-take}
use Rattle.std.proofs.lemmas.Option.{none-some}
use Rattle.time_values.specs.Calendar.{greatest_year}
use Rattle.time_components.specs.Tree.{steps_shape, further, group_tree, trees_in, Tree, Trees, literal as literal_tree, component as component_tree, sequence, none as no_trees, more as more_trees}
use Rattle.time_components.proofs.StepLemmas.{further_within}
use Rattle.time_components.specs.declared.inspect.Step.{Step}
use Rattle.time_components.specs.declared.format_description.Component.{Component}
use Rattle.time_components.specs.declared.inspect.Group.{Group}
use Rattle.time_components.specs.declared.inspect.Group.TheVariants as groups
use Rattle.time_components.specs.declared.inspect.Step.TheVariants as step
use Rattle.time_descriptions.specs.Items.{Item, Items, literal, component, group, none, more, items_of, flat, steps_of, all_steps_of, tree_of, trees_of}
use Rattle.time_descriptions.proofs.Adding.{closed_length, closed_steps, next_steps}
use Rattle.time_descriptions.proofs.Shapes.{steps_shape-flat}
use Rattle.time_record.specs.Reading.{Reads, Refuses}
use Rattle.time_record.specs.Record.{Record, empty}
use Rattle.time_parsing.specs.Outcome.{IsOutcome, Resolving}
use Rattle.time_preparing.specs.Whole.{Leads, ReadsOver, ReadsWhole}
use Rattle.time_preparing.specs.declared.whole.Whole.{Whole}
use Rattle.time_preparing.specs.declared.items.Unprepared.{Unprepared}
use Rattle.time_preparing.specs.declared.items.Unprepared.TheVariants.{TooLong}
use Rattle.time_preparing.specs.Items.{Place, places_of, places_of_all, further_places, group_places, first_reason, HasNoSteps, Prepares}
use Rattle.time_preparing.specs.Puts.{PutsItem, PutsItems}
use Rattle.time_preparing.specs.Walk.{followed_by}
use Rattle.time_preparing.proofs.Wholes.{led}

-- ---- The outcome of a format for a whole text of one form

-- over a record
pub over_outcome : {V : Type 0} (resolves : Resolving V) (w : Whole) (steps : List Step) (bytes : List ℕ) (begin : Record) (result : Option V) →
    Leads w steps → IfSome result (λ v. ReadsOver w bytes begin (λ r. resolves r (Ok v))) →
    IfSome result (λ v. IsOutcome resolves (Reads greatest_year (steps_shape steps)) (Refuses greatest_year (steps_shape steps)) bytes begin (Ok v))
over_outcome resolves w steps bytes begin (Some v) leads h = (h.1, led w steps leads h.0 bytes begin [] h.1 h.2, h.3)
over_outcome resolves w steps bytes begin None leads h = h

pub whole_outcome : {V : Type 0} (resolves : Resolving V) (w : Whole) (steps : List Step) (bytes : List ℕ) (result : Option V) →
    Leads w steps → IfSome result (λ v. ReadsWhole w bytes (λ r. resolves r (Ok v))) →
    IfSome result (λ v. IsOutcome resolves (Reads greatest_year (steps_shape steps)) (Refuses greatest_year (steps_shape steps)) bytes empty (Ok v))
whole_outcome resolves w steps bytes result leads h = over_outcome resolves w steps bytes empty result leads h

-- steps, each in its place
abbrev there : List Step → List Place
there ss = map Ok ss

there-append : (a b : List Step) → there (a ++ b) ≡ there a ++ there b
there-append [] b = refl
there-append (s ∷ a) b = ap (λ (ps : List Place). Ok s ∷ ps) (there-append a b)

there-length : (a : List Step) → length (there a) ≡ length a
there-length [] = refl
there-length (s ∷ a) = ap suc (there-length a)

further_there : (bytes : List ℕ) → further_places bytes ≡ there (map step.More bytes)
further_there [] = refl
further_there (b ∷ bytes) = ap (λ (ps : List Place). Ok (step.More b) ∷ ps) (further_there bytes)

places-group : (g : Group) (ts : Trees) → places_of (group_tree g ts) ≡ group_places g (places_of_all ts)
places-group groups.Optional ts = refl
places-group groups.First ts = refl
places-group groups.List ts = refl

-- a group of steps that are there
group_there : (g : Group) (ts : Trees) (ss : List Step) → places_of_all ts ≡ there ss
    → places_of (group_tree g ts) ≡ there (step.Group g (length ss) ∷ ss)
group_there g ts ss e =
    places-group g ts ∙ ap (group_places g) e ∙ ap (λ (n : ℕ). Ok (step.Group g n) ∷ there ss) (there-length ss)

-- the places of items are their steps
mutual
  item_there : (i : Item) → places_of (tree_of i) ≡ there (steps_of i)
  item_there (literal b bytes) = ap (λ (ps : List Place). Ok (step.Literal b) ∷ ps) (further_there bytes)
  item_there (component c) = refl
  item_there (group g is) = group_there g (trees_of is) (all_steps_of is) (items_there is)

  items_there : (is : Items) → places_of_all (trees_of is) ≡ there (all_steps_of is)
  items_there none = refl
  items_there (more i is) =
      ap (λ (ps : List Place). ps ++ places_of_all (trees_of is)) (item_there i)
      ∙ ap (λ (ps : List Place). there (steps_of i) ++ ps) (items_there is)
      ∙ sym (there-append (steps_of i) (all_steps_of is))

-- after steps that fit
past : (ss : List Step) (n : ℕ) (places : List Place) → length ss ≤ n
    → first_reason n (there ss ++ places) ≡ first_reason (n - length ss) places
past [] n places h = let e : n ≡ n - 0 = omega arith in ap (λ (k : ℕ). first_reason k places) e
past (s ∷ ss) zero places h = absurd (omega (arith, h))
past (s ∷ ss) (suc n) places h =
    let e : n - length ss ≡ suc n - suc (length ss) = omega arith in
    past ss n places (omega (arith, h)) ∙ ap (λ (k : ℕ). first_reason k places) e

-- a later place has no earlier reason
here : (n : ℕ) (places later : List Place) (reason : Unprepared) → first_reason n places ≡ Some reason
    → first_reason n (places ++ later) ≡ Some reason
here n [] later reason e = absurd (none-some reason e)
here n (Err r ∷ places) later reason e = e
here zero (Ok s ∷ places) later reason e = e
here (suc n) (Ok s ∷ places) later reason e = here n places later reason e

-- if there is no room for all steps
no_room : (ss : List Step) (n : ℕ) → n < length ss → first_reason n (there ss) ≡ Some TooLong
no_room [] n h = absurd (omega (arith, h))
no_room (s ∷ ss) zero h = refl
no_room (s ∷ ss) (suc n) h = no_room ss n (omega (arith, h))

-- The steps of one item were appended, or there is no room for them.
pub puts_steps : {A : Type 0} (n : ℕ) (t : Tree) (i : Item) (old : List Step) (r : Result A Unprepared) (new : List Step) → length old ≤ n → t ≡ tree_of i
    → OnOk r (new ≡ old ++ steps_of i) → OnOk r (length new ≤ n)
    → IfErr r (λ e. (e ≡ TooLong) × (n < length old + length (steps_of i))) → PutsItem n t old r new
puts_steps n t i old (Ok x) new h is put fits full = (i, is, put, fits)
puts_steps n t i old (Err e) new h is put fits full =
    ap (λ (u : Tree). first_reason (n - length old) (places_of u)) is
    ∙ ap (first_reason (n - length old)) (item_there i)
    ∙ no_room (steps_of i) (n - length old) (omega (arith, full.1, h))
    ∙ ap Some (sym full.0)

-- The one step of a component was appended, or there is no room for it.
pub puts_component : {A : Type 0} (n : ℕ) (c : Component) (old : List Step) (r : Result A Unprepared) (new : List Step) → length old ≤ n
    → OnOk r (new ≡ old ++ step.Component c ∷ []) → OnOk r (length new ≤ n)
    → IfErr r (λ e. (e ≡ TooLong) × (n ≤ length old)) → PutsItem n (component_tree false c) old r new
puts_component n c old (Ok x) new h put fits full = (component c, refl, put, fits)
puts_component {A = A} n c old (Err e) new h put fits full =
    puts_steps {A = A} n (component_tree false c) (component c) old (Err e) new h refl tt tt (full.0, omega (arith, full.1))

-- The first byte of a literal was appended, and then the others.
pub puts_bytes : {A : Type 0} (n b : ℕ) (bytes : List ℕ) (old mid : List Step) (r : Result A Unprepared) (new : List Step)
    → length old ≤ n → mid ≡ old ++ step.Literal b ∷ [] → length mid ≤ n
    → OnOk r (new ≡ mid ++ map step.More bytes) → OnOk r (length mid ≤ n → length new ≤ n)
    → IfErr r (λ e. (e ≡ TooLong) × (n < length mid + length bytes)) → PutsItem n (literal_tree (b ∷ bytes)) old r new
puts_bytes n b bytes old mid (Ok x) new h m k put fits full = (
  literal b bytes,
  refl,
  put ∙ ap (λ (ss : List Step). ss ++ map step.More bytes) m ∙ append_assoc old (step.Literal b ∷ []) (map step.More bytes),
  fits k,
)
puts_bytes {A = A} n b bytes old mid (Err e) new h m k put fits full =
    let one : length mid ≡ length old + 1 = omega (arith, ap length m, length-append old (step.Literal b ∷ [])) in
    puts_steps {A = A} n (literal_tree (b ∷ bytes)) (literal b bytes) old (Err e) new h refl tt tt
    (full.0, omega (arith, full.1, one, length-map bytes step.More))

-- if there is room for all steps
room : (ss : List Step) (n : ℕ) → length ss ≤ n → first_reason n (there ss) ≡ None
room [] n h = refl
room (s ∷ ss) zero h = absurd (omega (arith, h))
room (s ∷ ss) (suc n) h = room ss n (omega (arith, h))

followed_places : (ts us : Trees) → places_of_all (followed_by ts us) ≡ places_of_all ts ++ places_of_all us
followed_places no_trees us = refl
followed_places (more_trees t ts) us =
    ap (λ (ps : List Place). places_of t ++ ps) (followed_places ts us) ∙ sym (append_assoc (places_of t) (places_of_all ts) (places_of_all us))

followed_by-none : (ts : Trees) → followed_by ts no_trees ≡ ts
followed_by-none no_trees = refl
followed_by-none (more_trees t ts) = ap (more_trees t) (followed_by-none ts)

-- one more item in front
followed-item : (front : List Item) (i : Item) (ts : Trees)
    → followed_by (trees_of (items_of front)) (more_trees (tree_of i) ts) ≡ followed_by (trees_of (items_of (front ++ i ∷ []))) ts
followed-item [] i ts = refl
followed-item (j ∷ front) i ts = ap (more_trees (tree_of j)) (followed-item front i ts)

-- The items in front were appended, and the trees that are left follow theirs.
pub record PlaceParser (n : ℕ) (all : Trees) (old : List Step) (left : Trees) (now : List Step) : Type 0 where
  pub front : List Item
  pub told : all ≡ followed_by (trees_of (items_of front)) left
  pub steps : now ≡ old ++ flat front
  pub fits : length now ≤ n

pub stands_first : (n : ℕ) (ts : Trees) (old : List Step) → length old ≤ n → PlaceParser n ts old ts old
stands_first n ts old h = record { front = []; told = refl; steps = sym (append-nil old); fits = h }

module _ {n : ℕ} {all : Trees} {old : List Step} {left : Trees} {now : List Step} (h : PlaceParser n all old left now) where
  -- one more item was appended
  pub stands_item : (t : Tree) (ts : Trees) (new : List Step) → left ≡ more_trees t ts
      → (i : Item) × (t ≡ tree_of i) × (new ≡ now ++ steps_of i) × (length new ≤ n) → PlaceParser n all old ts new
  stands_item t ts new e (i, is, put, fits) = record {
    front = h.front ++ i ∷ [];
    told =
        h.told ∙ ap (followed_by (trees_of (items_of h.front))) e
        ∙ ap (λ (u : Tree). followed_by (trees_of (items_of h.front)) (more_trees u ts)) is
        ∙ followed-item h.front i ts;
    steps = next_steps old now new h.front i h.steps put;
    fits = fits;
  }

  -- all items were appended
  pub stands_last : left ≡ no_trees
      → (is : List Item) × (all ≡ trees_of (items_of is)) × (now ≡ old ++ flat is) × (length now ≤ n)
  stands_last e = (
    h.front,
    h.told ∙ ap (followed_by (trees_of (items_of h.front))) e ∙ followed_by-none (trees_of (items_of h.front)),
    h.steps,
    h.fits,
  )

  -- the next item is rejected
  pub stands_refused : (t : Tree) (ts : Trees) (reason : Unprepared) → left ≡ more_trees t ts
      → first_reason (n - length now) (places_of t) ≡ Some reason → first_reason (n - length old) (places_of_all all) ≡ Some reason
  stands_refused t ts reason next e =
      let ss : List Step = flat h.front in
      let places : List Place = places_of t ++ places_of_all ts in
      let counted : length now ≡ length old + length ss = ap length h.steps ∙ length-append old ss in
      let are : places_of_all all ≡ there ss ++ places =
      ap places_of_all h.told ∙ followed_places (trees_of (items_of h.front)) left
      ∙ ap (λ (us : Trees). places_of_all (trees_of (items_of h.front)) ++ places_of_all us) next
      ∙ ap (λ (ps : List Place). ps ++ places) (items_there (items_of h.front)) in
      let same : n - length old - length ss ≡ n - length now = omega (arith, counted) in
      ap (first_reason (n - length old)) are ∙ past ss (n - length old) places (omega (arith, counted, h.fits))
      ∙ ap (λ (k : ℕ). first_reason k places) same ∙ here (n - length now) (places_of t) (places_of_all ts) reason e

-- the first reason is kept
pub tells : {A : Type 0} (n : ℕ) (ts : Trees) (old : List Step) (r : Result A Unprepared) (new : List Step) (reason : Unprepared)
    → IsErr r × IsErrAnd r (λ e. e ≡ reason) → first_reason (n - length old) (places_of_all ts) ≡ Some reason → PutsItems n ts old r new
tells n ts old (Ok x) new reason by e = absurd (false≢true by.0)
tells n ts old (Err reason') new reason by e = e ∙ ap Some (sym by.1)

-- what is inside a group is rejected
pub inside_tells : {A : Type 0} (n : ℕ) (g : Group) (ts : Trees) (old mid : List Step) (r : Result A Unprepared) (new : List Step)
    (reason : Unprepared) → IsErr r × IsErrAnd r (λ e. e ≡ reason) → mid ≡ old ++ step.Group g 0 ∷ [] → length mid ≤ n
    → first_reason (n - length mid) (places_of_all ts) ≡ Some reason → PutsItem n (group_tree g ts) old r new
inside_tells n g ts old mid (Ok x) new reason by m h e = absurd (false≢true by.0)
inside_tells n g ts old mid (Err reason') new reason by m h e =
    let room_for_one : n - length old ≡ suc (n - length mid) = omega (arith, h, ap length m, length-append old (step.Group g 0 ∷ [])) in
    ap (λ (k : ℕ). first_reason k (places_of (group_tree g ts))) room_for_one
    ∙ ap (first_reason (suc (n - length mid))) (places-group g ts) ∙ e ∙ ap Some (sym by.1)

-- a group was appended
pub group_put : (n : ℕ) (g : Group) (ts : Trees) (old opened mid new : List Step) → opened ≡ old ++ step.Group g 0 ∷ []
    → (is : List Item) × (ts ≡ trees_of (items_of is)) × (mid ≡ opened ++ flat is) × (length mid ≤ n)
    → new ≡ slice_set mid (length old) (step.Group g (length mid - length old - 1))
    → (i : Item) × (group_tree g ts ≡ tree_of i) × (new ≡ old ++ steps_of i) × (length new ≤ n)
group_put n g ts old opened mid new o (is, same, put, fits) s =
    let m : mid ≡ (old ++ step.Group g 0 ∷ []) ++ flat is = put ∙ ap (λ (ss : List Step). ss ++ flat is) o in (
      group g (items_of is),
      ap (group_tree g) same,
      closed_steps old mid new g is m s,
      omega (arith, fits, closed_length old mid new g is m s),
    )

-- The trees have at most that many steps, and a place for each of them.
abbrev Row : Trees → ℕ → Type 0
Row ts most = (ss : List Step) × (places_of_all ts ≡ there ss) × (length ss ≤ most)

row_with : (t : Tree) (ts : Trees) (ss : List Step) (k n : ℕ) → places_of t ≡ there ss → length ss + k ≤ n → Row ts k
    → Row (more_trees t ts) n
row_with t ts ss k n e h later = (
  ss ++ later.0,
  ap (λ (ps : List Place). ps ++ places_of_all ts) e ∙ ap (λ (ps : List Place). there ss ++ ps) later.1
      ∙ sym (there-append ss later.0),
  omega (arith, h, later.2, length-append ss later.0),
)

literal_row : (b : ℕ) (steps : List Step) (ts : Trees) → Row ts (length (drop (length (further steps)) steps))
    → Row (more_trees (literal_tree (b ∷ further steps)) ts) (suc (length steps))
literal_row b steps ts later =
    let bytes : List ℕ = further steps in
    row_with (literal_tree (b ∷ bytes)) ts (step.Literal b ∷ map step.More bytes) (length (drop (length bytes) steps)) (suc (length steps))
    (ap (λ (ps : List Place). Ok (step.Literal b) ∷ ps) (further_there bytes))
    (omega (arith, length-map bytes step.More, length-drop (length bytes) steps, further_within steps)) later

-- Each row of steps has such trees.
rows : (n : ℕ) (steps : List Step) → Row (trees_in n steps) (length steps)
unfolding trees_in
rows zero steps = ([], refl, omega arith)
rows (suc n) [] = ([], refl, omega arith)
rows (suc n) (step.Literal b ∷ steps) =
    literal_row b steps (trees_in n (drop (length (further steps)) steps)) (rows n (drop (length (further steps)) steps))
rows (suc n) (step.More b ∷ steps) =
    literal_row b steps (trees_in n (drop (length (further steps)) steps)) (rows n (drop (length (further steps)) steps))
rows (suc n) (step.Component c ∷ steps) =
    row_with (component_tree false c) (trees_in n steps) (step.Component c ∷ []) (length steps) (suc (length steps)) refl (omega arith)
    (rows n steps)
rows (suc n) (step.Group g len ∷ steps) =
    let inner = rows n (take len steps) in
    let inside : Trees = trees_in n (take len steps) in
    row_with (group_tree g inside) (trees_in n (drop len steps)) (step.Group g (length inner.0) ∷ inner.0) (length (drop len steps))
    (suc (length steps)) (group_there g inside inner.0 inner.1)
    (omega (arith, inner.2, length-take len steps, length-drop len steps)) (rows n (drop len steps))

abbrev inside_of : Tree → Trees
inside_of (sequence ts) = ts
inside_of _ = no_trees

-- If there is a reason, no row of steps that fits has the trees.
refused_rows : (n : ℕ) (ts : Trees) (reason : Unprepared) → first_reason n (places_of_all ts) ≡ Some reason → HasNoSteps n ts
unfolding trees_in
refused_rows n ts reason e = λ steps h same.
    let row = rows (length steps) steps in
    let all : places_of_all ts ≡ there row.0 = sym (ap (λ (t : Tree). places_of_all (inside_of t)) same) ∙ row.1 in
    none-some reason (sym (ap (first_reason n) all ∙ room row.0 n (omega (arith, h, row.2))) ∙ e)

-- steps that were appended to an empty list
pub prepares : (n : ℕ) (ts : Trees) (old steps result : List Step) → old ≡ []
    → (is : List Item) × (ts ≡ trees_of (items_of is)) × (steps ≡ old ++ flat is) × (length steps ≤ n) → result ≡ steps
    → Prepares n ts (Ok result)
prepares n ts old steps result none_yet (is, same, put, fits) e =
    let are : result ≡ flat is = e ∙ put ∙ ap (λ (ss : List Step). ss ++ flat is) none_yet in (
      ap places_of_all same ∙ items_there (items_of is) ∙ ap there (sym are),
      omega (arith, fits, ap length e),
      ap steps_shape are ∙ steps_shape-flat is ∙ ap sequence (sym same),
    )

-- an error of appending to an empty list
pub unprepared : (n : ℕ) (ts : Trees) (old : List Step) (r : Result (List Step) Unprepared) (reason : Unprepared) → old ≡ []
    → IsErr r × IsErrAnd r (λ e. e ≡ reason) → first_reason (n - length old) (places_of_all ts) ≡ Some reason → Prepares n ts r
unprepared n ts old (Ok x) reason none_yet by e = absurd (false≢true by.0)
unprepared n ts old (Err reason') reason none_yet by e =
    let all : n ≡ n - length old = omega (arith, ap length none_yet) in
    let told : first_reason n (places_of_all ts) ≡ Some reason' =
    ap (λ (k : ℕ). first_reason k (places_of_all ts)) all ∙ e ∙ ap Some (sym by.1) in
    (told, refused_rows n ts reason' told)
