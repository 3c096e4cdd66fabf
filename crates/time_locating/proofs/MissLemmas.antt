-- What the misses of a tree determine.
use Rattle.time_values.specs.Calendar.{greatest_year}
use Rattle.std.proofs.Common.{◌≡◌, ℕ, ◌<◌, ◌≤◌, List, [], ◌∷◌, ◌++◌, Option, Some, None, All, Bool, true, false, nat_lt, if◌then◌else◌, refl, ap, sym, ◌∙◌, subst, inl, inr, arith, suc, ◌+◌, ◌⊎◌, length, take, drop, get_or, length-take, length-drop, min}
use Rattle.std.proofs.lemmas.List.Elements.{All-append, All-cons}
use Rattle.std.proofs.lemmas.Bool.Decides.{nat_tests}
use Rattle.std.proofs.lemmas.List.{at_drop_all, at_drop_more, drop_min, take_all, take_min}
use Rattle.time_values.specs.Refusal.{Refusal}
use Rattle.time_components.specs.declared.format_description.Component.{Component}
use Rattle.time_components.specs.declared.format_description.Component.TheVariants as named_
use Rattle.time_components.specs.Tree.{Tree, Trees, literal, component, sequence, optional, first_of, none, more, group_tree, further as tree_further, item_length, steps_after, steps_trees, tree_at, trees_in}
use Rattle.time_components.specs.declared.inspect.Group.{Group}
use Rattle.time_components.specs.declared.inspect.Step.{Step}
use Rattle.time_components.specs.declared.inspect.Step.TheVariants as step
use Rattle.time_record.specs.Components.{component_fault}
use Rattle.time_record.specs.Reading.{IsFault, IsFaultAll, NoReading, Reads, ReadsAll, ReadsSome}
use Rattle.time_record.specs.Record.{Record}
use Rattle.time_record.proofs.Unique.{Reads-unique}
use Rattle.time_record.proofs.WalkSteps.{behind_first, behind_is, first_item, steps_trees-end}
use Rattle.time_locating.specs.Laws.{FurthestLeavesFewest, OwnMissFirst, refusal_by}
use Rattle.time_locating.specs.Misses.{Miss, Misses, MissesAll, MissesFirst, LiteralReport, further, further_of, furthest, missed, these_bytes, expected_by}
use Rattle.time_components.proofs.StepLemmas.{item_after}
use Rattle.time_preparing.proofs.Rows.{item_alone}
use Rattle.time_locating.specs.StepRows.{IsSplit}
use Rattle.time_locating.proofs.TurnSteps.{literal_cases}
use Rattle.time_locating.proofs.MarkSteps.{no_furthest}

-- the first of some misses has that error
abbrev BeginsWith : List Miss → Refusal → Type 0
BeginsWith ms e = (m : Miss) × (others : List Miss) × (ms ≡ m ∷ others) × (refusal_by m.wanted ≡ e)

begins-append : (ms ns : List Miss) (e : Refusal) → BeginsWith ms e → BeginsWith (ms ++ ns) e
begins-append ms ns e (m, others, is, told) = (m, others ++ ns, ap (λ xs. xs ++ ns) is, told)

begins-is : (ms ns : List Miss) (e : Refusal) → ms ≡ ns → BeginsWith ns e → BeginsWith ms e
begins-is ms ns e is h = subst (λ xs. BeginsWith xs e) (sym is) h

-- what a component expects determines its error
told_component : (c : Component) → refusal_by (expected_by c) ≡ component_fault c
told_component (named_.Day m) = refl
told_component _ = refl

mutual
  unfolding Misses MissesAll MissesFirst Reads ReadsAll ReadsSome IsFault IsFaultAll

  own : (told : LiteralReport) (t : Tree) (b : List ℕ) (r : Record) (e : Refusal) (ms : List Miss) → NoReading greatest_year t b r →
      IsFault greatest_year t b r e → Misses told t b r ms → BeginsWith ms e
  own told (literal x) b r e ms unread f h =
      elim (literal_cases told x b) [
        | inl there ↦ absurd (unread there.0.0 r (there.0.1, refl))
        | inr m ↦ (missed m.left (these_bytes m.wanted), [], h ∙ m.is, sym f)
      ]
  own told (component w c) b r e ms unread f (inl h) = absurd (unread h.0.0 h.0.1 h.0.2)
  own told (component w c) b r e ms unread f (inr h) = (_, [], h.1, told_component c ∙ sym f)
  own told (sequence ts) b r e ms unread f h = own-all told ts b r e ms f h
  own told (optional t) b r e ms unread f h = absurd f
  own told (first_of none) b r e ms unread f h = absurd f
  own told (first_of (more t ts)) b r e ms unread f (i, h, inl (x, q, s, is)) = absurd (unread x q (inl s))
  own told (first_of (more t ts)) b r e ms unread f (i, h, inr (s, later, ks, is)) =
      begins-is ms (i ++ later) e is (begins-append i later e (own told t b r e i s f h))

  own-all : (told : LiteralReport) (ts : Trees) (b : List ℕ) (r : Record) (e : Refusal) (ms : List Miss) → IsFaultAll greatest_year ts b r e →
      MissesAll told ts b r ms → BeginsWith ms e
  own-all told none b r e ms f h = absurd f
  own-all told (more t ts) b r e ms (inl f) (i, h, inl hs) = begins-is ms i e hs.1 (own told t b r e i f.0 f.1 h)
  own-all told (more t ts) b r e ms (inl f) (i, h, inr (mid, q, s, later, ks, is)) = absurd (f.0 mid q s)
  own-all told (more t ts) b r e ms (inr f) (i, h, inl hs) = absurd (hs.0 f.0 f.1 f.2)
  own-all told (more t ts) b r e ms (inr (x, p, u, fs)) (i, h, inr (mid, q, s, later, ks, is)) =
      let one = Reads-unique greatest_year t b r x p mid q u s in
      let there = subst (λ o. IsFaultAll greatest_year ts mid o e) one.1 (subst (λ z. IsFaultAll greatest_year ts z p e) one.0 fs) in
      begins-is ms (later ++ i) e is (begins-append later i e (own-all told ts mid q e later there ks))

pub own_miss_first : OwnMissFirst
own_miss_first told t b r e ms refused h = own told t b r e ms refused.unread refused.fault h

-- such a miss is in the list, and those before it leave more bytes and those after it no fewer
abbrev FoundIn : List Miss → Miss → Type 0
FoundIn xs m = (before after : List Miss) × (xs ≡ before ++ m ∷ after) × All (λ n. m.left < n.left) before × All (λ n. m.left ≤ n.left) after

pub all_none : (P : Miss → Type 0) → All P []
all_none P k d within = absurd (omega arith)

all_weaker : (P Q : Miss → Type 0) → ((x : Miss) → P x → Q x) → (xs : List Miss) → All P xs → All Q xs
all_weaker P Q weaker xs h k d within = weaker _ (h k d within)

is_below : (n m : ℕ) → nat_lt n m ≡ true → n < m
is_below n m is = grind (arith, nat_tests)

is_not_below : (n m : ℕ) → nat_lt n m ≡ false → m ≤ n
is_not_below n m is = grind (arith, nat_tests)

-- the furthest of two misses
choose : (x k m : Miss) (xs : List Miss) (b : Bool) → nat_lt k.left x.left ≡ b → (if b then k else x) ≡ m → FoundIn xs k → FoundIn (x ∷ xs) m
choose x k m xs true lt is (before, after, e, more_left, no_fewer) =
    subst (FoundIn (x ∷ xs)) is (
      x ∷ before,
      after,
      ap (λ ys. x ∷ ys) e,
      All-cons (λ (n : Miss). k.left < n.left) x before (is_below k.left x.left lt) more_left,
      no_fewer,
    )
choose x k m xs false lt is (before, after, e, more_left, no_fewer) =
    let near = is_not_below k.left x.left lt in
    let P : Miss → Type 0 = λ n. x.left ≤ n.left in
    let first = all_weaker (λ n. k.left < n.left) P (λ n h. omega arith) before more_left in
    let last = all_weaker (λ n. k.left ≤ n.left) P (λ n h. omega arith) after no_fewer in
    let all = All-append P before (k ∷ after) first (All-cons P k after near last) in
    subst (FoundIn (x ∷ xs)) is ([], xs, refl, all_none (λ n. x.left < n.left), subst (All P) (sym e) all)

of_two : (x : Miss) (xs : List Miss) (m : Miss) → ((k : Miss) → furthest xs ≡ Some k → FoundIn xs k) → (o : Option Miss) → furthest xs ≡ o →
    further (Some x) o ≡ Some m → FoundIn (x ∷ xs) m
of_two x xs m later None e is =
    let same : x ≡ m = cc in
    let none = no_furthest xs e in
    subst (FoundIn (x ∷ xs)) same ([], xs, refl, all_none (λ n. x.left < n.left), subst (All (λ (n : Miss). x.left ≤ n.left)) (sym none) (all_none _))
of_two x xs m later (Some k) e is =
    let same : further_of x k ≡ m = cc in
    choose x k m xs (nat_lt k.left x.left) refl same (later k e)

pub furthest_leaves_fewest : FurthestLeavesFewest
furthest_leaves_fewest [] m is = let clash : None ≡ Some m = is in cc
furthest_leaves_fewest (x ∷ xs) m is = of_two x xs m (λ k e. furthest_leaves_fewest xs k e) (furthest xs) refl is

-- ---- The steps of one item at the front of a row of steps

-- the item of the first step, and those after it
first_row : (s : Step) (behind : List Step) → steps_trees (s ∷ behind) ≡ more (tree_at steps_trees s behind) (steps_trees (steps_after s behind))
first_row s behind =
    first_item (s ∷ behind) s (omega arith) refl
    ∙ ap (λ ys. more (tree_at steps_trees s ys) (steps_trees (steps_after s ys))) (behind_is (s ∷ behind) (omega arith))

split_at_first : (s : Step) (behind : List Step) → IsSplit (s ∷ behind) (s ∷ take (item_length s behind) behind) (drop (item_length s behind) behind)
split_at_first s behind = record {
  tree = tree_at steps_trees s behind;
  alone = item_alone s behind;
  all = first_row s behind ∙ ap (λ ys. more (tree_at steps_trees s behind) (steps_trees ys)) (sym (item_after s behind));
  within = omega (arith, length-take (item_length s behind) behind);
  fewer = omega (arith, length-drop (item_length s behind) behind);
}

-- the steps up to the end of the first item
pub split_row : (left : List Step) (x : Step) (k : ℕ) → 1 ≤ length left → x ≡ get_or left 0 x → k ≡ item_length x (behind_first left) →
    IsSplit left (take (1 + k) left) (drop (1 + k) left)
split_row [] x k some is within = absurd (omega arith)
split_row (s ∷ behind) x k some is within =
    let here : k ≡ item_length s behind = within ∙ ap (λ y. item_length y (behind_first (s ∷ behind))) is ∙ ap (item_length s) (behind_is (s ∷ behind) some) in
    let on : 1 + k ≡ suc (item_length s behind) = omega arith in
    subst (λ n. IsSplit (s ∷ behind) (take n (s ∷ behind)) (drop n (s ∷ behind))) (sym on) (split_at_first s behind)

pub some_steps : (steps : List Step) → steps_trees steps ≡ none → length steps ≤ 0
unfolding trees_in
some_steps [] is = omega arith
some_steps (s ∷ steps) is = let clash = sym (first_row s steps) ∙ is in cc

pub no_steps : (steps : List Step) → length steps ≡ 0 → steps_trees steps ≡ none
no_steps steps is = steps_trees-end steps (omega arith)

-- the tree of a row with one item
pub first_tree : (item : List Step) (x : Step) (t : Tree) → 1 ≤ length item → x ≡ get_or item 0 x → steps_trees item ≡ more t none →
    t ≡ tree_at steps_trees x (behind_first item)
first_tree item x t some is alone =
    let both : more t none ≡ more (tree_at steps_trees x (behind_first item)) (steps_trees (steps_after x (behind_first item))) =
    sym alone ∙ first_item item x some is in cc

pub group_inside : (item : List Step) (g : Group) (len : ℕ) (t : Tree) → 1 ≤ length item → step.Group g len ≡ get_or item 0 (step.Group g len) →
    steps_trees item ≡ more t none → t ≡ group_tree g (steps_trees (behind_first item))
group_inside item g len t some is alone =
    let behind = behind_first item in
    let both : more t none ≡ more (tree_at steps_trees (step.Group g len) behind) (steps_trees (drop len behind)) =
    sym alone ∙ first_item item (step.Group g len) some is in
    let empty : steps_trees (drop len behind) ≡ none = cc in
    let end = some_steps (drop len behind) empty in
    let all : t ≡ group_tree g (steps_trees (take len behind)) = cc in
    all ∙ ap (λ ys. group_tree g (steps_trees ys)) (take_all len behind (omega (arith, length-drop len behind)))

pub no_item : (item : List Step) (t : Tree) → length item ≤ 0 → steps_trees item ≡ more t none → ⊥
no_item item t end is = let clash : none ≡ more t none = sym (steps_trees-end item end) ∙ is in cc

-- the tree of a literal's steps
pub literal_tree : (item : List Step) (x : Step) (b : ℕ) (t : Tree) → 1 ≤ length item → x ≡ get_or item 0 x → steps_trees item ≡ more t none →
    (x ≡ step.Literal b) ⊎ (x ≡ step.More b) → t ≡ literal (b ∷ tree_further (behind_first item))
literal_tree item x b t some is alone (inl e) =
    first_tree item x t some is alone ∙ ap (λ y. tree_at steps_trees y (behind_first item)) e
literal_tree item x b t some is alone (inr e) =
    first_tree item x t some is alone ∙ ap (λ y. tree_at steps_trees y (behind_first item)) e
