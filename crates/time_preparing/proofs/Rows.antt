-- Rows of steps, and the joined steps in them.
use Rattle.std.specs.Prelude.{◌==◌, min}
use Rattle.std.proofs.Common.{◌≡◌, ℕ, zero, suc, ◌+◌, ◌-◌, ◌≤◌, ◌<◌, List, [], ◌∷◌, ◌++◌, length, take, drop, get_or, inl, inr, refl, ap, sym, ◌∙◌, arith, false, true, length-take, length-drop, subst, append_assoc, length-append}
use Rattle.std.proofs.lemmas.List.{take_all, take-append-drop, drop_all}
use Rattle.std.proofs.lemmas.Bool.{cases_lt, eqb-true}
use Rattle.time_components.specs.Tree.{further, group_tree, item_length, steps_after, steps_trees, tree_at, Trees, literal, component, sequence, optional, none, more}
use Rattle.time_components.proofs.StepLemmas.{drop_most, further_within, item_after}
use Rattle.time_components.specs.declared.format_description.Component.TheVariants.{Second, Subsecond}
use Rattle.time_components.specs.declared.inspect.Group.{Group}
use Rattle.time_components.specs.declared.inspect.Group.TheVariants.{Optional}
use Rattle.time_components.specs.declared.inspect.Step.{Step}
use Rattle.time_components.specs.declared.inspect.Step.TheVariants as step
use Rattle.time_record.proofs.WalkSteps.{behind_first, behind_is, first_item, steps_trees-end}
use Rattle.time_preparing.specs.Forms.{BeginsWith, Fits, fraction_parts, parts, BeginsWithParts, second_parts}
use Rattle.time_preparing.specs.Walk.{followed_by, fraction_tree, leaves, seconds_tree}
use Rattle.time_preparing.specs.declared.forms.TheConstants.{SECOND, SUBSECOND}
use Rattle.time_preparing.specs.declared.joined.Joined.{Joined}

take_joined : (xs ys : List Step) (n : ℕ) → length xs ≤ n → take n (xs ++ ys) ≡ xs ++ take (n - length xs) ys
take_joined [] ys n h = ap (λ k. take k ys) (omega arith)
take_joined (x ∷ xs) ys zero h = absurd (omega arith)
take_joined (x ∷ xs) ys (suc n) h =
    let same : n - length xs ≡ suc n - length (x ∷ xs) = omega arith in
    ap (λ zs. x ∷ zs) (take_joined xs ys n (omega arith) ∙ ap (λ k. xs ++ take k ys) same)

pub drop_joined : (xs ys : List Step) → drop (length xs) (xs ++ ys) ≡ ys
drop_joined [] ys = refl
drop_joined (x ∷ xs) ys = drop_joined xs ys

further_take : (n : ℕ) (steps : List Step) → further steps ≡ [] → further (take n steps) ≡ []
further_take zero steps h = refl
further_take (suc n) [] h = refl
further_take (suc n) (step.Literal b ∷ steps) h = refl
further_take (suc n) (step.More b ∷ steps) h = absurd (cc)
further_take (suc n) (step.Component c ∷ steps) h = refl
further_take (suc n) (step.Group g len ∷ steps) h = refl

begins_short : (front steps : List Step) (n : ℕ) → length front ≤ length (take n steps) → BeginsWith front steps → BeginsWith front (take n steps)
begins_short front steps n enough begins =
    let enough' : length front ≤ n = omega (arith, length-take n steps) in (
      take (n - length front) begins.0,
      ap (take n) begins.1 ∙ take_joined front begins.0 n enough',
      further_take (n - length front) begins.0 begins.2,
    )

says_short : (j : Joined) (steps : List Step) (n : ℕ) → BeginsWithParts j steps → BeginsWithParts j (take n steps)
says_short j steps n says =
    λ some enough. begins_short (parts j) steps n enough (says some (omega (arith, length-take n steps)))

pub Fits-take : (n : ℕ) (js : List Joined) (steps : List Step) → Fits js steps → Fits (take n js) (take n steps)
Fits-take zero js steps h = tt
Fits-take (suc n) [] steps h = tt
Fits-take (suc n) (j ∷ js) [] h = tt
Fits-take (suc n) (j ∷ js) (s ∷ steps) h = (says_short j (s ∷ steps) (suc n) h.0, Fits-take n js steps h.1)

pub Fits-drop : (n : ℕ) (js : List Joined) (steps : List Step) → Fits js steps → Fits (drop n js) (drop n steps)
Fits-drop zero js steps h = h
Fits-drop (suc n) [] steps h = tt
Fits-drop (suc n) (j ∷ js) [] h = fits_none (drop n js)
  where
    fits_none : (js : List Joined) → Fits js []
    fits_none [] = tt
    fits_none (j ∷ js) = tt
Fits-drop (suc n) (j ∷ js) (s ∷ steps) h = Fits-drop n js steps h.1

pub says_at : (i : ℕ) (d : Joined) (js : List Joined) (steps : List Step) → Fits js steps → i < length js → length js ≡ length steps →
    BeginsWithParts (get_or js i d) (drop i steps)
says_at i d [] steps h within same = absurd (omega arith)
says_at i d (j ∷ js) [] h within same = absurd (omega arith)
says_at zero d (j ∷ js) (s ∷ steps) h within same = h.0
says_at (suc i) d (j ∷ js) (s ∷ steps) h within same = says_at i d js steps h.1 (omega arith) (omega arith)

drop_nothing : (n : ℕ) → drop {A = Step} n [] ≡ []
drop_nothing zero = refl
drop_nothing (suc n) = refl

pub drop_further : (n m : ℕ) (steps : List Step) → drop (n + m) steps ≡ drop m (drop n steps)
drop_further zero m steps = let same : 0 + m ≡ m = omega arith in ap (λ k. drop k steps) same
drop_further (suc n) m [] = drop_nothing (suc n + m) ∙ sym (drop_nothing m)
drop_further (suc n) m (s ∷ steps) =
    let same : suc n + m ≡ suc (n + m) = omega arith in
    ap (λ k. drop k (s ∷ steps)) same ∙ drop_further n m steps

-- one more at the end
pub Fits-push : (js : List Joined) (steps : List Step) (j : Joined) → length js ≤ length steps → Fits js steps → BeginsWithParts j (drop (length js) steps) →
    Fits (js ++ j ∷ []) steps
Fits-push [] [] j within h says = tt
Fits-push [] (s ∷ steps) j within h says = (says, tt)
Fits-push (k ∷ js) [] j within h says = tt
Fits-push (k ∷ js) (s ∷ steps) j within h says = (h.0, Fits-push js steps j (omega arith) h.1 says)

-- the steps are bytes and components, each on its own
abbrev pub AllPlain : List Step → Type 0
AllPlain [] = Unit {0}
AllPlain (step.Literal b ∷ steps) = AllPlain steps
AllPlain (step.More b ∷ steps) = ⊥
AllPlain (step.Component c ∷ steps) = AllPlain steps
AllPlain (step.Group g len ∷ steps) = ⊥

append_nil : (xs : List Step) → xs ++ [] ≡ xs
append_nil [] = refl
append_nil (x ∷ xs) = ap (λ ys. x ∷ ys) (append_nil xs)

followed_by_none : (ts : Trees) → followed_by ts none ≡ ts
followed_by_none none = refl
followed_by_none (more t ts) = ap (more t) (followed_by_none ts)

pub first_step : (s : Step) (steps : List Step) →
    steps_trees (s ∷ steps) ≡ more (tree_at steps_trees s steps) (steps_trees (steps_after s steps))
first_step s steps =
    first_item (s ∷ steps) s (omega arith) refl
    ∙ ap (λ ys. more (tree_at steps_trees s ys) (steps_trees (steps_after s ys))) (behind_is (s ∷ steps) (omega arith))

pub further_plain : (front after : List Step) → AllPlain front → further after ≡ [] → further (front ++ after) ≡ []
further_plain [] after p e = e
further_plain (step.Literal b ∷ front) after p e = refl
further_plain (step.More b ∷ front) after p e = absurd p
further_plain (step.Component c ∷ front) after p e = refl
further_plain (step.Group g len ∷ front) after p e = absurd p

pub plain_row : (front after : List Step) → AllPlain front → further after ≡ [] →
    steps_trees (front ++ after) ≡ followed_by (leaves front) (steps_trees after)
plain_row [] after p e = refl
plain_row (step.Literal b ∷ front) after p e =
    first_step (step.Literal b) (front ++ after)
    ∙ ap (λ f. more (literal (b ∷ f)) (steps_trees (drop (length f) (front ++ after)))) (further_plain front after p e)
    ∙ ap (more (literal (b ∷ []))) (plain_row front after p e)
plain_row (step.More b ∷ front) after p e = absurd p
plain_row (step.Component c ∷ front) after p e =
    first_step (step.Component c) (front ++ after) ∙ ap (more (component false c)) (plain_row front after p e)
plain_row (step.Group g len ∷ front) after p e = absurd p

-- steps that are bytes and components, with none after them
pub plain_alone : (steps : List Step) → AllPlain steps → steps_trees steps ≡ leaves steps
plain_alone steps p =
    ap steps_trees (sym (append_nil steps)) ∙ plain_row steps [] p refl
    ∙ ap (followed_by (leaves steps)) (steps_trees-end [] (omega arith)) ∙ followed_by_none (leaves steps)

pub fraction_row : (p : ℕ) (after : List Step) → steps_trees (fraction_parts p ++ after) ≡ more (fraction_tree p) (steps_trees after)
fraction_row p after =
    let inside = step.Literal p ∷ step.Component (Subsecond SUBSECOND) ∷ [] in
    first_step (step.Group Optional 2) (inside ++ after)
    ∙ ap (λ ts. more (optional (sequence ts)) (steps_trees after)) (plain_alone inside tt)

pub second_row : (b p : ℕ) (after : List Step) → steps_trees (second_parts b p ++ after) ≡ more (seconds_tree b p) (steps_trees after)
second_row b p after =
    let second = step.Literal b ∷ step.Component (Second SECOND) ∷ [] in
    let fraction : steps_trees (fraction_parts p) ≡ more (fraction_tree p) none =
    fraction_row p [] ∙ ap (more (fraction_tree p)) (steps_trees-end [] (omega arith)) in
    first_step (step.Group Optional 5) ((second ++ fraction_parts p) ++ after)
    ∙ ap (λ ts. more (optional (sequence ts)) (steps_trees after))
    (plain_row second (fraction_parts p) tt refl ∙ ap (followed_by (leaves second)) fraction)

further_alone : (steps : List Step) → further (take (length (further steps)) steps) ≡ further steps
further_alone [] = refl
further_alone (step.Literal b ∷ steps) = refl
further_alone (step.More b ∷ steps) = ap (λ bs. b ∷ bs) (further_alone steps)
further_alone (step.Component c ∷ steps) = refl
further_alone (step.Group g len ∷ steps) = refl

take_most : (len : ℕ) (steps : List Step) → take (min len (length steps)) steps ≡ take len steps
take_most len steps =
    elim (cases_lt len (length steps)) [
      | inl low ↦ let same : min len (length steps) ≡ len = omega arith in ap (λ k. take k steps) same
      | inr high ↦ take_all (min len (length steps)) steps (omega arith) ∙ sym (take_all len steps high)
    ]

take_twice : (len : ℕ) (steps : List Step) → take len (take (min len (length steps)) steps) ≡ take len steps
take_twice len steps = ap (take len) (take_most len steps) ∙ take_all len (take len steps) (omega (arith, length-take len steps))

drop_end : (n : ℕ) (steps : List Step) → length steps ≤ n → steps_trees (drop n steps) ≡ none
drop_end n steps h = steps_trees-end (drop n steps) (omega (arith, length-drop n steps))

-- an item on its own
pub item_alone : (s : Step) (behind : List Step) →
    steps_trees (s ∷ take (item_length s behind) behind) ≡ more (tree_at steps_trees s behind) none
item_alone (step.Literal b) behind =
    let n = length (further behind) in
    let most = further_within behind in
    first_step (step.Literal b) (take n behind)
    ∙ ap (λ f. more (literal (b ∷ f)) (steps_trees (drop (length f) (take n behind)))) (further_alone behind)
    ∙ ap (more (literal (b ∷ further behind))) (drop_end n (take n behind) (omega (arith, length-take n behind)))
item_alone (step.More b) behind =
    let n = length (further behind) in
    let most = further_within behind in
    first_step (step.More b) (take n behind)
    ∙ ap (λ f. more (literal (b ∷ f)) (steps_trees (drop (length f) (take n behind)))) (further_alone behind)
    ∙ ap (more (literal (b ∷ further behind))) (drop_end n (take n behind) (omega (arith, length-take n behind)))
item_alone (step.Component c) behind =
    first_step (step.Component c) (take 0 behind)
    ∙ ap (more (component false c)) (drop_end 0 (take 0 behind) (omega (arith, length-take 0 behind)))
item_alone (step.Group g len) behind =
    let n = min len (length behind) in
    first_step (step.Group g len) (take n behind)
    ∙ ap (λ ys. more (group_tree g (steps_trees ys)) (steps_trees (drop len (take n behind)))) (take_twice len behind)
    ∙ ap (more (group_tree g (steps_trees (take len behind)))) (drop_end len (take n behind) (omega (arith, length-take n behind)))

-- a first step and those after it, as a pattern has them
pub first_and_behind : (left : List Step) (x : Step) → 1 ≤ length left → x ≡ get_or left 0 x → left ≡ x ∷ behind_first left
first_and_behind [] x within is = absurd (omega arith)
first_and_behind (s ∷ left) x within is =
    ap (λ y. y ∷ left) (sym is) ∙ ap (λ ys. x ∷ ys) (sym (behind_is (s ∷ left) (omega arith)))

-- steps that are split after as many as are in front
pub begins_so : (front steps first behind : List Step) → first ≡ take (length front) steps → behind ≡ drop (length front) steps →
    first ≡ front → further behind ≡ [] → BeginsWith front steps
begins_so front steps first behind is is' same e = (
  behind,
  sym (take-append-drop (length front) steps) ∙ ap (λ xs. xs ++ drop (length front) steps) (sym is ∙ same)
      ∙ ap (λ ys. front ++ ys) (sym is'),
  e,
)

pub begins_one : (s : Step) (steps : List Step) → 1 ≤ length steps → s ≡ get_or steps 0 s → further (behind_first steps) ≡ [] →
    BeginsWith (s ∷ []) steps
begins_one s steps some is e = (behind_first steps, first_and_behind steps s some is, e)

module _ (left : List Step) (x : Step) (some : 1 ≤ length left) (is : x ≡ get_or left 0 x) where
  cut_one : (k : ℕ) → (take (1 + k) left ≡ x ∷ take k (behind_first left)) × (drop (1 + k) left ≡ drop k (behind_first left))
  cut_one k =
      let same : 1 + k ≡ suc k = omega arith in
      let whole = first_and_behind left x some is in
      (ap (λ n. take n left) same ∙ ap (take (suc k)) whole, ap (λ n. drop n left) same ∙ ap (drop (suc k)) whole)

  -- an item of a row, and those after it
  module _ (k : ℕ) (len : k ≡ item_length x (behind_first left)) where
    pub item_trees : (part : List Step) → part ≡ take (1 + k) left → steps_trees part ≡ more (tree_at steps_trees x (behind_first left)) none
    item_trees part front =
        ap steps_trees (front ∙ (cut_one k).0)
        ∙ ap (λ n. steps_trees (x ∷ take n (behind_first left))) len ∙ item_alone x (behind_first left)

    pub item_row : (after : List Step) → after ≡ drop (1 + k) left →
        steps_trees left ≡ more (tree_at steps_trees x (behind_first left)) (steps_trees after)
    item_row after back =
        let rest : steps_after x (behind_first left) ≡ after =
        sym (item_after x (behind_first left)) ∙ ap (λ n. drop n (behind_first left)) (sym len) ∙ sym (back ∙ (cut_one k).1) in
        first_item left x some is ∙ ap (λ ys. more (tree_at steps_trees x (behind_first left)) (steps_trees ys)) rest

  -- a group, and the steps after it
  pub group_row : (g : Group) (len n : ℕ) (inside after : List Step) → x ≡ step.Group g len → n ≡ min len (length (behind_first left)) →
      inside ≡ take n (behind_first left) → after ≡ drop n (behind_first left) →
      steps_trees left ≡ more (group_tree g (steps_trees inside)) (steps_trees after)
  group_row g len n inside after of least front back =
      let behind = behind_first left in
      let front' : take len behind ≡ inside = sym (take_most len behind) ∙ ap (λ m. take m behind) (sym least) ∙ sym front in
      let back' : drop len behind ≡ after = sym (drop_most len behind) ∙ ap (λ m. drop m behind) (sym least) ∙ sym back in
      first_item left x some is
      ∙ ap (λ y. more (tree_at steps_trees y behind) (steps_trees (steps_after y behind))) of
      ∙ ap (λ ys. more (group_tree g (steps_trees ys)) (steps_trees (drop len behind))) front'
      ∙ ap (λ ys. more (group_tree g (steps_trees inside)) (steps_trees ys)) back'

-- a byte or a component, with no step after it
pub lone_row : (steps : List Step) (x y : Step) → 1 ≤ length steps → x ≡ get_or steps 0 x → x ≡ y → AllPlain (y ∷ []) →
    (length (behind_first steps) == 0) ≡ true → steps_trees steps ≡ leaves (y ∷ [])
lone_row steps x y some is of plain alone =
    ap steps_trees (first_and_behind steps x some is ∙ ap (λ z. z ∷ behind_first steps) of ∙ ap (λ ys. y ∷ ys) (nothing (behind_first steps) alone))
    ∙ plain_alone (y ∷ []) plain
  where
    nothing : (ys : List Step) → (length ys == 0) ≡ true → ys ≡ []
    nothing [] e = refl
    nothing (z ∷ ys) e = absurd (omega (arith, eqb-true (length (z ∷ ys)) 0 e))

-- ---- A walk over a row of steps from its beginning

pub kept_more : (steps kept left : List Step) (x : Step) → steps ≡ kept ++ left → 1 ≤ length left → x ≡ get_or left 0 x →
    steps ≡ (kept ++ x ∷ []) ++ behind_first left
kept_more steps kept left x all some is =
    all ∙ ap (λ ys. kept ++ ys) (first_and_behind left x some is) ∙ sym (append_assoc kept (x ∷ []) (behind_first left))

pub fits_more : (steps kept left : List Step) (js : List Joined) (j : Joined) → steps ≡ kept ++ left → Fits js steps →
    length js ≡ length kept → BeginsWithParts j left → Fits (js ++ j ∷ []) steps
fits_more steps kept left js j all fits same says =
    let at : drop (length js) steps ≡ left = ap (λ n. drop n steps) same ∙ ap (drop (length kept)) all ∙ drop_joined kept left in
    let within : length js ≤ length steps = omega (arith, ap length all, length-append kept left) in
    Fits-push js steps j within fits (subst (BeginsWithParts j) (sym at) says)

pub kept_all : (steps kept left : List Step) → steps ≡ kept ++ left → length left ≤ 0 → kept ≡ steps
kept_all steps kept [] all h = sym (all ∙ append_none kept)
  where
    append_none : (xs : List Step) → xs ++ [] ≡ xs
    append_none [] = refl
    append_none (x ∷ xs) = ap (λ ys. x ∷ ys) (append_none xs)
kept_all steps kept (x ∷ left) all h = absurd (omega arith)

pub room : (N : ℕ) (steps kept left : List Step) → length steps ≤ N → steps ≡ kept ++ left → 1 ≤ length left → length kept < N
room N steps kept left most all some = omega (arith, ap length all, length-append kept left)
