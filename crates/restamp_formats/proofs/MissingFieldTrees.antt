-- The record of a reading has the parts that the tree's components give.
use Rattle.time_values.specs.Calendar.{greatest_year}
use Rattle.std.proofs.Common.{◌||◌, ◌&&◌, ⊎_elim, ◌≡◌, ℕ, zero, suc, ◌≤◌, Bool, true, false, List, [], ◌∷◌, length, get_or, take, drop, refl, ap, sym, ◌∙◌, arith, length-take, length-drop, inl, inr, subst}
use Rattle.std.proofs.lemmas.{List.Folds.list_any-append, List.take-append-drop, Bool.and_parts, Bool.or_cases, Bool.or_left, Bool.or_right}
use Rattle.std.specs.List.{list_any}
use Rattle.time_components.specs.Tree.{group_tree, steps_after, steps_trees, tree_at, trees_in}
use Rattle.time_components.specs.declared.inspect.Group.{Group}
use Rattle.time_record.specs.Reading.{ReadsAll}
use Rattle.time_record.proofs.WalkSteps.{behind_first, first_item, steps_trees-end}
use Rattle.restamp_formats.specs.Common.{further, Trees, first_of, Tree, literal as tree_literal, component, sequence, optional, none as tree_none, more, Step, Reads, ReadsSome, Record, Kind, Part}
use Rattle.restamp_formats.specs.MissingField.{always, each_always, one_always, one_has, has_kind, is_of, kind_of, same}
use Rattle.restamp_formats.specs.MissingFieldSteps.{step_has}
use Rattle.restamp_formats.proofs.MissingFieldRecords.{put_tells, said}

-- ---- The parts of a row of steps, step by step

module _ (k : Kind) where
  -- the further bytes of a literal give nothing
  further_silent : (steps : List Step) → list_any (step_has k) (drop (length (further steps)) steps) ≡ list_any (step_has k) steps
  further_silent [] = refl
  further_silent (Step.Literal b ∷ steps) = refl
  further_silent (Step.More b ∷ steps) = further_silent steps
  further_silent (Step.Component c ∷ steps) = refl
  further_silent (Step.Group g len ∷ steps) = refl

  -- a group gives what its items give
  group_has_kind : (g : Group) (ts : Trees) → has_kind k (group_tree g ts) ≡ one_has k ts
  group_has_kind Group.Optional ts = refl
  group_has_kind Group.First ts = refl
  group_has_kind Group.List ts = refl

  in_two : (n : ℕ) (steps : List Step)
      → (list_any (step_has k) (take n steps) || list_any (step_has k) (drop n steps)) ≡ list_any (step_has k) steps
  in_two n steps = rw (← list_any-append (step_has k) (take n steps) (drop n steps), take-append-drop n steps)

  steps_have_kind : (n : ℕ) (steps : List Step) → length steps ≤ n → one_has k (trees_in n steps) ≡ list_any (step_has k) steps
  unfolding trees_in
  steps_have_kind zero [] fits = refl
  steps_have_kind zero (s ∷ steps) fits = absurd (omega arith)
  steps_have_kind (suc n) [] fits = refl
  steps_have_kind (suc n) (Step.Literal b ∷ steps) fits =
      steps_have_kind n (drop (length (further steps)) steps) (omega (arith, length-drop (length (further steps)) steps)) ∙ further_silent steps
  steps_have_kind (suc n) (Step.More b ∷ steps) fits =
      steps_have_kind n (drop (length (further steps)) steps) (omega (arith, length-drop (length (further steps)) steps)) ∙ further_silent steps
  steps_have_kind (suc n) (Step.Component c ∷ steps) fits = rw (steps_have_kind n steps (omega arith))
  steps_have_kind (suc n) (Step.Group g len ∷ steps) fits =
      rw (
        group_has_kind g (trees_in n (take len steps)),
        steps_have_kind n (take len steps) (omega (arith, length-take len steps)),
        steps_have_kind n (drop len steps) (omega (arith, length-drop len steps)),
      ) (in_two len steps)

  -- a row gives what one of its steps gives
  pub row_has_kind : (steps : List Step) → one_has k (steps_trees steps) ≡ list_any (step_has k) steps
  row_has_kind steps = steps_have_kind (length steps) steps (omega arith)

-- a row without steps, and the first step of another row
module _ (p : Part) (steps : List Step) where
  pub one_always-end : length steps ≤ 0 → false ≡ one_always p (steps_trees steps)
  one_always-end none = rw (steps_trees-end steps none)

  pub each_always-end : length steps ≤ 0 → true ≡ each_always p (steps_trees steps)
  each_always-end none = rw (steps_trees-end steps none)

  module _ (x : Step) (some : 1 ≤ length steps) (is : x ≡ get_or steps 0 x) where
    abbrev lack_first : Bool
    lack_first = always p (tree_at steps_trees x (behind_first steps))

    abbrev after_first : Trees
    after_first = steps_trees (steps_after x (behind_first steps))

    pub one_always-step : one_always p (steps_trees steps) ≡ (lack_first || one_always p after_first)
    one_always-step = rw (first_item steps x some is)

    pub each_always-step : each_always p (steps_trees steps) ≡ (lack_first && each_always p after_first)
    each_always-step = rw (first_item steps x some is)

-- a choice of items has a part if each item has it; an empty choice has no part
pub choice_always-some : (p : Part) (steps : List Step) → 1 ≤ length steps
    → each_always p (steps_trees steps) ≡ always p (first_of (steps_trees steps))
unfolding trees_in
choice_always-some p [] some = absurd (omega arith)
choice_always-some p (s ∷ steps) some = refl

pub choice_always-none : (p : Part) (steps : List Step) → length steps ≤ 0 → false ≡ always p (first_of (steps_trees steps))
choice_always-none p steps none = rw (steps_trees-end steps none)

-- the later trees give a part, or it was in the record after the first, which gives it or found it in the record before
from_either : (first later between before : Bool) → (later || between) ≡ true → (between ≡ true → (first || before) ≡ true)
    → ((first || later) || before) ≡ true
from_either first later between before is then = grind arith

module _ (k : Kind) where
  mutual
    unfolding Reads ReadsAll ReadsSome

    -- a part of the record after a reading was in it before, or the tree gives it
    pub only : (t : Tree) (b : List ℕ) (r : Record) (rest : List ℕ) (q : Record) → Reads greatest_year t b r rest q → said k q ≡ true
        → (has_kind k t || said k r) ≡ true
    only (tree_literal text) b r rest q h s = ap (said k) (sym h.1) ∙ s
    only (component w c) b r rest q h s = sym (put_tells k c h.value r q h.puts) ∙ s
    only (sequence ts) b r rest q h s = only_all ts b r rest q h s
    only (optional t) b r rest q (inl h) s = only t b r rest q h s
    only (optional t) b r rest q (inr h) s = or_right (has_kind k t) (said k r) (ap (said k) (sym h.2) ∙ s)
    only (first_of tree_none) b r rest q h s = ap (said k) (sym h.1) ∙ s
    only (first_of (more t ts)) b r rest q h s = only_some (more t ts) b r rest q h s

    only_all : (ts : Trees) (b : List ℕ) (r : Record) (rest : List ℕ) (q : Record) → ReadsAll greatest_year ts b r rest q → said k q ≡ true
        → (one_has k ts || said k r) ≡ true
    only_all tree_none b r rest q h s = ap (said k) (sym h.1) ∙ s
    only_all (more t ts) b r rest q (mid, p, h, hs) s =
        from_either (has_kind k t) (one_has k ts) (said k p) (said k r) (only_all ts mid p rest q hs s) (only t b r mid p h)

    only_some : (ts : Trees) (b : List ℕ) (r : Record) (rest : List ℕ) (q : Record) → ReadsSome greatest_year ts b r rest q → said k q ≡ true
        → (one_has k ts || said k r) ≡ true
    only_some tree_none b r rest q h s = absurd h
    only_some (more t ts) b r rest q (inl h) s =
        from_either (has_kind k t) (one_has k ts) true (said k r) (or_right (one_has k ts) true refl) (λ e. only t b r rest q h s)
    only_some (more t ts) b r rest q (inr h) s =
        from_either (has_kind k t) (one_has k ts) (said k r) (said k r) (only_some ts b r rest q h.1 s) (or_right (has_kind k t) (said k r))

-- the record has a value that gives the part
pub record SaysPart (p : Part) (r : Record) : Type 0 where
  pub of : Kind
  pub is : is_of p of ≡ true
  pub said : said of r ≡ true

same-one : (k : Kind) → same k k ≡ true
same-one k = grind arith

module _ (p : Part) where
  mutual
    unfolding Reads ReadsAll ReadsSome

    -- a part that was present is still present
    kept : (t : Tree) (b : List ℕ) (r : Record) (rest : List ℕ) (q : Record) → Reads greatest_year t b r rest q → SaysPart p r → SaysPart p q
    kept (tree_literal text) b r rest q h s = subst (SaysPart p) (sym h.1) s
    kept (component w c) b r rest q h s = record {
      of = s.of;
      is = s.is;
      said = put_tells s.of c h.value r q h.puts ∙ or_right (same (kind_of c) s.of) (said s.of r) s.said;
    }
    kept (sequence ts) b r rest q h s = kept_all ts b r rest q h s
    kept (optional t) b r rest q (inl h) s = kept t b r rest q h s
    kept (optional t) b r rest q (inr h) s = subst (SaysPart p) (sym h.2) s
    kept (first_of tree_none) b r rest q h s = subst (SaysPart p) (sym h.1) s
    kept (first_of (more t ts)) b r rest q h s = kept_some (more t ts) b r rest q h s

    kept_all : (ts : Trees) (b : List ℕ) (r : Record) (rest : List ℕ) (q : Record) → ReadsAll greatest_year ts b r rest q → SaysPart p r → SaysPart p q
    kept_all tree_none b r rest q h s = subst (SaysPart p) (sym h.1) s
    kept_all (more t ts) b r rest q (mid, m, h, hs) s = kept_all ts mid m rest q hs (kept t b r mid m h s)

    kept_some : (ts : Trees) (b : List ℕ) (r : Record) (rest : List ℕ) (q : Record) → ReadsSome greatest_year ts b r rest q → SaysPart p r → SaysPart p q
    kept_some tree_none b r rest q h s = absurd h
    kept_some (more t ts) b r rest q (inl h) s = kept t b r rest q h s
    kept_some (more t ts) b r rest q (inr h) s = kept_some ts b r rest q h.1 s

  mutual
    unfolding Reads ReadsAll ReadsSome

    -- each reading of a tree that always gives a part has it
    pub part_said : (t : Tree) (b : List ℕ) (r : Record) (rest : List ℕ) (q : Record) → always p t ≡ true → Reads greatest_year t b r rest q → SaysPart p q
    part_said (tree_literal text) b r rest q e h = absurd cc
    part_said (component w c) b r rest q e h = record {
      of = kind_of c;
      is = e;
      said = put_tells (kind_of c) c h.value r q h.puts ∙ or_left (same (kind_of c) (kind_of c)) (said (kind_of c) r) (same-one (kind_of c));
    }
    part_said (sequence ts) b r rest q e h = part_said_all ts b r rest q e h
    part_said (optional t) b r rest q e h = absurd cc
    part_said (first_of tree_none) b r rest q e h = absurd cc
    part_said (first_of (more t ts)) b r rest q e h = part_said_some (more t ts) b r rest q e h

    part_said_all : (ts : Trees) (b : List ℕ) (r : Record) (rest : List ℕ) (q : Record) → one_always p ts ≡ true → ReadsAll greatest_year ts b r rest q
        → SaysPart p q
    part_said_all tree_none b r rest q e h = absurd cc
    part_said_all (more t ts) b r rest q e (mid, m, h, hs) =
        ⊎_elim (λ now. kept_all ts mid m rest q hs (part_said t b r mid m now h)) (λ later. part_said_all ts mid m rest q later hs)
        (or_cases (always p t) (one_always p ts) e)

    part_said_some : (ts : Trees) (b : List ℕ) (r : Record) (rest : List ℕ) (q : Record) → each_always p ts ≡ true → ReadsSome greatest_year ts b r rest q
        → SaysPart p q
    part_said_some tree_none b r rest q e h = absurd h
    part_said_some (more t ts) b r rest q e (inl h) = part_said t b r rest q (and_parts (always p t) (each_always p ts) e).0 h
    part_said_some (more t ts) b r rest q e (inr h) = part_said_some ts b r rest q (and_parts (always p t) (each_always p ts) e).1 h.1
