-- The steps that belong to a step, and those after them.
use Rattle.std.specs.Prelude.{min}
use Rattle.std.proofs.Common.{◌≡◌, ℕ, ◌≤◌, List, [], ◌∷◌, length, drop, inl, inr, refl, ap, sym, ◌∙◌, arith}
use Rattle.std.proofs.lemmas.List.{drop_all}
use Rattle.std.proofs.lemmas.Bool.{cases_lt}
use Rattle.time_components.specs.Tree.{further, item_length, steps_after}
use Rattle.time_components.specs.declared.inspect.Step.{Step}
use Rattle.time_components.specs.declared.inspect.Step.TheVariants as step

-- A literal's further bytes are as many as follow it.
pub further_within : (steps : List Step) → length (further steps) ≤ length steps
further_within [] = omega arith
further_within (step.Literal b ∷ steps) = omega arith
further_within (step.More b ∷ steps) = let h = further_within steps in omega arith
further_within (step.Component c ∷ steps) = omega arith
further_within (step.Group g len ∷ steps) = omega arith

pub drop_most : (len : ℕ) (steps : List Step) → drop (min len (length steps)) steps ≡ drop len steps
drop_most len steps =
    elim (cases_lt len (length steps)) [
      | inl low ↦ let same : min len (length steps) ≡ len = omega arith in ap (λ k. drop k steps) same
      | inr high ↦ drop_all (min len (length steps)) steps (omega arith) ∙ sym (drop_all len steps high)
    ]

pub item_within : (s : Step) (behind : List Step) → item_length s behind ≤ length behind
item_within (step.Literal b) behind = further_within behind
item_within (step.More b) behind = further_within behind
item_within (step.Component c) behind = omega arith
item_within (step.Group g len) behind = omega arith

pub item_after : (s : Step) (behind : List Step) → drop (item_length s behind) behind ≡ steps_after s behind
item_after (step.Literal b) behind = refl
item_after (step.More b) behind = refl
item_after (step.Component c) behind = refl
item_after (step.Group g len) behind = drop_most len behind
