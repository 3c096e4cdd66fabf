use Rattle.std.proofs.Common.{◌≡◌, ℕ, List, refl, ap, ◌∙◌, Option, None, Some, MatchOption}
use Rattle.time_values.specs.Calendar.{greatest_year}
use Rattle.programs_answers.specs.declared.formats.Format.{Format}
use Rattle.programs_answers.specs.declared.formats.Target.{Target}
use Rattle.programs_answers.specs.Formats.{format_named, target_named}
use Rattle.programs_answers.specs.Output.{IsParsed}
use Rattle.time_lines.specs.Output.{split_at_tab, IsAnswer}
use Rattle.time_lines.specs.Pieces.{StartsWithName}
use Rattle.time_lines.proofs.answers.fast.request.Goals as goal

-- ---- Lines of known names.

-- the name that the bytes start with, before TAB and the rest
name_at_start : {X : Type 0} (named : List ℕ → Option X) (bytes : List ℕ) (x : X) (rest : List ℕ) (o : Option (List ℕ × List ℕ))
    → split_at_tab bytes ≡ o → MatchOption o ⊥ (λ split. (named split.0 ≡ Some x) × (split.1 ≡ rest))
    → (name : List ℕ) × (split_at_tab bytes ≡ Some (name, rest)) × (named name ≡ Some x)
name_at_start named bytes x rest None e h = absurd h
name_at_start named bytes x rest (Some split) e h = (split.0, e ∙ ap (λ r. Some (split.0, r)) h.1, h.0)

-- a line with known names is answered by the outcome of its text
IsAnswer-named : (line rest text : List ℕ) (f : Format) (t : Target) (answer : List ℕ)
    → StartsWithName format_named line f rest → StartsWithName target_named rest t text
    → IsParsed f t text answer → IsAnswer line answer
unfolding IsAnswer
IsAnswer-named line rest text f t answer b d is =
    let front = name_at_start format_named line f rest (split_at_tab line) refl b in
    let behind = name_at_start target_named rest t text (split_at_tab rest) refl d in
    rw (front.1, behind.1, front.2, behind.2) is

pub returns : goal.returns
returns c =
    λ answer is. IsAnswer-named _ _ _ _ _ answer c.in_ok-format.ensures c.in_ok-target.ensures is
