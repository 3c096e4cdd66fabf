-- Worked values of names and printed values, by the definitions alone. A wrong rule in the specs fails to check
-- here.
use Rattle.std.proofs.Common.{get_or, ◌≡◌, ℕ, List, [], ◌∷◌, ◌++◌, length, pos, neg_ℤ, true, false, Some, None, Err, codes, refl, sym, ap, ◌∙◌, arith}
use Rattle.time_values.specs.Dates.{HasParts}
use Rattle.time_values.specs.Offsets.{HasOffset}
use Rattle.time_values.specs.Refusal.{component, range}
use Rattle.time_values.specs.DisplayTexts.{fixed}
use Rattle.time_values.specs.Times.{HasClock}
use Rattle.time_values.specs.declared.date.Date.{Date}
use Rattle.time_values.specs.declared.month.Month.TheVariants.{January}
use Rattle.time_values.specs.declared.time.Time.{Time}
use Rattle.time_values.specs.declared.utc_offset.UtcOffset.{UtcOffset}
use Rattle.programs_answers.specs.Formats.{format_named, target_named}
use Rattle.programs_answers.specs.declared.formats.Format.TheVariants.{Rfc3339}
use Rattle.programs_answers.specs.declared.formats.Target.TheVariants.{Staged}
use Rattle.programs_answers.specs.Output.{date_text, offset_text, printed, time_text, year_text}

-- ---- Names

pub a_format : format_named (codes "rfc3339") ≡ Some Rfc3339
a_format = refl

pub a_target : target_named (codes "staged") ≡ Some Staged
a_target = refl

pub names_in_their_case : format_named (codes "RFC3339") ≡ None
names_in_their_case = refl

pub no_format_of_a_target : format_named (codes "date") ≡ None
no_format_of_a_target = refl

pub no_target_of_nothing : target_named [] ≡ None
no_target_of_nothing = refl

-- ---- Printed values

pub a_date : (d : Date) → HasParts (neg_ℤ (pos 5)) January 2 d → date_text d ≡ codes "-0005-01-02"
unfolding fixed
a_date d parts = simp (parts.0, parts.1, parts.2)

pub a_time : (t : Time) → HasClock 3 4 5 500_000_000 t → time_text t ≡ codes "03:04:05.500000000"
unfolding fixed
a_time t clock = simp (clock.0, clock.1, clock.2, clock.3)

-- an offset has a minus if any of its parts is negative
pub an_offset : (o : UtcOffset) → HasOffset (pos 0) (neg_ℤ (pos 30)) (pos 0) o → offset_text o ≡ codes "-00:30:00"
unfolding fixed
an_offset o has = simp (has.0, has.1, has.2)

pub a_year_of_four_digits : year_text (pos 7) ≡ codes "0007"
unfolding fixed
a_year_of_four_digits = refl

pub a_refusal : printed date_text (Err (range (codes "second") true)) ≡ codes "error: second is out of range for the other components"
a_refusal = refl

pub a_refusal_of_a_component : printed date_text (Err (component (codes "month"))) ≡ codes "error: the 'month' component could not be parsed"
a_refusal_of_a_component = refl

pub no_plus_before_a_negative_minute : (o : UtcOffset) → HasOffset (pos 0) (neg_ℤ (pos 30)) (pos 0) o → offset_text o ≡ codes "+00:30:00" → ⊥
no_plus_before_a_negative_minute o has h =
    omega (arith, ap (λ text. get_or text 0 0) (sym (an_offset o has) ∙ h))

pub no_shorter_year : year_text (pos 7) ≡ codes "7" → ⊥
no_shorter_year h = omega (arith, ap length (sym a_year_of_four_digits ∙ h))

pub no_condition_in_the_text : printed date_text (Err (range (codes "second") false)) ≡ codes "error: second is out of range for the other components" → ⊥
no_condition_in_the_text h = omega (arith, ap length h)
