use Rattle.std.proofs.Common.{◌∙◌, sym}
use Rattle.time_values.proofs.InstantLemmas.{same_moment, clock_nanos_range}
use Rattle.time_values.proofs.offset_date_time.OffsetDateTime.is_valid_leap_second_stand_in.Goals as goal

pub returns-in-Some : goal.returns-in-Some
returns-in-Some c =
    let utc = c.in-Some.utc in
    let here = c.in-Some.ensures.value in (
      λ yes. (utc.date, utc.time, here, c.is_valid_leap_second_stand_in.ensures.0 yes, utc.date.year_in),
      λ h. let same = same_moment h.0 utc.date h.1 utc.time (h.2 ∙ sym here) in
          c.is_valid_leap_second_stand_in.ensures.1 (rw (← same.0, ← same.1) h.3),
    )

pub returns-in-None : goal.returns-in-None
returns-in-None c = (
  λ no. cc,
  λ h. absurd (c.in-None.ensures.none (rw (← h.2) (clock_nanos_range h.0 h.1))),
)
