use Rattle.std.proofs.Common.{arith}
use Rattle.std.proofs.lemmas.Int.{ints}
use Rattle.time_values.proofs.InstantLemmas.{clock_nanos_is, instant_is, first_instant_is, last_instant_is}
use Rattle.time_values.proofs.offset_date_time.OffsetDateTime.checked_to_utc.Goals as goal
use Rattle.time_values.proofs.offset_date_time.OffsetDateTime.checked_to_utc.Goals.{then-day-lt2-via-then-day-lt2, then-day-lt2-via-else-day-lt2+then-day}

pub returns-then-days-eq2-clause-value : goal.returns-then-days-eq2-clause-value
returns-then-days-eq2-clause-value c =
    let o = c.args.self in
    rw (c.new.ensures.date, c.new.ensures.time)
    (omega (
      arith,
      ints,
      clock_nanos_is o.date c.at_second_of_day-time.result,
      clock_nanos_is o.date o.time,
      instant_is o.date o.time o.offset,
    ))

pub returns-then-day-lt2-clause-none : goal.returns-then-day-lt2-clause-none
returns-then-day-lt2-clause-none c = λ within.
    let o = c.args.self in
    elim c.then-day-lt2.branch [
      | then-day-lt2-via-then-day-lt2 w ↦
          omega (arith, ints, within, first_instant_is, clock_nanos_is o.date o.time, instant_is o.date o.time o.offset)
      | then-day-lt2-via-else-day-lt2+then-day w ↦
          omega (arith, ints, within, last_instant_is, clock_nanos_is o.date o.time, instant_is o.date o.time o.offset)
    ]

pub returns-clause-value : goal.returns-clause-value
returns-clause-value c =
    let o = c.args.self in
    rw (c.new-2.ensures.date, c.new-2.ensures.time)
    (omega (
      arith,
      ints,
      clock_nanos_is c.from_day_number.result c.at_second_of_day-time.result,
      clock_nanos_is o.date o.time,
      instant_is o.date o.time o.offset,
    ))
