use Rattle.std.proofs.Common.{arith}
use Rattle.std.proofs.lemmas.Int.{ints}
use Rattle.time_values.proofs.InstantLemmas.{clock_nanos_is, first_instant_is, last_instant_is}
use Rattle.time_values.proofs.arithmetic.moved.Goals as goal
use Rattle.time_values.proofs.arithmetic.moved.Goals.{then-day-lt3-via-then-day-lt3, then-day-lt3-via-else-day-lt3+then-day}

pub returns-then-day-lt3-clause-none : goal.returns-then-day-lt3-clause-none
returns-then-day-lt3-clause-none c = λ within.
    elim c.then-day-lt3.branch [
      | then-day-lt3-via-then-day-lt3 w ↦
          omega (arith, ints, within, first_instant_is, clock_nanos_is c.args.date c.args.time)
      | then-day-lt3-via-else-day-lt3+then-day w ↦
          omega (arith, ints, within, last_instant_is, clock_nanos_is c.args.date c.args.time)
    ]

pub returns-clause-value : goal.returns-clause-value
returns-clause-value c =
    rw (c.new.ensures.date, c.new.ensures.time)
    (omega (
      arith,
      ints,
      clock_nanos_is c.from_day_number.result c.at_second_of_day-time.result,
      clock_nanos_is c.args.date c.args.time,
    ))
