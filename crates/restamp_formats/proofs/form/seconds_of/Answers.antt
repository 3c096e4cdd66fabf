use Rattle.std.proofs.Common.{arith}
use Rattle.std.proofs.lemmas.Int.{ints, to_z-of_z}
use Rattle.std.specs.Int.{w64}
use Rattle.time_values.proofs.InstantLemmas.{first_instant_is, last_instant_is}
use Rattle.restamp_formats.proofs.form.seconds_of.Goals as goal

pub returns-then-seconds-lt-FIRST_SECOND : goal.returns-then-seconds-lt-FIRST_SECOND
returns-then-seconds-lt-FIRST_SECOND c = λ within. let low = within.0 in omega (arith, ints, first_instant_is)

pub returns-then-seconds-gt-LAST_SECOND : goal.returns-then-seconds-gt-LAST_SECOND
returns-then-seconds-gt-LAST_SECOND c = λ within. let high = within.1 in omega (arith, ints, last_instant_is)

pub returns : goal.returns
returns c =
    let kept = to_z-of_z w64 c.unix_timestamp-seconds.result (omega (arith, ints)) in
    rw kept (
      (omega (arith, ints, first_instant_is), omega (arith, ints, last_instant_is)),
      c.unix_timestamp-seconds.ensures,
    )
