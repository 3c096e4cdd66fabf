use Rattle.std.proofs.Common.{arith}
use Rattle.std.proofs.lemmas.Int.{ints}
use Rattle.time_values.proofs.InstantLemmas.{first_instant_is, last_instant_is}
use Rattle.time_values.proofs.timestamp.Timestamp.seconds_and_nanosecond.Goals as goal

pub returns : goal.returns
returns c =
    record {
      value = omega (arith, ints, first_instant_is, last_instant_is);
      seconds = (omega (arith, ints, first_instant_is, last_instant_is), omega (arith, ints, first_instant_is, last_instant_is));
      nanosecond = omega arith;
    }
