use Rattle.std.proofs.Common.{arith}
use Rattle.std.proofs.lemmas.Int.{ints}
use Rattle.time_values.proofs.InstantLemmas.{clock_nanos_is}
use Rattle.time_values.proofs.utc_date_time.UtcDateTime.unix_timestamp.Goals as goal

pub returns : goal.returns
returns c =
    let u = c.args.self in
    (omega (arith, ints, clock_nanos_is u.date u.time), omega (arith, ints, clock_nanos_is u.date u.time))
