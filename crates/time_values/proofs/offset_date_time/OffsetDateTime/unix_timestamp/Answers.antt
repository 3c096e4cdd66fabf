use Rattle.std.proofs.Common.{arith}
use Rattle.std.proofs.lemmas.Int.{ints}
use Rattle.time_values.proofs.InstantLemmas.{clock_nanos_is, instant_is}
use Rattle.time_values.proofs.offset_date_time.OffsetDateTime.unix_timestamp.Goals as goal

pub returns : goal.returns
returns c =
    let o = c.args.self in (
      omega (arith, ints, clock_nanos_is o.date o.time, instant_is o.date o.time o.offset),
      omega (arith, ints, clock_nanos_is o.date o.time, instant_is o.date o.time o.offset),
    )
