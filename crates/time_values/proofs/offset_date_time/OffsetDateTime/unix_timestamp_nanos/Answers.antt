use Rattle.std.proofs.Common.{arith}
use Rattle.std.proofs.lemmas.Int.{ints}
use Rattle.time_values.proofs.InstantLemmas.{instant_is, first_instant_is, last_instant_is}
use Rattle.time_values.proofs.offset_date_time.OffsetDateTime.unix_timestamp_nanos.Goals as goal

pub overflow_sub-result : goal.overflow_sub-result
overflow_sub-result c = omega (arith, ints, first_instant_is, last_instant_is)

pub returns : goal.returns
returns c =
    let o = c.args.self in
    let clock = rw (c.new.ensures.date, c.new.ensures.time) at c.unix_timestamp_nanos-clock.ensures.value in
    omega (arith, ints, clock, first_instant_is, last_instant_is, instant_is o.date o.time o.offset)
