use Rattle.std.proofs.Common.{arith}
use Rattle.std.proofs.lemmas.Int.{ints}
use Rattle.time_values.proofs.InstantLemmas.{clock_nanos_is, first_instant_is, last_instant_is, day_limit_is, day_number_in}
use Rattle.time_values.proofs.utc_date_time.UtcDateTime.unix_timestamp_nanos.Goals as goal

pub returns-clause-value : goal.returns-clause-value
returns-clause-value c =
    let u = c.args.self in
    omega (arith, ints, clock_nanos_is u.date u.time)

pub returns-clause-range : goal.returns-clause-range
returns-clause-range c =
    omega (arith, ints, first_instant_is, last_instant_is, day_limit_is, day_number_in c.args.self.date)
