use Rattle.std.proofs.Common.{arith}
use Rattle.std.proofs.lemmas.Int.{ints}
use Rattle.time_values.proofs.InstantLemmas.{first_instant_is, last_instant_is, clock_nanos_is}
use Rattle.time_values.proofs.utc_date_time.UtcDateTime.at_instant.Goals as goal

pub returns : goal.returns
returns c = omega (arith, ints, first_instant_is, last_instant_is, clock_nanos_is c.from_day_number.result c.from_nanos_of_day.result)
