use Rattle.std.proofs.Common.{arith}
use Rattle.std.proofs.lemmas.Int.{ints}
use Rattle.time_values.proofs.InstantLemmas.{clock_nanos_near}
use Rattle.time_values.proofs.utc_date_time.UtcDateTime.nanos_after.Goals as goal

pub overflow_add-result : goal.overflow_add-result
overflow_add-result c = omega (arith, ints, clock_nanos_near c.args.self.date c.args.self.time)

pub returns : goal.returns
returns c = omega (arith, ints, clock_nanos_near c.args.self.date c.args.self.time)
