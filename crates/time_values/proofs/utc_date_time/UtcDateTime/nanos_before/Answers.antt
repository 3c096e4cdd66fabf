use Rattle.std.proofs.Common.{arith}
use Rattle.std.proofs.lemmas.Int.{ints}
use Rattle.time_values.proofs.InstantLemmas.{clock_nanos_near}
use Rattle.time_values.proofs.utc_date_time.UtcDateTime.nanos_before.Goals as goal

pub overflow_sub-result : goal.overflow_sub-result
overflow_sub-result c = omega (arith, ints, clock_nanos_near c.args.self.date c.args.self.time)

pub returns : goal.returns
returns c = omega (arith, ints, clock_nanos_near c.args.self.date c.args.self.time)
