use Rattle.std.proofs.Common.{arith}
use Rattle.std.proofs.lemmas.Int.{ints}
use Rattle.restamp_command.proofs.FormatLemmas.{near}
use Rattle.restamp_command.proofs.bounds.since_1970.Goals as goal

pub returns-clause-range : goal.returns-clause-range
returns-clause-range c = omega (arith, ints, near c.unix_timestamp_nanos.result c.unix_timestamp_nanos.ensures.range)
