use Rattle.std.proofs.Common.{length}
use Rattle.restamp_command.proofs.pointing.+write_escaped.Given as goal

abbrev pub decreases-write_escaped : goal.decreases-write_escaped
decreases-write_escaped g l = length l.bytes.now
