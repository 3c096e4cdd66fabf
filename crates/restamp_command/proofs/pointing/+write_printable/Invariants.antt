use Rattle.std.proofs.Common.{length}
use Rattle.restamp_command.proofs.pointing.+write_printable.Given as goal

abbrev pub decreases-write_printable : goal.decreases-write_printable
decreases-write_printable g l = length l.bytes.now
