use Rattle.std.specs.Char.Iter.{escape_byte_left}
use Rattle.restamp_command.proofs.pointing.+write_left.Given as goal

abbrev pub decreases-write_left : goal.decreases-write_left
decreases-write_left g l = escape_byte_left l.left
