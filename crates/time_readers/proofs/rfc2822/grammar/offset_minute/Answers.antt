use Rattle.std.proofs.Common.{arith}
use Rattle.time_readers.proofs.MailBlanks.{two_digits-below}
use Rattle.time_readers.proofs.rfc2822.grammar.offset_minute.Goals as goal

pub signed-numbers-requires : goal.signed-numbers-requires
signed-numbers-requires g c = omega (arith, two_digits-below _ 0 59 _ _ _ c.in_ok-found.ensures)
