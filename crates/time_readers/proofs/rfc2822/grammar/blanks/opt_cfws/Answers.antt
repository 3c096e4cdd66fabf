use Rattle.std.proofs.Common.{Some, sym}
use Rattle.time_readers.specs.MailBlanks.{cfws, opt_cfws}
use Rattle.time_readers.proofs.Repeats.{or-some, or-none}
use Rattle.time_readers.proofs.rfc2822.grammar.blanks.opt_cfws.Goals as goal

pub returns-in-Some : goal.returns-in-Some
unfolding opt_cfws
returns-in-Some c = sym (or-some cfws Some _ _ (sym c.in-Some.ensures))

pub returns-in-None : goal.returns-in-None
unfolding opt_cfws
returns-in-None c = sym (or-none cfws Some _ (sym c.in-None.ensures))
