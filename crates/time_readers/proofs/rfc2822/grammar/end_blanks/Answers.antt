use Rattle.std.proofs.Common.{Some}
use Rattle.time_readers.specs.MailBlanks.{opt_cfws}
use Rattle.time_readers.proofs.MailBlanks.{opt_cfws-leaves, read-answer}
use Rattle.time_readers.proofs.rfc2822.grammar.end_blanks.Goals as goal

pub returns : goal.returns
returns c n = read-answer opt_cfws opt_cfws-leaves _ (Some c.opt_cfws-rest.result.0) n c.opt_cfws-rest.ensures
