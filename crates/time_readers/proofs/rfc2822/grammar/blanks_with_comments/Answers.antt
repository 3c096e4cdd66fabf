use Rattle.std.proofs.Common.{◌∙◌}
use Rattle.time_readers.specs.MailBlanks.{cfws}
use Rattle.time_readers.proofs.MailBlanks.{cfws-takes, read-answer}
use Rattle.time_readers.proofs.Repeats.{takes-leaves}
use Rattle.time_readers.proofs.rfc2822.grammar.blanks_with_comments.Goals as goal

pub returns : goal.returns
returns c n = read-answer cfws (takes-leaves cfws cfws-takes) _ _ n (c.rest_of.ensures ∙ c.cfws.ensures)
