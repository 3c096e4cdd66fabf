use Rattle.std.proofs.Common.{◌∙◌}
use Rattle.time_readers.specs.MailBlanks.{opt_cfws_colon_opt_cfws}
use Rattle.time_readers.proofs.MailBlanks.{colon-leaves, read-answer}
use Rattle.time_readers.proofs.rfc2822.grammar.hour_colon.Goals as goal

pub returns : goal.returns
returns c n = read-answer opt_cfws_colon_opt_cfws colon-leaves _ _ n (c.rest_of.ensures ∙ c.opt_cfws_colon_opt_cfws.ensures)
