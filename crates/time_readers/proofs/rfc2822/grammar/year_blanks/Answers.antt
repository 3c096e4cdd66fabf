use Rattle.std.proofs.Common.{true, false, ◌∙◌}
use Rattle.time_readers.proofs.MailBlanks.{after-year}
use Rattle.time_readers.proofs.rfc2822.grammar.year_blanks.Goals as goal

pub returns-then-year_is_full : goal.returns-then-year_is_full
returns-then-year_is_full c n = after-year true _ n _ _ c.if-year_is_full.true (c.rest_of.ensures ∙ c.fws.ensures)

pub returns-else-year_is_full : goal.returns-else-year_is_full
returns-else-year_is_full c n = after-year false _ n _ _ c.if-year_is_full.false (c.rest_of-else-year_is_full.ensures ∙ c.cfws.ensures)
