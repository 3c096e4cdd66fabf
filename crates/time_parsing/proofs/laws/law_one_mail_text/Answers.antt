use Rattle.time_parsing.proofs.OneOutcome.{one_mail_text}
use Rattle.time_parsing.proofs.laws.law_one_mail_text.Goals as goal

pub returns : goal.returns
returns c = one_mail_text
