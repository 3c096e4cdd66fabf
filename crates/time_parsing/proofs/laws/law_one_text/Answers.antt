use Rattle.time_parsing.proofs.OneOutcome.{one_text, one_short_text}
use Rattle.time_parsing.proofs.laws.law_one_text.Goals as goal

pub returns-clause-text : goal.returns-clause-text
returns-clause-text c = one_text

pub returns-clause-auto : goal.returns-clause-auto
returns-clause-auto c = one_short_text
