use Rattle.time_parsing.proofs.OneOutcome.{one_extended_text, one_basic_text, extended_or_basic}
use Rattle.time_parsing.proofs.laws.law_one_iso_text.Goals as goal

pub returns-clause-extended : goal.returns-clause-extended
returns-clause-extended c = one_extended_text

pub returns-clause-basic : goal.returns-clause-basic
returns-clause-basic c = one_basic_text

pub returns-clause-apart : goal.returns-clause-apart
returns-clause-apart c = extended_or_basic
