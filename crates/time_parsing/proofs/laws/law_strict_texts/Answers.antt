use Rattle.time_values.specs.Calendar.{greatest_year}
use Rattle.time_parsing.proofs.StrictTexts.{strict_texts}
use Rattle.time_parsing.proofs.laws.law_strict_texts.Goals as goal

pub returns : goal.returns
returns c = strict_texts greatest_year
