use Rattle.time_components.proofs.OneSpelling.{one_spelling}
use Rattle.time_components.proofs.laws.law_one_spelling.Goals as goal

pub returns : goal.returns
returns c = one_spelling
