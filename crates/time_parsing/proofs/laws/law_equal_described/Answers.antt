use Rattle.time_parsing.proofs.TreeLemmas.{answers_alike}
use Rattle.time_parsing.proofs.laws.law_equal_described.Goals as goal

pub returns : goal.returns
returns g c = answers_alike _ _ _
