use Rattle.time_parsing.proofs.TreeLemmas.{answers_alike}
use Rattle.time_preparing.proofs.laws.law_prepared.Goals as goal

pub returns : goal.returns
returns g c = answers_alike _ _ _
