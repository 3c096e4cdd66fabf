use Rattle.restamp_in_place.proofs.FolderLemmas.{may_now}
use Rattle.restamp_in_place.proofs.laws.law_now.Goals as goal

pub returns : goal.returns
returns c = may_now
