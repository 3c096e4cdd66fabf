use Rattle.time_zones.proofs.FolderLemmas.{compared-other}
use Rattle.time_zones.proofs.checking.check_fixed.Goals as goal

pub returns : goal.returns
returns c = rw (← c.offset.ensures) (compared-other _ _ c.is_same.result c.is_same.ensures c.if-is_same.false)
