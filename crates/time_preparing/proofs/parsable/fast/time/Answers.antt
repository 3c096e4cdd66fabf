use Rattle.time_record.specs.Resolution.{IsTimed}
use Rattle.time_preparing.proofs.Placing.{whole_outcome}
use Rattle.time_preparing.proofs.parsable.fast.time.Goals as goal

pub returns : goal.returns
returns g c = whole_outcome IsTimed _ _ _ _ c.whole.ensures c.time.ensures
