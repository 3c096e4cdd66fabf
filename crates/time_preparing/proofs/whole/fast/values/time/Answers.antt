use Rattle.time_record.specs.Resolution.{IsTimed}
use Rattle.time_preparing.proofs.Placing.{whole_outcome}
use Rattle.time_preparing.proofs.Wholes.{own}
use Rattle.time_preparing.proofs.whole.fast.values.time.Goals as goal

pub returns : goal.returns
returns c = whole_outcome IsTimed c.args.whole.now _ _ _ (own c.args.whole.now) c.time.ensures
