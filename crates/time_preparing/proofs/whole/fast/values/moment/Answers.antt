use Rattle.time_values.specs.Calendar.{greatest_year}
use Rattle.time_record.specs.Resolution.{IsMoment}
use Rattle.time_preparing.proofs.Placing.{whole_outcome}
use Rattle.time_preparing.proofs.Wholes.{own}
use Rattle.time_preparing.proofs.whole.fast.values.moment.Goals as goal

pub returns : goal.returns
returns c = whole_outcome (IsMoment greatest_year) c.args.whole.now _ _ _ (own c.args.whole.now) c.moment.ensures
