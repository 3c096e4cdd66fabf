use Rattle.time_values.specs.Calendar.{greatest_year}
use Rattle.time_record.specs.Resolution.{IsMoment}
use Rattle.time_preparing.proofs.Placing.{whole_outcome}
use Rattle.time_preparing.proofs.parsable.fast.moment.Goals as goal

pub returns : goal.returns
returns g c = whole_outcome (IsMoment greatest_year) _ _ _ _ c.whole.ensures c.moment.ensures
