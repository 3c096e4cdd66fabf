use Rattle.time_values.specs.Calendar.{greatest_year}
use Rattle.time_record.specs.Resolution.{IsPlain}
use Rattle.time_preparing.proofs.Placing.{over_outcome, whole_outcome}
use Rattle.time_preparing.proofs.parsable.fast.date_time.Goals as goal

pub returns-in-Some : goal.returns-in-Some
returns-in-Some g c = rw c.in-Some.is (over_outcome (IsPlain greatest_year) _ _ _ _ _ c.whole-whole.ensures c.date_time.ensures)

pub returns-in-None : goal.returns-in-None
returns-in-None g c = rw c.in-None.is (whole_outcome (IsPlain greatest_year) _ _ _ _ c.whole-whole.ensures c.date_time-in-None.ensures)
