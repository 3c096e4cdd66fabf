use Rattle.std.proofs.Common.{refl}
use Rattle.time_parsing.specs.Iso8601.{date_over}
use Rattle.time_parsing.proofs.iso8601.date_over.Goals as goal

pub returns-in-Ok-put_date : goal.returns-in-Ok-put_date
unfolding date_over
returns-in-Ok-put_date c = rw (c.in-Ok.ensures, c.in-Ok-put_date.ensures) refl

pub returns-in-Err-put_date : goal.returns-in-Err-put_date
unfolding date_over
returns-in-Err-put_date c = (rw (c.in-Ok.ensures, c.in-Err-put_date.ensures.0) refl, c.in-Err-put_date.ensures.1)

pub returns-in-Err : goal.returns-in-Err
unfolding date_over
returns-in-Err c = (rw c.in-Err.ensures refl, refl)
