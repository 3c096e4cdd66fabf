use Rattle.std.proofs.Common.{refl}
use Rattle.time_parsing.specs.IsoSteps.{answer}
use Rattle.time_parsing.proofs.IsoParts.{answered-read, answered}
use Rattle.time_parsing.proofs.iso8601.read.Goals as goal

pub returns-in-Some : goal.returns-in-Some
unfolding answer
returns-in-Some c = answered-read _ _ _ _ (rw (c.in-Ok.ensures, c.in-Some.ensures, c.after_time.ensures) refl)

pub returns-in-None : goal.returns-in-None
unfolding answer
returns-in-None c = answered-read _ _ _ _ (rw (c.in-Ok.ensures, c.in-None.ensures.0, c.in-None.ensures.1) refl)

pub returns-in-Err : goal.returns-in-Err
unfolding answer
returns-in-Err c = answered _ _ _ _ _ (rw c.in-Err.ensures.0 (rw c.in-Err.ensures.1 at c.without_date.ensures))
