use Rattle.std.proofs.Common.{refl}
use Rattle.time_parsing.specs.IsoSteps.{after_time}
use Rattle.time_parsing.proofs.iso8601.after_time.Goals as goal

pub returns-in-Some : goal.returns-in-Some
unfolding after_time
returns-in-Some c = rw c.in-Some.ensures refl

pub returns-in-None : goal.returns-in-None
unfolding after_time
returns-in-None c = rw (c.in-None.ensures.0, c.in-None.ensures.1) refl
