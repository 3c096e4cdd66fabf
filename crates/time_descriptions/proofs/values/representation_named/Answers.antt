use Rattle.time_descriptions.specs.Values.{representations}
use Rattle.time_descriptions.proofs.values.representation_named.Goals as goal

pub returns-in-Month : goal.returns-in-Month
unfolding representations
returns-in-Month c = rw c.in-Month.is c.look_up-in-Month.ensures

pub returns-in-Year : goal.returns-in-Year
unfolding representations
returns-in-Year c = rw c.in-Year.is c.look_up-in-Year.ensures
