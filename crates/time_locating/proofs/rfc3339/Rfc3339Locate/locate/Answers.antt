use Rattle.time_parsing.specs.Outcome.{begun}
use Rattle.time_locating.proofs.rfc3339.Rfc3339Locate.locate.Goals as goal

pub returns : goal.returns
returns c = c.error_place.ensures (begun c.args._defaults)
