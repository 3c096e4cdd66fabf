use Rattle.time_readers.proofs.IsoPieces.{number-plain}
use Rattle.time_readers.proofs.iso8601.fast.whole_number.Goals as goal

pub returns-in-None : goal.returns-in-None
returns-in-None c =
    number-plain c.args.input.now c.in_ok-found.found.0.now c.in_ok-found.found.1 c.in_ok-found.ensures c.in-None.ensures
