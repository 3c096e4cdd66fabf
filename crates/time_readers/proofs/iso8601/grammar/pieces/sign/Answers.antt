use Rattle.time_readers.proofs.IsoPieces.{finds-sign}
use Rattle.time_readers.proofs.iso8601.grammar.pieces.sign.Goals as goal

pub returns : goal.returns
returns c = finds-sign c.args.input.now c.sign.result c.sign.ensures
