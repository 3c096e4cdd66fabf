use Rattle.time_readers.proofs.IsoPieces.{finds-digits}
use Rattle.time_readers.proofs.iso8601.grammar.pieces.two_digits.Goals as goal

pub returns : goal.returns
returns c = finds-digits 2 c.args.input.now c.two_digits.result c.two_digits.ensures
