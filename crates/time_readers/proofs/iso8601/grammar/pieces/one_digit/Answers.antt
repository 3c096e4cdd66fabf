use Rattle.time_readers.proofs.IsoPieces.{finds-digits}
use Rattle.time_readers.proofs.iso8601.grammar.pieces.one_digit.Goals as goal

pub returns : goal.returns
returns c = finds-digits 1 c.args.input.now c.run_of_one.result c.run_of_one.ensures
