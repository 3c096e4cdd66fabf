use Rattle.time_readers.proofs.IsoPieces.{finds-digits, digits-below}
use Rattle.time_readers.proofs.iso8601.grammar.pieces.exactly.Goals as goal

pub returns-clause-is : goal.returns-clause-is
returns-clause-is g c = finds-digits g.row.N c.args.input.now c.exactly_n_digits.result c.exactly_n_digits.ensures

pub returns-clause-below : goal.returns-clause-below
returns-clause-below g c = digits-below g.row.N c.args.input.now c.exactly_n_digits.result c.exactly_n_digits.ensures
