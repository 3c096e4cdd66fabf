use Rattle.time_readers.proofs.IsoPieces.{byte-cut, byte-no_cut}
use Rattle.time_readers.proofs.iso8601.grammar.pieces.byte.Goals as goal

pub returns-in-Some : goal.returns-in-Some
returns-in-Some g c = byte-cut g.row.C c.args.input.now c.in-Some.found.0.now c.in-Some.ensures

pub returns-in-None : goal.returns-in-None
returns-in-None g c = byte-no_cut g.row.C c.args.input.now c.in-None.ensures
