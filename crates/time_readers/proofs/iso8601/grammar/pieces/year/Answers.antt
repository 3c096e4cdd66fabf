use Rattle.time_readers.specs.IsoPieces.{year}
use Rattle.time_readers.proofs.iso8601.grammar.pieces.year.Goals as goal

pub returns-in-Some : goal.returns-in-Some
unfolding year
returns-in-Some c = rw c.in-Some.ensures (c.year_after_sign.ensures c.args.input.now)
