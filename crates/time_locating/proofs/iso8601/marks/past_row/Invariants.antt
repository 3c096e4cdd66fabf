use Rattle.std.proofs.Common.{◌≡◌, drop}
use Rattle.time_locating.specs.IsoMarks.{after_row}
use Rattle.time_locating.proofs.iso8601.marks.past_row.Given as goal

abbrev pub invariant-loop-piece : goal.invariant-loop-piece
invariant-loop-piece l = after_row (drop l.piece-index l.row) l.rest ≡ after_row l.row l.input
