use Rattle.std.proofs.Common.{◌≡◌, drop}
use Rattle.time_locating.specs.IsoMarks.{row_mark}
use Rattle.time_locating.proofs.iso8601.marks.row_mark.Given as goal

abbrev pub invariant-loop-piece : goal.invariant-loop-piece
invariant-loop-piece l = row_mark l.name (drop l.piece-index l.row) l.rest ≡ row_mark l.name l.row l.input
