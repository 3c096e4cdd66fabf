use Rattle.std.proofs.Common.{◌≡◌, drop}
use Rattle.time_locating.specs.Iso8601.{row_misses}
use Rattle.time_locating.proofs.iso8601.row_missed.Given as goal

abbrev pub invariant-loop-piece : goal.invariant-loop-piece
invariant-loop-piece l = row_misses (drop l.piece-index l.row) l.rest ≡ row_misses l.row l.input
