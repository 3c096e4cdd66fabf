use Rattle.std.proofs.Common.{◌≡◌, drop, map}
use Rattle.time_locating.specs.IsoMarks.{rows_mark}
use Rattle.time_locating.proofs.iso8601.marks.rows_mark.Given as goal

abbrev pub invariant-loop-row : goal.invariant-loop-row
invariant-loop-row l =
    rows_mark l.name l.left (map (λ row. row.now) (drop l.row-index l.rows)) l.input
    ≡ rows_mark l.name l.left (map (λ row. row.now) l.rows) l.input
