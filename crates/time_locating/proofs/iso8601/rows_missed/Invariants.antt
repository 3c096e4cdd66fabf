use Rattle.std.proofs.Common.{drop, map}
use Rattle.time_locating.specs.Located.{erased_miss}
use Rattle.time_locating.proofs.IsoLengths.{Joined}
use Rattle.time_locating.proofs.iso8601.rows_missed.Given as goal

abbrev pub invariant-loop-row : goal.invariant-loop-row
invariant-loop-row l =
    Joined (erased_miss l.missed) (map (λ row. row.now) (drop l.row-index l.rows)) (map (λ row. row.now) l.rows) l.input
