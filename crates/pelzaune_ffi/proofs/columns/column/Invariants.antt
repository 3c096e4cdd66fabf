-- The entries stored so far, with those of the remaining lines, make the whole column.
use Rattle.std.proofs.Common.{length, ◌-◌, ◌≡◌, ◌+◌, ◌≤◌, take, drop}
use Rattle.byte_streams.specs.Lines.{line_texts}
use Rattle.pelzaune_ffi.proofs.StoredRows.{Ends}
use Rattle.pelzaune_ffi.proofs.columns.column.Given as goal

abbrev pub invariant-loop-index : goal.invariant-loop-index
invariant-loop-index g l =
    (l.index ≤ length l.entries) × (l.rejected ≤ l.index)
    × (l.index + length (line_texts l.rest) ≡ length (line_texts l.initial.rest))
    × (l.index + length l.rest ≤ length l.initial.rest)
    × Ends (g.C.Count.stores l.counting) (line_texts l.initial.rest) l.initial.entries (line_texts l.rest) (drop l.index l.entries)
    (take l.index l.entries) l.rejected

abbrev pub decreases-loop-index : goal.decreases-loop-index
decreases-loop-index g l = length l.initial.entries - l.index
