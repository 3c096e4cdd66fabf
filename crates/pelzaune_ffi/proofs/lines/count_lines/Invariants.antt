-- The counted and the remaining lines are all lines, and each counted line took at least one byte.
use Rattle.std.proofs.Common.{◌≡◌, ◌≤◌, length, ◌+◌}
use Rattle.byte_streams.specs.Lines.{line_texts}
use Rattle.pelzaune_ffi.proofs.lines.count_lines.Given as goal

abbrev pub invariant-loop-rest : goal.invariant-loop-rest
invariant-loop-rest l =
    (l.count + length (line_texts l.rest) ≡ length (line_texts l.initial.rest)) × (l.count + length l.rest ≤ length l.initial.rest)

abbrev pub decreases-loop-rest : goal.decreases-loop-rest
decreases-loop-rest l = length l.rest
