use Rattle.std.proofs.Common.{length, map, ◌-◌, ◌≤◌}
use Rattle.time_values.specs.Calendar.{greatest_year}
use Rattle.time_components.specs.Tree.{steps_trees}
use Rattle.time_record.specs.WalkSteps.{Resumes}
use Rattle.pelzaune_ffi.specs.Described.{step_of}
use Rattle.pelzaune_ffi.proofs.stored.read_front.Given as goal

abbrev pub invariant-loop-left : goal.invariant-loop-left
invariant-loop-left l =
    Resumes greatest_year (steps_trees (map step_of l.steps)) l.fn.input l.fn.parsed (length l.steps - length l.left)
    (steps_trees (map step_of l.left)) l.rest l.parsed
    × (length l.left ≤ length l.steps)

abbrev pub decreases-loop-left : goal.decreases-loop-left
decreases-loop-left l = length l.left
