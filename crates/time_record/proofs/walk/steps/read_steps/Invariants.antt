use Rattle.std.proofs.Common.{length, ◌-◌, ◌≤◌}
use Rattle.time_values.specs.Calendar.{greatest_year}
use Rattle.time_components.specs.Tree.{steps_trees}
use Rattle.time_record.specs.WalkSteps.{Resumes}
use Rattle.time_record.proofs.walk.steps.read_steps.Given as goal

abbrev pub invariant-loop-left : goal.invariant-loop-left
invariant-loop-left l =
    Resumes greatest_year (steps_trees l.steps) l.fn.input l.fn.parsed (length l.steps - length l.left) (steps_trees l.left) l.rest l.parsed
    × (length l.left ≤ length l.steps)

abbrev pub decreases-loop-left : goal.decreases-loop-left
decreases-loop-left l = length l.left
