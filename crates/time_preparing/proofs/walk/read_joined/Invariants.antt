use Rattle.std.proofs.Common.{length, drop, ◌≤◌, ◌-◌}
use Rattle.time_values.specs.Calendar.{greatest_year}
use Rattle.time_components.specs.Tree.{steps_trees}
use Rattle.time_preparing.specs.Walk.{Resumes}
use Rattle.time_preparing.proofs.walk.read_joined.Given as goal

abbrev pub invariant-loop-next : goal.invariant-loop-next
invariant-loop-next l =
    Resumes (steps_trees l.steps) l.fn.input l.fn.parsed (steps_trees (drop l.next l.steps)) l.rest l.parsed
    × (l.next ≤ length l.steps)

abbrev pub decreases-loop-next : goal.decreases-loop-next
decreases-loop-next l = length l.steps - l.next
