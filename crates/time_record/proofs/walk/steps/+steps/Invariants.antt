use Rattle.std.proofs.Common.{◌+◌, ◌-◌, ◌*◌, ◌≤◌, length, Some}
use Rattle.time_values.specs.Calendar.{greatest_year}
use Rattle.time_components.specs.Tree.{steps_trees}
use Rattle.time_record.specs.Reading.{raised}
use Rattle.time_record.proofs.Counting.{Chooses}
use Rattle.time_record.proofs.WalkSteps.{Walked}
use Rattle.time_record.proofs.walk.steps.+steps.Given as goal

abbrev pub decreases-walk_list : goal.decreases-walk_list
decreases-walk_list l = 4 * length l.steps.now

abbrev pub decreases-walk_optional : goal.decreases-walk_optional
decreases-walk_optional l = 4 * length l.inside.now + 1

abbrev pub decreases-walk_group : goal.decreases-walk_group
decreases-walk_group l = 4 * length l.inside.now + 2

abbrev pub decreases-walk_item : goal.decreases-walk_item
decreases-walk_item l = 4 * length l.behind.now + 3

abbrev pub decreases-walk_first : goal.decreases-walk_first
decreases-walk_first l = 4 * length l.steps.now

abbrev pub invariant-walk_list-loop-later : goal.invariant-walk_list-loop-later
invariant-walk_list-loop-later l =
    Walked greatest_year (steps_trees l.steps) l.fn.input l.fn.parsed (steps_trees l.left) l.rest l.parsed
    (raised l.initial.tries 1) (raised l.tries (l.uncounted - length l.left))
    × (length l.left ≤ length l.steps)
    × (length l.left ≤ l.uncounted)

abbrev pub decreases-walk_list-loop-later : goal.decreases-walk_list-loop-later
decreases-walk_list-loop-later l = length l.left

abbrev pub invariant-walk_first-loop-left : goal.invariant-walk_first-loop-left
invariant-walk_first-loop-left l =
    Chooses greatest_year (steps_trees l.steps) (steps_trees l.left) l.input l.fn.parsed l.parsed (Some l.first_fault) l.fn.tries l.tries
    × (length l.left ≤ length l.steps)

abbrev pub decreases-walk_first-loop-left : goal.decreases-walk_first-loop-left
decreases-walk_first-loop-left l = length l.left
