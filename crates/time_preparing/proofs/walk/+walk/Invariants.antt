use Rattle.std.proofs.Common.{◌≡◌, ◌+◌, ◌*◌, ◌≤◌, length}
use Rattle.time_values.specs.Calendar.{greatest_year}
use Rattle.time_components.specs.Tree.{steps_trees}
use Rattle.time_preparing.specs.Forms.{Fits}
use Rattle.time_preparing.specs.Walk.{Resumes}
use Rattle.time_preparing.proofs.Going.{Chooses}
use Rattle.time_preparing.proofs.walk.+walk.Given as goal

abbrev pub decreases-walk_list : goal.decreases-walk_list
decreases-walk_list l = 8 * length l.steps.now + 3

abbrev pub decreases-walk : goal.decreases-walk
decreases-walk l = 8 * length l.steps.now + 2

abbrev pub decreases-walk_item : goal.decreases-walk_item
decreases-walk_item l = 8 * length l.steps.now

abbrev pub decreases-walk_group : goal.decreases-walk_group
decreases-walk_group l = 8 * length l.inside.now + 6

abbrev pub decreases-walk_optional : goal.decreases-walk_optional
decreases-walk_optional l = 8 * length l.inside.now + 5

abbrev pub decreases-walk_first : goal.decreases-walk_first
decreases-walk_first l = 8 * length l.steps.now + 5

abbrev pub invariant-walk-loop-later : goal.invariant-walk-loop-later
invariant-walk-loop-later l =
    Resumes (steps_trees l.steps) l.fn.input l.fn.parsed (steps_trees l.left) l.rest l.parsed
    × Fits l.left_joined l.left × (length l.left_joined ≡ length l.left) × (length l.left ≤ length l.steps)

abbrev pub decreases-walk-loop-later : goal.decreases-walk-loop-later
decreases-walk-loop-later l = length l.left

abbrev pub invariant-walk_first-loop-left : goal.invariant-walk_first-loop-left
invariant-walk_first-loop-left l =
    Chooses (steps_trees l.steps) (steps_trees l.left) l.input l.fn.parsed l.first_fault × (l.parsed ≡ l.fn.parsed)
    × Fits l.left_joined l.left × (length l.left_joined ≡ length l.left) × (length l.left ≤ length l.steps)

abbrev pub decreases-walk_first-loop-left : goal.decreases-walk_first-loop-left
decreases-walk_first-loop-left l = length l.left
