use Rattle.std.proofs.Common.{◌+◌, ◌*◌, ◌≤◌, length}
use Rattle.time_values.specs.Calendar.{greatest_year}
use Rattle.time_components.specs.Tree.{steps_trees}
use Rattle.time_locating.specs.Located.{erased_miss}
use Rattle.time_locating.specs.Misses.{first_byte}
use Rattle.time_locating.proofs.TurnSteps.{Passes, Follows}
use Rattle.time_locating.proofs.MarkSteps.{CarriesAll, CarriesFirst}
use Rattle.time_locating.proofs.walk.steps.+steps.Given as goal

abbrev pub decreases-walk_list : goal.decreases-walk_list
decreases-walk_list l = 3 * length l.steps.now + 2

abbrev pub decreases-walk_first : goal.decreases-walk_first
decreases-walk_first l = 3 * length l.steps.now + 2

abbrev pub decreases-walk_item : goal.decreases-walk_item
decreases-walk_item l = 3 * length l.item.now + 1

abbrev pub decreases-walk_group : goal.decreases-walk_group
decreases-walk_group l = 3 * length l.inside.now + 3

abbrev pub invariant-walk_list-loop-item : goal.invariant-walk_list-loop-item
invariant-walk_list-loop-item l =
    Follows first_byte (steps_trees l.steps) l.fn.input l.fn.parsed (steps_trees l.left) l.rest l.parsed
    (erased_miss l.furthest)
    × (length l.left ≤ length l.steps)
    × CarriesAll l.name (steps_trees l.steps) l.fn.input l.fn.parsed (steps_trees l.left) l.rest l.parsed l.last

abbrev pub decreases-walk_list-loop-item : goal.decreases-walk_list-loop-item
decreases-walk_list-loop-item l = length l.left

abbrev pub invariant-walk_first-loop-item : goal.invariant-walk_first-loop-item
invariant-walk_first-loop-item l =
    Passes first_byte (steps_trees l.steps) (steps_trees l.left) l.input l.fn.parsed l.parsed
    (erased_miss l.furthest)
    × (length l.left ≤ length l.steps)
    × CarriesFirst l.name (steps_trees l.steps) (steps_trees l.left) l.input l.fn.parsed

abbrev pub decreases-walk_first-loop-item : goal.decreases-walk_first-loop-item
decreases-walk_first-loop-item l = length l.left
