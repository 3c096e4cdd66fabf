use Rattle.std.proofs.Common.{◌≡◌, ℕ, ◌+◌, ◌*◌, ◌≤◌, length}
use Rattle.time_values.specs.Calendar.{greatest_year}
use Rattle.time_components.specs.Tree.{trees_in}
use Rattle.time_formatting.specs.Texts.{texts_after}
use Rattle.time_formatting.proofs.walk.+steps.Given as goal

abbrev pub decreases-write_steps : goal.decreases-write_steps
decreases-write_steps g l = 4 * length l.steps.now

abbrev pub decreases-write_first : goal.decreases-write_first
decreases-write_first g l = 4 * length l.steps.now

abbrev pub decreases-write_group : goal.decreases-write_group
decreases-write_group g l = 4 * length l.inside.now + 1

abbrev pub decreases-write_item : goal.decreases-write_item
decreases-write_item g l = 4 * length l.behind.now + 2

abbrev pub invariant-write_steps-loop-left : goal.invariant-write_steps-loop-left
invariant-write_steps-loop-left g l =
    ((n : ℕ) → length l.steps ≤ n → (m : ℕ) × (length l.left ≤ m)
    × (texts_after g.row.CAP greatest_year l.value l.fn.text.items (trees_in n l.steps)
    ≡ texts_after g.row.CAP greatest_year l.value l.text.items (trees_in m l.left)))
    × (length l.left ≤ length l.steps)

abbrev pub decreases-write_steps-loop-left : goal.decreases-write_steps-loop-left
decreases-write_steps-loop-left g l = length l.left
