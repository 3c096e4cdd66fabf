use Rattle.std.proofs.Common.{◌≡◌, ◌+◌, length, drop}
use Rattle.time_components.specs.Tree.{further}
use Rattle.time_components.proofs.inspect.after_further.Given as goal

abbrev pub invariant-loop-left : goal.invariant-loop-left
invariant-loop-left l =
    (drop (length (further l.left)) l.left ≡ drop (length (further l.steps)) l.steps)
    × (length (further l.steps) + length l.left ≡ length l.steps + length (further l.left))

abbrev pub decreases-loop-left : goal.decreases-loop-left
decreases-loop-left l = length l.left
