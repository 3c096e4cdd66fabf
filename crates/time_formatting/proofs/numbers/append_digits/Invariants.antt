use Rattle.std.proofs.Common.{◌≡◌, ◌+◌, ◌≤◌, ◌++◌, length}
use Rattle.time_formatting.specs.Numbers.{filled, filler}
use Rattle.time_formatting.proofs.numbers.append_digits.Given as goal

abbrev pub invariant-loop-left : goal.invariant-loop-left
invariant-loop-left l =
    (l.text.items ++ filled (filler l.fn.padding) l.left ≡ l.fn.text.items ++ filled (filler l.fn.padding) l.digits)
    × (length l.text.items + length l.left ≤ length l.fn.text.items + length l.digits)

abbrev pub decreases-loop-left : goal.decreases-loop-left
decreases-loop-left l = length l.left
