use Rattle.std.proofs.Common.{◌≡◌, length}
use Rattle.restamp_tests.specs.Memory.{events_of, is_unused}
use Rattle.restamp_tests.proofs.memory.event.is_unused.Given as goal

abbrev pub invariant-loop-left : goal.invariant-loop-left
invariant-loop-left l = is_unused (events_of l.left) l.number ≡ is_unused (events_of l.events) l.number

abbrev pub decreases-loop-left : goal.decreases-loop-left
decreases-loop-left l = length l.left
