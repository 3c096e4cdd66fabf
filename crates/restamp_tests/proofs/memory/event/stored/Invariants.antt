use Rattle.std.proofs.Common.{◌≡◌, length}
use Rattle.restamp_in_place.specs.Replacing.{stored}
use Rattle.restamp_tests.specs.Memory.{events_of}
use Rattle.restamp_tests.proofs.memory.event.stored.Given as goal

abbrev pub invariant-loop-left : goal.invariant-loop-left
invariant-loop-left l = stored (events_of l.left) l.number ≡ stored (events_of l.events) l.number

abbrev pub decreases-loop-left : goal.decreases-loop-left
decreases-loop-left l = length l.left
