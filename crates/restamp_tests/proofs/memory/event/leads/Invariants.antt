use Rattle.std.proofs.Common.{◌≡◌, length}
use Rattle.restamp_in_place.specs.Replacing.{leads}
use Rattle.restamp_tests.specs.Memory.{events_of}
use Rattle.restamp_tests.proofs.memory.event.leads.Given as goal

abbrev pub invariant-loop-left : goal.invariant-loop-left
invariant-loop-left l = leads (events_of l.left) l.name ≡ leads (events_of l.events) l.name

abbrev pub decreases-loop-left : goal.decreases-loop-left
decreases-loop-left l = length l.left
