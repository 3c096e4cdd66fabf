use Rattle.std.proofs.Common.{◌≡◌, ◌++◌, length}
use Rattle.restamp_in_place.specs.Replacing.{with_name}
use Rattle.restamp_in_place.proofs.names.with_name.Given as goal

abbrev pub invariant-loop-left : goal.invariant-loop-left
invariant-loop-left l = l.bytes.items ++ with_name l.name l.left ≡ with_name l.name l.text

abbrev pub decreases-loop-left : goal.decreases-loop-left
decreases-loop-left l = length l.left
