use Rattle.std.proofs.Common.{◌≡◌, length}
use Rattle.restamp_in_place.specs.Replacing.{has_star}
use Rattle.restamp_in_place.proofs.names.has_star.Given as goal

abbrev pub invariant-loop-left : goal.invariant-loop-left
invariant-loop-left l = has_star l.left ≡ has_star l.text

abbrev pub decreases-loop-left : goal.decreases-loop-left
decreases-loop-left l = length l.left
