use Rattle.std.proofs.Common.{◌≡◌, ◌++◌, length}
use Rattle.time_preparing.specs.Forms.{Fits}
use Rattle.time_preparing.proofs.prepared.prepare.Given as goal

abbrev pub invariant-loop-left : goal.invariant-loop-left
invariant-loop-left g l =
    (l.steps ≡ l.kept.items ++ l.left) × Fits l.joined.items l.steps × (length l.joined.items ≡ length l.kept.items)

abbrev pub decreases-loop-left : goal.decreases-loop-left
decreases-loop-left g l = length l.left
