use Rattle.std.proofs.Common.{length}
use Rattle.time_components.specs.Tree.{further}
use Rattle.time_record.proofs.ComponentLemmas.{Strips}
use Rattle.time_record.proofs.walk.steps.after_bytes.Given as goal

abbrev pub invariant-loop-byte : goal.invariant-loop-byte
invariant-loop-byte l = Strips (further l.steps) l.fn.input (further l.left) l.rest

abbrev pub decreases-loop-byte : goal.decreases-loop-byte
decreases-loop-byte l = length l.left
