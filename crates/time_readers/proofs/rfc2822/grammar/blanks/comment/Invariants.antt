use Rattle.std.proofs.Common.{length}
use Rattle.time_readers.proofs.OpenComments.{IsOpen}
use Rattle.time_readers.proofs.rfc2822.grammar.blanks.comment.Given as goal

abbrev pub invariant-loop-open : goal.invariant-loop-open
invariant-loop-open l = IsOpen l.open l.rest l.input

abbrev pub decreases-loop-open : goal.decreases-loop-open
decreases-loop-open l = length l.rest
