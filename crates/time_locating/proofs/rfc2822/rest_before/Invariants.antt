use Rattle.std.proofs.Common.{true}
use Rattle.time_readers.specs.Rfc2822.{FailsAt}
use Rattle.time_locating.proofs.MailParts.{Reached}
use Rattle.time_locating.proofs.rfc2822.rest_before.Given as goal

abbrev pub invariant-loop-before : goal.invariant-loop-before
invariant-loop-before l = (s : FailsAt true l.input l.fn.place) → Reached l.input l.fn.place s l.before-index l.rest l.passed
