use Rattle.std.proofs.Common.{◌≡◌, length}
use Rattle.time_readers.specs.Readers.{one_of, zero_or_more}
use Rattle.time_readers.specs.MailBlanks as spec
use Rattle.time_readers.proofs.rfc2822.grammar.blanks.blanks.Given as goal

abbrev pub invariant-loop-more : goal.invariant-loop-more
invariant-loop-more l = zero_or_more (one_of spec.is_blank) l.rest ≡ spec.blanks l.input

abbrev pub decreases-loop-more : goal.decreases-loop-more
decreases-loop-more l = length l.rest
