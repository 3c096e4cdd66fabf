use Rattle.std.proofs.Common.{◌≡◌, length}
use Rattle.time_readers.specs.Readers.{◌or◌, zero_or_more}
use Rattle.time_readers.specs.MailBlanks as spec
use Rattle.time_readers.proofs.rfc2822.grammar.blanks.cfws.Given as goal

abbrev pub invariant-loop-more : goal.invariant-loop-more
invariant-loop-more l = zero_or_more (spec.fws or spec.comment 31) l.rest ≡ spec.cfws l.input

abbrev pub decreases-loop-more : goal.decreases-loop-more
decreases-loop-more l = length l.rest
