use Rattle.std.proofs.Common.{◌≡◌, length}
use Rattle.time_readers.specs.Readers.{◌then◌, zero_or_more}
use Rattle.time_readers.specs.MailBlanks as spec
use Rattle.time_readers.proofs.rfc2822.grammar.blanks.fws.Given as goal

abbrev pub invariant-loop-line : goal.invariant-loop-line
invariant-loop-line l = (zero_or_more spec.line_fold then spec.no_crlf) l.rest ≡ spec.fws l.input

abbrev pub decreases-loop-line : goal.decreases-loop-line
decreases-loop-line l = length l.rest
