use Rattle.std.proofs.Common.{codes}
use Rattle.std.proofs.KnownBytes.{Appends-trans}
use Rattle.time_locating.specs.Located.{wants}
use Rattle.restamp_stream.proofs.LinesLemmas.{OnOk-map}
use Rattle.restamp_command.specs.Rewriting.{expectation_text}
use Rattle.restamp_command.proofs.pointing.write_expected.Goals as goal

pub returns-clause-written : goal.returns-clause-written
returns-clause-written g c =
    rw c.in-Some.is
    (OnOk-map c.write_expectation.result _ _ c.write_expectation.ensures.written
    (λ wanted. Appends-trans _ _ _ (codes ": expected ") (expectation_text (wants c.in-Some.expected)) c.in_ok-write_all.ensures.bytes wanted))
