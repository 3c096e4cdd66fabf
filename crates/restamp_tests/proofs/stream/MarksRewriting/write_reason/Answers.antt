use Rattle.std.proofs.Common.{codes, refl}
use Rattle.restamp_stream.proofs.LinesLemmas.{OnOk-map}
use Rattle.restamp_tests.proofs.stream.MarksRewriting.write_reason.Goals as goal

pub returns-clause-reported : goal.returns-clause-reported
returns-clause-reported g c =
    OnOk-map c.write.result _ _ c.write.ensures.bytes (λ written. (1, codes "bad", (refl, refl), written))
