use Rattle.std.proofs.Common.{refl}
use Rattle.std.proofs.lemmas.Result.{on_ok_weaker}
use Rattle.restamp_stream.proofs.LinesLemmas.{Appends-report}
use Rattle.restamp_stream.proofs.stream.Stream.write_report.Goals as goal

pub returns-clause-reported : goal.returns-clause-reported
returns-clause-reported g c =
    let why = c.in_ok-write_reason.ensures.reported in
    on_ok_weaker c.write_all.result (λ end. (
      _,
      (why.0, why.1, why.2, refl),
      Appends-report _ _ _ _ _ c.args.file.now.name.now _ why.0 why.1 c.in_ok-write_name.ensures.shown c.in_ok-write.ensures.bytes why.3 end,
    )) c.write_all.ensures.bytes
