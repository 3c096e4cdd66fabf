use Rattle.std.proofs.lemmas.Result.{on_ok_weaker}
use Rattle.restamp_stream.proofs.LinesLemmas.{Appends-unread}
use Rattle.restamp_stream.proofs.stream.Stream.report_unread.Goals as goal

pub returns-clause-reported : goal.returns-clause-reported
returns-clause-reported g c =
    let why = c.as_slice.result.now in
    on_ok_weaker c.write_all-3.result
    (λ end. (
      why,
      Appends-unread _ _ _ _ _ c.args.name.now why c.in_ok-write_name.ensures.shown c.in_ok-write_all.ensures.bytes
          c.in_ok-write_all-2.ensures.bytes end,
    )) c.write_all-3.ensures.bytes
