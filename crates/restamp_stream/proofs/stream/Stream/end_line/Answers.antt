use Rattle.std.proofs.Common.{refl}
use Rattle.restamp_stream.proofs.AnsweredLemmas.{EndsLine-front}
use Rattle.restamp_stream.proofs.LinesLemmas.{EndsWith-line}
use Rattle.restamp_stream.proofs.stream.Stream.end_line.Goals as goal

pub returns-clause-line : goal.returns-clause-line
returns-clause-line g c =
    let cut = c.in-Some.ensures in (
      refl,
      EndsWith-line _ _ _ cut.0,
      EndsLine-front _ _ c.args.rest.now c.args.bytes.now c.in-Some.line.now c.in-Some.after.now (c.if-is_absent.ensures.front refl) cut.0 cut.1
          c.in_ok-pass-2.ensures.put,
    )
