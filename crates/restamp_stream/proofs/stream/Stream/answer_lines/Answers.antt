use Rattle.std.proofs.Common.{◌≡◌, ◌+◌, Err, rules, ap, ap₂, ◌∙◌}
use Rattle.restamp_stream.proofs.AnsweredLemmas.{Continues-line, Continues-then}
use Rattle.restamp_stream.proofs.LinesLemmas.{EndsWith-line, EndsWith-then, line_fits}
use Rattle.restamp_stream.proofs.StoppedLemmas.{StoppedBy-map, StoppedBy-then, Stops-line}
use Rattle.restamp_stream.proofs.stream.Stream.answer_lines.Goals as goal

pub loop-line-preserved : goal.loop-line-preserved
loop-line-preserved g c =
    let cut = c.in-Some.ensures in
    let begun = c.in_ok-rest.ensures in
    let passed = c.in_ok-pass.ensures in (
      EndsWith-then c.args.bytes.now c.loop-line.left.now c.in-Some.after.now c.loop-line.invariant.0 (EndsWith-line _ _ _ cut.0),
      Continues-then c.loop-line.invariant.1 (Continues-line cut.0 cut.1 begun.ok.1 begun.ok.2
          (record { out = passed.put; log = ap g.L.Sink.contents passed.log; tally = passed.tally })),
      ap₂ ◌+◌ passed.cause (ap g.L.Sink.faults passed.log) ∙ begun.cause ∙ c.loop-line.invariant.2,
    )

pub returns-in_err-rest-clause-err : goal.returns-in_err-rest-clause-err
returns-in_err-rest-clause-err g c =
    let cut = c.in-Some.ensures in
    let handed : c.from_residual.result ≡ Err c.in_err-rest.field-0.0 = search rules in
    rw handed (StoppedBy-then _ _ c.loop-line.invariant.1 (StoppedBy-map _ (Stops-line c.in-Some.after.now cut.0 cut.1
    (line_fits c.args.bytes.now c.loop-line.left.now c.in-Some.line.now c.in-Some.after.now _ c.loop-line.invariant.0 cut.0 c.requires))
    c.in_err-rest.ensures.err))
