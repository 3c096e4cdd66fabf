use Rattle.std.proofs.Common.{lit<, Err, rules, ◌≡◌, ap, arith}
use Rattle.restamp_stream.proofs.AnsweredLemmas.{Continues-then, Continues-started, EndsLine-continues, ContinuesLine-continues}
use Rattle.restamp_stream.proofs.LinesLemmas.{EndsWith-then, kept_last, left_fills}
use Rattle.restamp_stream.proofs.StoppedLemmas.{StoppedBy-map, StoppedBy-then, Stops-long}
use Rattle.restamp_stream.proofs.stream.Stream.answer_block.Goals as goal

pub returns-in_default-clause-ok : goal.returns-in_default-clause-ok
returns-in_default-clause-ok g c =
    let cut = rw c.in_default.is at c.in_ok-bytes.ensures.line in
    rw (← c.as_slice.ensures.bytes, cut.0, c.clear.ensures.items)
    (ContinuesLine-continues c.args.rest.now (ap g.L.Sink.contents c.in_ok-bytes.ensures.log) c.in_ok-bytes.ensures.tally cut.1 cut.2)

pub returns-then-n-lt-LIMIT-clause-held : goal.returns-then-n-lt-LIMIT-clause-held
returns-then-n-lt-LIMIT-clause-held g c =
    let cut = rw c.in-Some.is at c.in_ok-bytes.ensures.line in
    let lines = c.in_ok-left.ensures.ok in
    rw (cut.0, kept_last _ _ _ _ c.as_slice.ensures.bytes c.keep_last.ensures (EndsWith-then _ _ _ cut.1 lines.1)) (lines.0, c.if-n-lt-LIMIT.true)

pub returns-then-n-lt-LIMIT-clause-ok : goal.returns-then-n-lt-LIMIT-clause-ok
returns-then-n-lt-LIMIT-clause-ok g c =
    let cut = rw c.in-Some.is at c.in_ok-bytes.ensures.line in
    let lines = c.in_ok-left.ensures.ok in
    let bytes = c.as_slice.ensures.bytes in
    rw (cut.0, kept_last _ _ _ _ bytes c.keep_last.ensures (EndsWith-then _ _ _ cut.1 lines.1), ← bytes)
    (Continues-then (EndsLine-continues c.args.rest.now (ap g.L.Sink.contents c.in_ok-bytes.ensures.log) c.in_ok-bytes.ensures.tally cut.2) lines.2)

pub returns-clause-ok : goal.returns-clause-ok
returns-clause-ok g c =
    let cut = rw c.in-Some.is at c.in_ok-bytes.ensures.line in
    let lines = c.in_ok-left.ensures.ok in
    let started = c.in_ok-rest.ensures.ok in
    rw (← c.as_slice.ensures.bytes, c.clear-2.ensures.items)
    (Continues-then (EndsLine-continues c.args.rest.now (ap g.L.Sink.contents c.in_ok-bytes.ensures.log) c.in_ok-bytes.ensures.tally cut.2)
    (Continues-then lines.2 (Continues-started lines.0 (omega arith) started.1 started.2)))

pub returns-in_err-left-clause-err : goal.returns-in_err-left-clause-err
returns-in_err-left-clause-err g c =
    let cut = rw c.in-Some.is at c.in_ok-bytes.ensures.line in
    let handed : c.from_residual-in_err-left.result ≡ Err c.in_err-left.field-0.0 = search rules in
    rw (handed, ← c.as_slice.ensures.bytes)
    (StoppedBy-then _ _ (EndsLine-continues c.args.rest.now (ap g.L.Sink.contents c.in_ok-bytes.ensures.log) c.in_ok-bytes.ensures.tally cut.2)
    c.in_err-left.ensures.err)

pub returns-in_err-rest-clause-err : goal.returns-in_err-rest-clause-err
returns-in_err-rest-clause-err g c =
    let cut = rw c.in-Some.is at c.in_ok-bytes.ensures.line in
    let lines = c.in_ok-left.ensures.ok in
    let left = c.in_ok-left.left.now in
    let handed : c.from_residual-in_err-rest.result ≡ Err c.in_err-rest.field-0.0 = search rules in
    rw (handed, ← c.as_slice.ensures.bytes)
    (StoppedBy-then _ _ (EndsLine-continues c.args.rest.now (ap g.L.Sink.contents c.in_ok-bytes.ensures.log) c.in_ok-bytes.ensures.tally cut.2)
    (StoppedBy-then _ _ lines.2 (StoppedBy-map _ (Stops-long (lit< tt) lines.0
    (left_fills c.as_slice.result.now left _ (EndsWith-then _ _ _ cut.1 lines.1) c.as_slice.ensures.most c.if-n-lt-LIMIT.false))
    c.in_err-rest.ensures.err)))
