use Rattle.std.proofs.Common.{◌-◌, ◌^◌, ◌≤◌, refl, ◌∙◌, arith, lit<, ◌≡◌, Err, rules}
use Rattle.restamp_stream.specs.Buffered.{job_at}
use Rattle.restamp_stream.proofs.StoppedLemmas.{Served-none, Served-more, Served-all, Served-stopped, Served-stopped_at_end, StoppedBy-refused, IsBuffered-short, HasNoLf-same}
use Rattle.std.proofs.lemmas.Result.{on_ok_weaker, IfErr-weaker}
use Rattle.restamp_stream.proofs.stream.Stream.serve_lines.Goals as goal

pub loop-turn-init : goal.loop-turn-init
loop-turn-init g c =
    let job = job_at g.T.Rewriting.is_action g.T.Rewriting.is_reason c.args.file.now in
    (Served-none job _ _ _ (lit< tt) c.requires.block, c.requires.buffer, refl, grind arith)

pub fill-requires : goal.fill-requires
fill-requires g c = (
  lit< tt,
  IsBuffered-short
      (job_at g.T.Rewriting.is_action g.T.Rewriting.is_reason c.args.file.now)
      c.loop-turn.rest c.loop-turn.block.items (lit< tt) c.loop-turn.invariant.0.kept,
)

pub finish-requires-clause-started : goal.finish-requires-clause-started
finish-requires-clause-started g c =
    let read = c.in-Ok-false.ensures.read in
    let job = job_at g.T.Rewriting.is_action g.T.Rewriting.is_reason c.args.file.now in
    HasNoLf-same job c.loop-turn.rest _ _ read.0 c.loop-turn.invariant.0.kept read.1 (read.3 c.in-Ok-false.field-0-test).0

pub loop-turn-preserved : goal.loop-turn-preserved
loop-turn-preserved g c =
    let read = c.in-Ok-true.ensures.read in
    let progressed = c.in-Ok-true.ensures.cause (search rules) in (
      Served-more read.0 c.loop-turn.invariant.0 read.1 read.2 c.in_ok-feed.ensures.ok c.in_ok-feed.ensures.held,
      c.in_ok-feed.ensures.none,
      c.in_ok-feed.ensures.cause ∙ c.loop-turn.invariant.2,
      grind (arith, c.loop-turn.invariant.3, progressed),
    )

pub returns-in-Ok-false-clause-ok : goal.returns-in-Ok-false-clause-ok
returns-in-Ok-false-clause-ok g c =
    let read = c.in-Ok-false.ensures.read in
    let end = read.3 c.in-Ok-false.field-0-test in
    on_ok_weaker c.finish.result (Served-all _ read.0 (lit< tt) c.loop-turn.invariant.0 read.1 end.0 read.2 end.1) c.finish.ensures.ok

pub returns-in-Ok-false-clause-refused : goal.returns-in-Ok-false-clause-refused
returns-in-Ok-false-clause-refused g c =
    let read = c.in-Ok-false.ensures.read in
    let end = read.3 c.in-Ok-false.field-0-test in
    IfErr-weaker c.finish.result _ _
    (λ stop. StoppedBy-refused stop (Served-stopped_at_end _ read.0 (lit< tt) c.loop-turn.invariant.0 read.1 end.0 read.2 end.1)) c.finish.ensures.err

pub returns-in_err-feed-clause-refused : goal.returns-in_err-feed-clause-refused
returns-in_err-feed-clause-refused g c =
    let read = c.in-Ok-true.ensures.read in
    let handed : c.from_residual.result ≡ Err c.in_err-feed.field-0.0 = search rules in
    rw handed (StoppedBy-refused _ (Served-stopped _ read.0 c.loop-turn.invariant.0 read.1 read.2) c.in_err-feed.ensures.err)

pub returns-in-Ok-false-clause-cause : goal.returns-in-Ok-false-clause-cause
returns-in-Ok-false-clause-cause g c = rw c.loop-turn.invariant.2 at c.finish.ensures.cause

pub returns-in-Err-clause-cause : goal.returns-in-Err-clause-cause
returns-in-Err-clause-cause g c = rw c.loop-turn.invariant.2 at c.fail.ensures.cause

pub returns-in-Err-clause-cut_off : goal.returns-in-Err-clause-cut_off
returns-in-Err-clause-cut_off g c = λ _. grind (arith, c.loop-turn.invariant.3, c.in-Err.ensures.cause)

pub returns-in_err-feed-clause-cause : goal.returns-in_err-feed-clause-cause
returns-in_err-feed-clause-cause g c =
    let handed : c.from_residual.result ≡ Err c.in_err-feed.field-0.0 = search rules in
    rw handed (rw c.loop-turn.invariant.2 at c.in_err-feed.ensures.cause)

pub returns-clause-cause : goal.returns-clause-cause
returns-clause-cause g c = rw c.loop-turn.invariant.2 at c.fail-2.ensures.cause

pub returns-clause-cut_off : goal.returns-clause-cut_off
returns-clause-cut_off g c =
    let most : 2 ^ 64 - 1 ≤ c.loop-turn.turn = search rules in λ _. grind (arith, most, c.loop-turn.invariant.3)
