use Rattle.std.proofs.Common.{rules, refl, Err, ◌≡◌, ◌∙◌}
use Rattle.restamp_stream.proofs.ProcessedLemmas.{ProcessedFiles-more, StoppedIn-at}
use Rattle.restamp_stream.proofs.stream.Stream.serve_files.Goals as goal

pub loop-name-init : goal.loop-name-init
loop-name-init g c = ((refl, refl), refl, refl)

pub loop-name-preserved : goal.loop-name-preserved
loop-name-preserved g c =
    let so_far = c.loop-name.invariant in (
      ProcessedFiles-more (g.T.Rewriting.is_action c.args.rewriting.now) (g.T.Rewriting.is_reason c.args.rewriting.now) c.args.settings
          (g.O.Opening.bytes_of c.args.opening.now) (λ name. name.now) _ _ _ _ _ _ c.args.names.now c.loop-name.name-index _ so_far.0
          (search rules) (rw so_far.1 at c.in_ok-serve_next.ensures.ok) c.in_ok-serve_next.ensures.later,
      c.in_ok-serve_next.ensures.same ∙ so_far.1,
      c.in_ok-serve_next.ensures.cause ∙ so_far.2,
    )

pub returns-in_err-serve_next-clause-refused : goal.returns-in_err-serve_next-clause-refused
returns-in_err-serve_next-clause-refused g c =
    let so_far = c.loop-name.invariant in
    let handed : c.from_residual.result ≡ Err c.in_err-serve_next.field-0.0 = search rules in
    let here = rw so_far.1 at c.in_err-serve_next.ensures.refused in
    rw handed (λ is. StoppedIn-at (g.T.Rewriting.is_action c.args.rewriting.now) (g.T.Rewriting.is_reason c.args.rewriting.now) c.args.settings
    (g.O.Opening.bytes_of c.args.opening.now) (λ name. name.now) _ _ _ _ _ _ c.args.names.now c.loop-name.name-index _ so_far.0
    (search rules) (here is) c.in_err-serve_next.ensures.later)

pub returns-in_err-serve_next-clause-cause : goal.returns-in_err-serve_next-clause-cause
returns-in_err-serve_next-clause-cause g c =
    let handed : c.from_residual.result ≡ Err c.in_err-serve_next.field-0.0 = search rules in
    rw handed (rw c.loop-name.invariant.2 at c.in_err-serve_next.ensures.cause)
