use Rattle.std.proofs.Common.{◌≡◌, Err, rules, arith}
use Rattle.std.proofs.lemmas.Result.{IfOk-at_ok}
use Rattle.restamp_in_place.specs.Phases.{Kept}
use Rattle.restamp_in_place.proofs.ReplaceLemmas.{IsMade-kept, IsMade-removed, IsMade-reached}
use Rattle.restamp_in_place.proofs.StepLemmas.{runs-any, runs-ok, runs-weaker}
use Rattle.restamp_in_place.proofs.replacing.finish.Goals as goal

pub returns-in_ok-install_or_remove-in-Ok-Changed-clause-ends : goal.returns-in_ok-install_or_remove-in-Ok-Changed-clause-ends
returns-in_ok-install_or_remove-in-Ok-Changed-clause-ends g c aim plan written =
    runs-weaker _ _ (Kept aim) _ _ _ (IsMade-kept aim) (λ _ is. is)
    (c.in_ok-install_or_remove-in-Ok-Changed.ensures aim plan (IfOk-at_ok _ c.in-Ok-Changed.is written (search rules)))

pub returns-in_err-install_or_remove-in-Ok-Changed-clause-ends : goal.returns-in_err-install_or_remove-in-Ok-Changed-clause-ends
returns-in_err-install_or_remove-in-Ok-Changed-clause-ends g c aim plan written =
    let handed : c.from_residual.result ≡ Err c.in_err-install_or_remove-in-Ok-Changed.field-0.0 = search rules in
    rw handed (runs-weaker _ _ (Kept aim) _ _ _ (IsMade-kept aim) (λ _ is. is)
    (c.in_err-install_or_remove-in-Ok-Changed.ensures aim plan (IfOk-at_ok _ c.in-Ok-Changed.is written (grind arith))))

pub returns-in_ok-map_err-in-Ok-Same-clause-ends : goal.returns-in_ok-map_err-in-Ok-Same-clause-ends
returns-in_ok-map_err-in-Ok-Same-clause-ends g c aim plan written =
    runs-ok _ _ c.remove-removed.result _ _ _ (grind arith) c.remove-removed.ensures (IsMade-removed aim _ plan.temporary)

pub returns-in_err-map_err-in-Ok-Same-clause-ends : goal.returns-in_err-map_err-in-Ok-Same-clause-ends
returns-in_err-map_err-in-Ok-Same-clause-ends g c aim plan written =
    let handed : c.from_residual-in_err-map_err-in-Ok-Same.result ≡ Err c.in_err-map_err-in-Ok-Same.field-0.0 = search rules in
    rw handed (runs-any _ _ _ _ _ _ c.remove-removed.ensures (λ done more is gone. (IsMade-removed aim _ plan.temporary done more is gone).0)
    (λ _. IsMade-reached aim))

pub returns-after-failure-clause-ends : goal.returns-after-failure-clause-ends
returns-after-failure-clause-ends g c aim plan written =
    runs-any _ _ _ _ _ _ c.remove.ensures (λ done more is gone. (IsMade-removed aim _ plan.temporary done more is gone).0)
    (λ _. IsMade-reached aim)
