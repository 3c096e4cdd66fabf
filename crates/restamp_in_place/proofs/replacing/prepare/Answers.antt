use Rattle.restamp_in_place.specs.Phases.{Kept, Ready, TempRemovable}
use Rattle.restamp_in_place.proofs.PhaseLemmas.{Same-removable}
use Rattle.restamp_in_place.proofs.StepLemmas.{call_failed, runs-ok, either_way, did_store}
use Rattle.std.proofs.Common.{arith}
use Rattle.restamp_in_place.proofs.replacing.prepare.Goals as goal

pub returns-in_err-map_err : goal.returns-in_err-map_err
returns-in_err-map_err g c aim plan written =
    call_failed _ _ c.store-stored.result c.from_residual.result _ (Kept aim) _ (TempRemovable aim) (grind arith) c.store-stored.ensures
    (λ done more k s. Same-removable aim (did_store aim _ _ plan.temporary written done more k s).kept.untouched)
    (λ done k. Same-removable aim k.untouched)

pub returns : goal.returns
returns g c aim plan written =
    either_way _ _ c.unchanged.result (Kept aim) (Ready aim) (TempRemovable aim) (λ done r. Same-removable aim r.kept.untouched)
    (runs-ok _ _ c.store-stored.result _ _ _ (grind arith) c.store-stored.ensures (did_store aim _ _ plan.temporary written))
