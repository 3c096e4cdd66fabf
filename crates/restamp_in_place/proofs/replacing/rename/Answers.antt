use Rattle.restamp_in_place.proofs.PhaseLemmas.{removable-backed}
use Rattle.restamp_in_place.proofs.StepLemmas.{tried, did_rename, rename_failed}
use Rattle.restamp_in_place.proofs.replacing.rename.Goals as goal

pub returns : goal.returns
returns g c aim plan =
    tried _ _ c.rename-renamed.result c.map_err.result _ _ _ _ c.map_err.ensures.variant c.rename-renamed.ensures
    (did_rename aim _ _ plan.temporary plan.name) (rename_failed aim _ _ plan.temporary plan.name) (λ done. removable-backed aim)
