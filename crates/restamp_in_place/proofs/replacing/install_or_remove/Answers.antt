use Rattle.restamp_in_place.specs.Phases.{TempRemovable, Put}
use Rattle.restamp_in_place.proofs.StepLemmas.{tried, runs-any, runs-then, did_remove, did_finish}
use Rattle.restamp_in_place.proofs.replacing.install_or_remove.Goals as goal

pub returns-in-Err : goal.returns-in-Err
returns-in-Err g c aim plan written =
    runs-then _ _ _ _ (TempRemovable aim) _ (c.in-Err.ensures aim plan written)
    (runs-any _ _ _ _ _ _ c.remove.ensures (did_remove aim _ plan.temporary) (λ _ done l. l.reached))

pub returns-in-Ok : goal.returns-in-Ok
returns-in-Ok g c aim plan written =
    runs-then _ _ _ _ (Put aim) _ (c.in-Ok.ensures aim plan written)
    (tried _ _ c.sync.result c.map_err.result _ _ _ _ c.map_err.ensures.variant c.sync.ensures (did_finish aim)
    (λ done more p is. (did_finish aim done more p is).reached) (λ done p. p.reached))
