use Rattle.std.proofs.Common.{arith}
use Rattle.restamp_in_place.specs.Phases.{Linked, Backed, BackupRemovable}
use Rattle.restamp_in_place.proofs.PhaseLemmas.{removable-backed, removable-linked}
use Rattle.restamp_in_place.proofs.StepLemmas.{call_failed, runs-ok, runs-then, did_sync}
use Rattle.restamp_in_place.proofs.replacing.rename_linked.Goals as goal

pub returns-in_err-map_err : goal.returns-in_err-map_err
returns-in_err-map_err g c aim plan =
    call_failed _ _ c.sync-synced.result c.from_residual.result _ (Linked aim) _ (BackupRemovable aim) (grind arith) c.sync-synced.ensures
    (λ done more l is. removable-backed aim (did_sync aim done more l is)) (λ done. removable-linked aim)

pub returns : goal.returns
returns g c aim plan =
    runs-then _ _ _ _ (Backed aim) _ (runs-ok _ _ c.sync-synced.result _ _ _ (grind arith) c.sync-synced.ensures (did_sync aim)) (c.rename.ensures aim plan)
