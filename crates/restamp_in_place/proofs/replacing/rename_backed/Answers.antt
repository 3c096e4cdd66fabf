use Rattle.std.proofs.Common.{arith}
use Rattle.restamp_in_place.specs.Phases.{Ready, Linked, BackupRemovable, TempRemovable}
use Rattle.restamp_in_place.proofs.PhaseLemmas.{Same-removable}
use Rattle.restamp_in_place.proofs.StepLemmas.{call_failed, runs-ok, runs-then, did_link}
use Rattle.restamp_in_place.proofs.replacing.rename_backed.Goals as goal

pub returns-in_err-map_err : goal.returns-in_err-map_err
returns-in_err-map_err g c aim plan asked =
    call_failed _ _ c.link-linked.result c.from_residual.result _ (Ready aim) _ (TempRemovable aim) (grind arith) c.link-linked.ensures
    (λ done more r l. Same-removable aim (did_link aim _ _ plan.name asked done more r l).ready.kept.untouched)
    (λ done r. Same-removable aim r.kept.untouched)

pub returns-in-Err : goal.returns-in-Err
returns-in-Err g c aim plan asked =
    runs-then _ _ _ _ (Linked aim) _
    (runs-ok _ _ c.link-linked.result _ _ _ (grind arith) c.link-linked.ensures (did_link aim _ _ plan.name asked))
    (runs-then _ _ _ _ (BackupRemovable aim) _ (c.in-Err.ensures aim plan) (c.remove_backup.ensures aim plan asked))

pub returns-in-Ok : goal.returns-in-Ok
returns-in-Ok g c aim plan asked =
    runs-then _ _ _ _ (Linked aim) _
    (runs-ok _ _ c.link-linked.result _ _ _ (grind arith) c.link-linked.ensures (did_link aim _ _ plan.name asked)) (c.in-Ok.ensures aim plan)
