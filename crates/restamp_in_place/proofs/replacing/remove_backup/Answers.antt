use Rattle.restamp_in_place.proofs.StepLemmas.{remove-backup, known-there, runs-same}
use Rattle.restamp_in_place.proofs.replacing.remove_backup.Goals as goal

pub returns-in_default : goal.returns-in_default
returns-in_default g c aim plan asked = runs-same _ _ _ (λ done l. l.removable)

pub returns-in_default-2 : goal.returns-in_default-2
returns-in_default-2 g c aim plan asked = runs-same _ _ _ (λ done l. l.removable)

pub returns : goal.returns
returns g c aim plan asked =
    remove-backup aim _ _ _ _ asked
    (known-there aim _ _ _ _ c.in-Ok-true.field-0-test plan.name plan.original c.in-Ok-true.ensures) c.remove.ensures
