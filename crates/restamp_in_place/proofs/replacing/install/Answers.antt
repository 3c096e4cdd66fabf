use Rattle.std.proofs.Common.{◌≡◌, Err, rules, sym, ap, ◌∙◌}
use Rattle.std.specs.Option.{option_map}
use Rattle.restamp_in_place.specs.Phases.{Ready, Backed, BackupRemovable, Put}
use Rattle.restamp_in_place.proofs.PhaseLemmas.{backed-none}
use Rattle.restamp_in_place.proofs.StepLemmas.{runs-then, runs-weaker, goes-into}
use Rattle.restamp_in_place.proofs.replacing.install.Goals as goal

pub returns-in_err-prepare : goal.returns-in_err-prepare
returns-in_err-prepare g c aim plan written =
    let handed : c.from_residual.result ≡ Err c.in_err-prepare.field-0.0 = search rules in rw handed (c.in_err-prepare.ensures aim plan written)

pub returns-in-Some : goal.returns-in-Some
returns-in-Some g c aim plan written =
    runs-then _ _ _ _ (Ready aim) _ (c.in_ok-prepare.ensures aim plan written)
    (c.rename_backed.ensures aim plan (sym plan.backup ∙ ap (option_map (λ second. second.now)) c.in-Some.is))

pub returns-in-None : goal.returns-in-None
returns-in-None g c aim plan written =
    runs-then _ _ _ _ (Backed aim) _
    (runs-weaker _ _ _ _ (Ready aim) _ (λ _ is. is)
    (λ done r. backed-none aim r (sym plan.backup ∙ ap (option_map (λ second. second.now)) c.in-None.is)) (c.in_ok-prepare.ensures aim plan written))
    (goes-into _ _ c.rename.result _ (Put aim) (BackupRemovable aim) _ (λ done l. l.removable) (c.rename.ensures aim plan))
