use Rattle.time_record.proofs.ComponentLemmas.{MayAttempt-whole}
use Rattle.time_record.proofs.parsed.fast.whole_component.Goals as goal

pub returns-in_default : goal.returns-in_default
returns-in_default c = MayAttempt-whole _ c.args.whole.now _ _ _ _ c.in_default.not-Ignore c.component.ensures
