use Rattle.time_record.proofs.ComponentLemmas.{not_put, spelled}
use Rattle.time_record.proofs.parsed.Parsed.store.Goals as goal

pub returns-in_err-put : goal.returns-in_err-put
returns-in_err-put g c = rw c.from_residual.ensures (not_put _ _ _ _ _ _ _ _ c.requires c.in_err-put.ensures)

pub returns : goal.returns
returns g c = spelled _ _ _ _ _ _ _ _ tt c.requires c.in_ok-put.ensures
