use Rattle.restamp_command.proofs.bounds.moment_from.Goals as goal

pub returns-in-Later : goal.returns-in-Later
returns-in-Later c = rw c.in-Later.is (rw c.in-Later.is at c.named_at.ensures)
