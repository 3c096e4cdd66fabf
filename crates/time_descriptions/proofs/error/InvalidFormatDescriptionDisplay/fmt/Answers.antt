use Rattle.time_descriptions.proofs.error.InvalidFormatDescriptionDisplay.fmt.Goals as goal

pub returns-in-Expected-clause-writes : goal.returns-in-Expected-clause-writes
returns-in-Expected-clause-writes g c = rw c.in-Expected.is c.write.ensures.writes
