use Rattle.restamp_tests.proofs.memory.MemoryFolder.sync.Goals as goal

pub returns : goal.returns
returns c = c.note.ensures.noted
