use Rattle.time_readers.proofs.iso8601.fast.time.Goals as goal

pub returns : goal.returns
returns c needed = rw c.in_ok-byte.ensures c.after_t.ensures
