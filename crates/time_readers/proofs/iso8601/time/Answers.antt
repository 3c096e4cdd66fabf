use Rattle.time_readers.proofs.iso8601.time.Goals as goal

pub returns-in-Some : goal.returns-in-Some
returns-in-Some c = c.in-Some.ensures c.args.needs_t
