use Rattle.time_preparing.proofs.walk.fast.seconds.Goals as goal

pub returns : goal.returns
returns c = rw c.put_second.ensures (c.in_ok-found.ensures.reads c.args.parsed.now)
