use Rattle.time_readers.proofs.iso8601.fast.after_t.Goals as goal

pub returns-in-Some : goal.returns-in-Some
returns-in-Some c =
    c.extended_time.ensures c.args.input.now c.in_ok-hour.hour.0.now c.in_ok-hour.ensures c.in-Some.ensures
