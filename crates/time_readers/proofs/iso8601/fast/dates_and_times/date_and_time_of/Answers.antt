use Rattle.std.proofs.Common.{arith}
use Rattle.time_readers.proofs.iso8601.fast.dates_and_times.date_and_time_of.Goals as goal

pub returns : goal.returns
returns c text first =
    let second = c.in_ok-second.ensures in
    (c.in_ok-date.ensures text first.0, first.1 second.0 _ _ _ (omega arith) second.1 second.2)
