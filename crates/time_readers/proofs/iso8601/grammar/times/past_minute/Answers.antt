use Rattle.std.proofs.Common.{refl}
use Rattle.time_readers.proofs.OneMailDate.{floor-is}
use Rattle.time_readers.proofs.iso8601.grammar.times.past_minute.Goals as goal

pub returns : goal.returns
returns c =
    rw (floor-is c.args.digits.now 60_000_000_000 c.floor_fraction-nanoseconds.result c.floor_fraction-nanoseconds.ensures.floor) refl
