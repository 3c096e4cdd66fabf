use Rattle.std.proofs.Common.{◌<◌, ◌≤◌, length, drop}
use Rattle.time_readers.specs.IsoTimes.{IsFloor}
use Rattle.time_readers.proofs.iso8601.grammar.carried.Given as goal

abbrev pub invariant-loop-count : goal.invariant-loop-count
invariant-loop-count l =
    record { in_range : l.count ≤ length l.digits; floor : IsFloor (drop l.count l.digits) l.unit l.carry; below : l.carry < l.unit }

abbrev pub decreases-loop-count : goal.decreases-loop-count
decreases-loop-count l = l.count
