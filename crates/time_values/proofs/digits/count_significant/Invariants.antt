use Rattle.std.proofs.Common.{◌≡◌, ◌≤◌}
use Rattle.time_values.specs.DisplayTexts.{significant}
use Rattle.time_values.proofs.digits.count_significant.Given as goal

abbrev pub invariant-loop-count : goal.invariant-loop-count
invariant-loop-count l = (l.count ≤ 9) × (significant 9 l.fn.nanosecond ≡ significant l.count l.n)

abbrev pub decreases-loop-count : goal.decreases-loop-count
decreases-loop-count l = l.count
