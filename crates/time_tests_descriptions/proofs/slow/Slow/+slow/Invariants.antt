use Rattle.std.proofs.Common.{◌+◌, ◌*◌}
use Rattle.time_tests_descriptions.proofs.slow.Slow.+slow.Given as goal

abbrev pub decreases-item : goal.decreases-item
decreases-item l = 3 * l.depth + 1

abbrev pub decreases-items : goal.decreases-items
decreases-items l = 3 * l.depth + 2

abbrev pub decreases-group : goal.decreases-group
decreases-group l = 3 * l.depth
