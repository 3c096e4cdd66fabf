use Rattle.std.proofs.Common.{◌+◌, ◌*◌, length}
use Rattle.restamp_formats.proofs.missing_field.+always.Given as goal

abbrev pub decreases-one_always : goal.decreases-one_always
decreases-one_always l = 3 * length l.steps.now

abbrev pub decreases-each_always : goal.decreases-each_always
decreases-each_always l = 3 * length l.steps.now

abbrev pub decreases-group_always : goal.decreases-group_always
decreases-group_always l = 3 * length l.inside.now + 1

abbrev pub decreases-item_always : goal.decreases-item_always
decreases-item_always l = 3 * length l.behind.now + 2
