use Rattle.std.proofs.Common.{◌≡◌, length, map}
use Rattle.time_descriptions.specs.Values.{look_up}
use Rattle.time_descriptions.proofs.WrittenComponents.{seen_row}
use Rattle.time_descriptions.proofs.names.look_up.Given as goal

-- looking up in the remaining rows gives the result of looking up in all rows
abbrev pub invariant-loop-left : goal.invariant-loop-left
invariant-loop-left g l = look_up (map seen_row l.left) l.name ≡ look_up (map seen_row l.rows) l.name

abbrev pub decreases-loop-left : goal.decreases-loop-left
decreases-loop-left g l = length l.left
