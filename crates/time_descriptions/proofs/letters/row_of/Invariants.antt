use Rattle.std.proofs.Common.{◌≡◌, length}
use Rattle.time_descriptions.specs.Strftime.{row_of}
use Rattle.time_descriptions.proofs.letters.row_of.Given as goal

-- looking up in the remaining rows gives the result of looking up in all rows
abbrev pub invariant-loop-left : goal.invariant-loop-left
invariant-loop-left g l = row_of l.left l.letter ≡ row_of l.rows l.letter

abbrev pub decreases-loop-left : goal.decreases-loop-left
decreases-loop-left g l = length l.left
