use Rattle.std.proofs.Common.{◌≡◌, ◌≤◌, ◌∷◌, length, drop}
use Rattle.time_components.specs.Tree.{further}
use Rattle.time_formatting.specs.Texts.{joined}
use Rattle.time_formatting.proofs.walk.write_literal.Given as goal

abbrev pub invariant-loop-left : goal.invariant-loop-left
invariant-loop-left g l =
    (joined g.row.CAP l.fn.text.items (l.first ∷ further l.steps) ≡ joined g.row.CAP l.text.items (further l.left))
    × (drop (length (further l.left)) l.left ≡ drop (length (further l.steps)) l.steps)
    × (length l.left ≤ length l.steps)
    × (length l.text.items ≤ g.row.CAP)

abbrev pub decreases-loop-left : goal.decreases-loop-left
decreases-loop-left g l = length l.left
