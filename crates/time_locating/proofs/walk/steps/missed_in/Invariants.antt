use Rattle.std.proofs.Common.{◌≡◌, ◌∷◌, length}
use Rattle.time_components.specs.Tree.{further}
use Rattle.time_locating.specs.Misses.{first_byte, literal_misses}
use Rattle.time_locating.proofs.walk.steps.missed_in.Given as goal

abbrev pub invariant-loop-rest : goal.invariant-loop-rest
invariant-loop-rest l =
    literal_misses first_byte (l.wanted ∷ further l.left) l.rest
    ≡ literal_misses first_byte (l.fn.byte ∷ further l.fn.steps) l.fn.input

abbrev pub decreases-loop-rest : goal.decreases-loop-rest
decreases-loop-rest l = length l.rest
