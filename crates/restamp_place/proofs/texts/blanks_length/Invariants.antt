use Rattle.std.proofs.Common.{◌≡◌, ℕ, ◌<◌, true, get_or}
use Rattle.restamp_place.specs.Fields as fields
use Rattle.restamp_place.proofs.texts.blanks_length.Given as goal

abbrev pub invariant-loop-i : goal.invariant-loop-i
invariant-loop-i l = (k : ℕ) → k < l.i → fields.is_blank (get_or l.bytes k 0) ≡ true
