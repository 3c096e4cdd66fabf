use Rattle.std.proofs.Common.{◌≡◌, ◌<◌, ℕ, false, get_or}
use Rattle.restamp_place.specs.Fields as fields
use Rattle.restamp_place.proofs.texts.word_from.Given as goal

abbrev pub invariant-loop-at : goal.invariant-loop-at
invariant-loop-at l = (k : ℕ) → k < l.at → fields.is_blank (get_or l.bytes k 0) ≡ false
