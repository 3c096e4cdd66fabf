use Rattle.std.proofs.Common.{◌≡◌, ◌≤◌, ◌-◌, length, drop}
use Rattle.restamp_place.specs.Fields as fields
use Rattle.restamp_place.proofs.WordLemmas.{further}
use Rattle.restamp_place.proofs.texts.closing_quote.Given as goal

abbrev pub invariant-loop-at : goal.invariant-loop-at
invariant-loop-at l =
    (l.at ≤ length l.bytes) × (fields.closing_quote l.bytes ≡ further l.at (fields.closing_quote (drop l.at l.bytes)))

abbrev pub decreases-loop-at : goal.decreases-loop-at
decreases-loop-at l = length l.bytes - l.at
