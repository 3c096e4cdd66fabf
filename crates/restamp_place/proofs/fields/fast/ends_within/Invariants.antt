use Rattle.std.proofs.Common.{◌≡◌, ◌≤◌, drop}
use Rattle.restamp_place.specs.Words.{word_ends}
use Rattle.restamp_place.proofs.fields.fast.ends_within.Given as goal

abbrev pub invariant-loop-k : goal.invariant-loop-k
invariant-loop-k l = (l.ends ≤ l.k) × (l.ends ≡ word_ends l.k (drop l.start l.line))
