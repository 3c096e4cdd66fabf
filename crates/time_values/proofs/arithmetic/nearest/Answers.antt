use Rattle.std.proofs.Common.{arith, ◌∙◌}
use Rattle.std.proofs.lemmas.Int.{ints}
use Rattle.time_values.proofs.InstantLemmas.{first_instant_is, last_instant_is}
use Rattle.time_values.proofs.arithmetic.nearest.Goals as goal

pub returns : goal.returns
returns c = c.at_instant-2.ensures ∙ (rw (first_instant_is, last_instant_is) (grind (arith, ints)))

pub returns-then-nanos-lt-MIN_NANOS : goal.returns-then-nanos-lt-MIN_NANOS
returns-then-nanos-lt-MIN_NANOS c = c.at_instant.ensures ∙ (rw (first_instant_is, last_instant_is) (grind (arith, ints)))

pub returns-then-nanos-gt-MAX_NANOS : goal.returns-then-nanos-gt-MAX_NANOS
returns-then-nanos-gt-MAX_NANOS c = c.at_instant-then-nanos-gt-MAX_NANOS.ensures ∙ (rw (first_instant_is, last_instant_is) (grind (arith, ints)))
