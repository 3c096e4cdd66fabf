use Rattle.std.proofs.Common.{arith}
use Rattle.std.proofs.lemmas.Int.{ints}
use Rattle.time_values.proofs.YearLemmas.{below-one}
use Rattle.time_values.proofs.utc_offset.UtcOffset.at_seconds.Goals as goal

pub invariant_of-result-clause-one_sign : goal.invariant_of-result-clause-one_sign
invariant_of-result-clause-one_sign c = below-one _ _ _ (omega (arith, ints)) (omega (arith, ints)) (omega (arith, ints))

pub returns-then-seconds-lt0 : goal.returns-then-seconds-lt0
returns-then-seconds-lt0 c = omega (arith, ints)
