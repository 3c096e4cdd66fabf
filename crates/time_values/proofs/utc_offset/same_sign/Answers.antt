use Rattle.std.proofs.Common.{arith}
use Rattle.std.proofs.lemmas.Int.{ints, to_z-of_z}
use Rattle.time_values.proofs.utc_offset.same_sign.Goals as goal

pub returns-then-from-lt0-clause-bound : goal.returns-then-from-lt0-clause-bound
returns-then-from-lt0-clause-bound c = grind (arith, ints, to_z-of_z)
