use Rattle.std.proofs.Common.{◌-ℤ◌, FitsSigned, arith, refl}
use Rattle.std.proofs.lemmas.Int.{ints, to_z-of_z}
use Rattle.std.specs.Int.{w128}
use Rattle.restamp_command.proofs.bounds.nanos_of.Goals as goal

pub returns-in-Day-clause-value : goal.returns-in-Day-clause-value
returns-in-Day-clause-value c =
    let mid : FitsSigned w128 c.midnight_at.result = omega (arith, ints, c.midnight_at.ensures.range) in
    let ahead : FitsSigned w128 c.ahead_of.result = omega (arith, ints, c.ahead_of.ensures.range) in
    let fits : FitsSigned w128 (c.midnight_at.result -ℤ c.ahead_of.result) =
    omega (arith, ints, c.midnight_at.ensures.range, c.ahead_of.ensures.range) in
    rw c.in-Day.is (rw (
      to_z-of_z w128 c.midnight_at.result mid,
      to_z-of_z w128 c.ahead_of.result ahead,
      to_z-of_z w128 (c.midnight_at.result -ℤ c.ahead_of.result) fits,
      c.midnight_at.ensures.value,
      c.ahead_of.ensures.value,
    ) refl)
