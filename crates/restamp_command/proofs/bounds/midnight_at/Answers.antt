use Rattle.std.proofs.Common.{◌+ℤ◌, FitsSigned, arith, ◌∙◌}
use Rattle.std.proofs.lemmas.Int.{ints, to_z-of_z}
use Rattle.std.specs.Int.{w128}
use Rattle.restamp_command.proofs.bounds.midnight_at.Goals as goal

pub returns-clause-value : goal.returns-clause-value
returns-clause-value c =
    let now : FitsSigned w128 c.since_1970.result = omega (arith, ints, c.since_1970.ensures.range) in
    let ahead : FitsSigned w128 c.ahead_of.result = omega (arith, ints, c.ahead_of.ensures.range) in
    let shown : FitsSigned w128 (c.since_1970.result +ℤ c.ahead_of.result) =
    omega (arith, ints, c.since_1970.ensures.range, c.ahead_of.ensures.range) in
    let day : FitsSigned w128 c.day_of.result = omega (arith, ints, c.day_of.ensures.range) in
    let mid : FitsSigned w128 c.midnight.result = omega (arith, ints, c.midnight.ensures.range) in
    let day_is = simp to_z-of_z at c.day_of.ensures.value in
    let is = rw day_is at (simp to_z-of_z at c.midnight.ensures.value) in
    to_z-of_z w128 c.midnight.result mid ∙ (rw (c.ahead_of.ensures.value, c.since_1970.ensures.value) at is)
