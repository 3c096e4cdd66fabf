use Rattle.std.proofs.Common.{arith, ◌∙◌}
use Rattle.std.proofs.lemmas.Int.{ints, to_z-of_z}
use Rattle.std.specs.Int.{w128}
use Rattle.restamp_command.proofs.FormatLemmas.{day_near}
use Rattle.restamp_command.proofs.bounds.day_of.Goals as goal

pub returns-clause-value : goal.returns-clause-value
returns-clause-value c =
    let shown = c.ranges.shown in
    let is = simp to_z-of_z at c.div_euclid.ensures in
    to_z-of_z w128 c.div_euclid.result (omega (arith, ints, is, day_near c.args.shown c.requires)) ∙ is

pub returns-clause-range : goal.returns-clause-range
returns-clause-range c =
    let shown = c.ranges.shown in
    let is = simp to_z-of_z at c.div_euclid.ensures in
    omega (arith, ints, is, day_near c.args.shown c.requires)
