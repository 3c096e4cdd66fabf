use Rattle.time_digits.proofs.Fractions.{fraction_nine}
use Rattle.time_digits.proofs.combinator.fast.fraction.Goals as goal

pub returns-in-Some : goal.returns-in-Some
returns-in-Some c =
    fraction_nine c.args.input.now c.in-Some.nine.0.now c.without_digits.result.now c.in-Some.nine.1 c.in-Some.ensures c.without_digits.ensures
