use Rattle.std.proofs.Common.{arith}
use Rattle.time_digits.proofs.Fractions.{three_cut}
use Rattle.time_digits.proofs.combinator.three_digits.Goals as goal

pub returns-in-48-to-57 : goal.returns-in-48-to-57
returns-in-48-to-57 c =
    three_cut c.args.input.now _ c.in-48-to-57.len_at_least (omega arith, omega arith) (omega arith, omega arith)
    (omega arith, omega arith) (omega arith)
