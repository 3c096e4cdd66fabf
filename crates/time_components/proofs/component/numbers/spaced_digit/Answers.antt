use Rattle.std.proofs.Common.{arith}
use Rattle.time_digits.proofs.Runs.{spaced_digit_cut}
use Rattle.time_components.proofs.component.numbers.spaced_digit.Goals as goal

pub returns-then-digit-le57 : goal.returns-then-digit-le57
returns-then-digit-le57 c =
    spaced_digit_cut c.args.input.now _ c.in-len2-up.len_at_least (omega arith) (omega arith, omega arith) (omega arith)
