use Rattle.std.proofs.Common.{arith}
use Rattle.time_digits.proofs.Runs.{spaced_digit_cut}
use Rattle.time_preparing.proofs.forms.fast.spaced_digit.Goals as goal

pub returns-in-32 : goal.returns-in-32
returns-in-32 c =
    spaced_digit_cut c.args.input.now _ c.in-32.len_at_least (omega arith) (omega arith, omega arith) (omega arith)
