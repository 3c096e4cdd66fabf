use Rattle.std.proofs.Common.{arith}
use Rattle.time_digits.specs.Digits.{IsDigitRun, IsDigitRunUpTo}
use Rattle.time_digits.proofs.WordBytes.{Finds-same}
use Rattle.time_digits.proofs.Runs.{IsDigitRun-below, pow-mono}
use Rattle.time_digits.proofs.combinator.grammar.exact_run.Goals as goal

pub returns : goal.returns
returns c =
    let nine = pow-mono c.args.n 9 c.requires in
    Finds-same (IsDigitRunUpTo 4294967295 c.args.n c.args.n) (IsDigitRun c.args.n c.args.n) (λ v. v) c.args.input.now c.digit_run.result
    (λ text rest v run. run.0)
    (λ text rest v run. let below = IsDigitRun-below c.args.n c.args.n text rest v run in (run, omega arith))
    (rw (c.from.ensures, c.from-2.ensures) at c.digit_run.ensures)
