use Rattle.time_digits.specs.Digits.{IsDigitRun}
use Rattle.time_digits.proofs.WordBytes.{IsUnique-cut}
use Rattle.time_digits.proofs.Runs.{IsDigitRun-one}
use Rattle.time_digits.proofs.laws.law_one_digit_run.Goals as goal

pub returns : goal.returns
returns c = λ least most. IsUnique-cut (IsDigitRun least most) (IsDigitRun-one least most)
