use Rattle.time_digits.specs.Digits.{IsPaddedRun}
use Rattle.time_digits.proofs.WordBytes.{IsUnique-cut}
use Rattle.time_digits.proofs.Runs.{IsPaddedRun-unique}
use Rattle.time_digits.proofs.laws.law_one_padded_run.Goals as goal

pub returns : goal.returns
returns c = λ padding least most. IsUnique-cut (IsPaddedRun padding least most) (IsPaddedRun-unique padding least most)
