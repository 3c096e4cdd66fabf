use Rattle.std.proofs.Common.{◌<◌, ◌^◌, arith}
use Rattle.time_digits.proofs.Runs.{IsDigitRun-below}
use Rattle.time_readers.proofs.ranges.four_digit_year.Goals as goal

pub overflow_cast-result : goal.overflow_cast-result
overflow_cast-result c =
    let found = c.in_ok-found.ensures in
    let below = IsDigitRun-below 4 4 found.0 c.in_ok-found.found.0.now c.in_ok-found.found.1 found.2 in
    omega arith
