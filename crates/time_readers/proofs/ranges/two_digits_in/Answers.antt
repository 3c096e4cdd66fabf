use Rattle.std.proofs.Common.{subst}
use Rattle.time_readers.specs.Readers.{IsWithin}
use Rattle.time_digits.proofs.Runs.{IsDigitRun-same}
use Rattle.time_readers.proofs.IsoDatesAndTimes.{not_both}
use Rattle.time_readers.proofs.ranges.two_digits_in.Goals as goal

pub returns-else-is_in_range : goal.returns-else-is_in_range
returns-else-is_in_range g c text rest v e asks =
    let same = IsDigitRun-same 2 2 c.args.input.now c.in_ok-found.found.0.now c.in_ok-found.found.1 c.in_ok-found.ensures text rest v e asks.0 in
    not_both c.is_in_range.result (c.is_in_range.ensures.1 (subst (IsWithin _ c.args.least c.args.most) same asks.1)) c.if-is_in_range.false
