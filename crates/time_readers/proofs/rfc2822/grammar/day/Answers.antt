use Rattle.std.proofs.Common.{subst}
use Rattle.time_readers.specs.Readers.{IsWithin}
use Rattle.time_digits.proofs.Runs.{IsDigitRun-same}
use Rattle.time_readers.proofs.IsoDatesAndTimes.{not_both}
use Rattle.time_readers.proofs.rfc2822.grammar.day.Goals as goal

pub returns-then-not-is_in_range : goal.returns-then-not-is_in_range
returns-then-not-is_in_range g c text rest m e asks =
    let same = IsDigitRun-same 1 2 c.args.input.now c.in_ok-found.found.0.now c.in_ok-found.found.1 c.in_ok-found.ensures text rest asks.0 e asks.1 in
    not_both c.is_in_range.result (c.is_in_range.ensures.1 (subst (IsWithin _ 1 31) same asks.2)) c.if-not-is_in_range.true
