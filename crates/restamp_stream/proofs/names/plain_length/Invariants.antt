use Rattle.std.proofs.Common.{◌≡◌, ℕ, ◌<◌, false, get_or}
use Rattle.restamp_stream.specs.Reports.{is_escaped}
use Rattle.restamp_stream.proofs.names.plain_length.Given as goal

abbrev pub invariant-loop-i : goal.invariant-loop-i
invariant-loop-i l = (k : ℕ) → k < l.i → is_escaped l.ascii (get_or l.name k 0) ≡ false
