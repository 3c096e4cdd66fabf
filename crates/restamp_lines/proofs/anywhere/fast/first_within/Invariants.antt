use Rattle.std.proofs.Common.{◌≡◌, ◌+◌, ◌≤◌, ◌<◌, ℕ, false}
use Rattle.restamp_lines.specs.Begins.{may_begin}
use Rattle.restamp_lines.proofs.anywhere.fast.first_within.Given as goal

abbrev pub invariant-loop-k : goal.invariant-loop-k
invariant-loop-k l =
    (l.first ≤ 16) × ((j : ℕ) → j < l.k → j < l.first → may_begin l.firsts l.line (l.from + j) ≡ false)
