use Rattle.std.proofs.Common.{◌≡◌, ◌≤◌, ◌<◌, ℕ, false}
use Rattle.restamp_lines.specs.Begins.{may_begin}
use Rattle.restamp_lines.proofs.anywhere.fast.find_within.Given as goal

abbrev pub invariant-loop-place : goal.invariant-loop-place
invariant-loop-place l = (k : ℕ) → l.from ≤ k → k < l.place → may_begin l.firsts l.line k ≡ false
