use Rattle.std.proofs.Common.{◌≡◌, ◌≤◌, ◌<◌, ◌-◌, ℕ, false, length}
use Rattle.restamp_lines.specs.Begins.{may_begin}
use Rattle.restamp_lines.proofs.anywhere.fast.next_start.Given as goal

abbrev pub invariant-loop-at : goal.invariant-loop-at
invariant-loop-at l =
    (l.fn.from ≤ l.at) × (l.at ≤ length l.line) × ((k : ℕ) → l.fn.from ≤ k → k < l.at → may_begin l.firsts l.line k ≡ false)

abbrev pub decreases-loop-at : goal.decreases-loop-at
decreases-loop-at l = length l.line - l.at
