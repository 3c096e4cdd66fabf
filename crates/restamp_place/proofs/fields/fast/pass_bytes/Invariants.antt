use Rattle.std.proofs.Common.{ℕ, ◌≤◌, ◌-◌, length}
use Rattle.restamp_place.specs.Words.{IsPassed}
use Rattle.restamp_place.proofs.fields.fast.pass_bytes.Given as goal

abbrev pub invariant-loop-next : goal.invariant-loop-next
invariant-loop-next l =
    (l.next.start ≤ length l.line) × ((n : ℕ) → IsPassed n l.line l.fn.passed → IsPassed n l.line l.next)

abbrev pub decreases-loop-next : goal.decreases-loop-next
decreases-loop-next l = length l.line - l.next.start
