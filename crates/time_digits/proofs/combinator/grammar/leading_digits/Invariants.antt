use Rattle.std.proofs.Common.{◌-◌, ◌≤◌, length, take}
use Rattle.time_digits.specs.Digits.{AllDigits}
use Rattle.time_digits.proofs.combinator.grammar.leading_digits.Given as goal

abbrev pub invariant-loop-count : goal.invariant-loop-count
invariant-loop-count l = AllDigits (take l.count l.input) × (l.count ≤ l.most) × (l.count ≤ length l.input)

abbrev pub decreases-loop-count : goal.decreases-loop-count
decreases-loop-count l = l.most - l.count
