use Rattle.std.proofs.Common.{◌≡◌, List, ℕ, ◌++◌, length}
use Rattle.time_digits.specs.Digits.{AllDigits}
use Rattle.time_digits.proofs.combinator.grammar.without_digits.Given as goal

abbrev pub invariant-loop-rest : goal.invariant-loop-rest
invariant-loop-rest l = (digits : List ℕ) × (l.input ≡ digits ++ l.rest) × AllDigits digits

abbrev pub decreases-loop-rest : goal.decreases-loop-rest
decreases-loop-rest l = length l.rest
