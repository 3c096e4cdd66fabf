use Rattle.std.proofs.Common.{◌≡◌, ◌-◌, ◌≤◌, length, take}
use Rattle.time_digits.specs.Digits.{digits_value}
use Rattle.time_digits.proofs.combinator.grammar.value_of_digits.Given as goal

abbrev pub invariant-loop-count : goal.invariant-loop-count
invariant-loop-count g l = record {
  in_range : l.count ≤ length l.digits;
  is : g.T.Integer.value l.value ≡ digits_value (take l.count l.digits);
  fits : g.T.Integer.value l.value ≤ g.T.Integer.greatest;
}

abbrev pub decreases-loop-count : goal.decreases-loop-count
decreases-loop-count g l = length l.digits - l.count
