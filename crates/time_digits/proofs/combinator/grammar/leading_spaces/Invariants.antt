use Rattle.std.proofs.Common.{◌≡◌, ◌-◌, ◌≤◌, ◌++◌, replicate, drop, length}
use Rattle.time_digits.proofs.combinator.grammar.leading_spaces.Given as goal

abbrev pub invariant-loop-count : goal.invariant-loop-count
invariant-loop-count l = record {
  in_range : l.count ≤ length l.input;
  spaces : l.input ≡ replicate l.count 32 ++ drop l.count l.input;
  within : l.count ≤ l.most;
}

abbrev pub decreases-loop-count : goal.decreases-loop-count
decreases-loop-count l = l.most - l.count
