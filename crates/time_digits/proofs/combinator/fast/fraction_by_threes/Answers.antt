use Rattle.std.proofs.Common.{arith}
use Rattle.time_digits.proofs.Fractions.{three_below, three_fraction, six_fraction}
use Rattle.time_digits.proofs.combinator.fast.fraction_by_threes.Goals as goal

pub overflow_mul-result : goal.overflow_mul-result
overflow_mul-result c = let below = three_below _ _ _ c.in_ok-first.ensures in omega arith

pub returns-in-None : goal.returns-in-None
returns-in-None c = three_fraction _ _ _ c.in_ok-first.ensures c.in-None.ensures

pub overflow_mul-result-in-None-any_digit : goal.overflow_mul-result-in-None-any_digit
overflow_mul-result-in-None-any_digit c = let below = three_below _ _ _ c.in_ok-first.ensures in omega arith

pub overflow_mul-result-in-None-any_digit-2 : goal.overflow_mul-result-in-None-any_digit-2
overflow_mul-result-in-None-any_digit-2 c = let below = three_below _ _ _ c.in-Some.ensures in omega arith

pub overflow_add-result : goal.overflow_add-result
overflow_add-result c =
    let first = three_below _ _ _ c.in_ok-first.ensures in
    let second = three_below _ _ _ c.in-Some.ensures in
    omega arith

pub returns-in-None-any_digit : goal.returns-in-None-any_digit
returns-in-None-any_digit c = six_fraction _ _ _ _ _ c.in_ok-first.ensures c.in-Some.ensures c.in-None-any_digit.ensures
