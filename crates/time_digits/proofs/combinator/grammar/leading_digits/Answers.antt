use Rattle.std.proofs.Common.{get_or, arith, rules}
use Rattle.std.proofs.lemmas.List.{take_more}
use Rattle.time_digits.specs.Digits.{IsDigit}
use Rattle.time_digits.proofs.Runs.{AllDigits-push}
use Rattle.time_digits.proofs.combinator.grammar.leading_digits.Goals as goal

pub loop-count-preserved : goal.loop-count-preserved
loop-count-preserved c =
    let s = c.args.input.now in
    let i = c.loop-count.count in
    let more = take_more s i 0 (omega arith) in
    let digit : IsDigit (get_or s i 0) = search rules in
    (rw more (AllDigits-push _ _ c.loop-count.invariant.0 digit), omega arith, omega arith)
