use Rattle.std.proofs.Common.{rules, arith, ◌∙◌, sym}
use Rattle.time_values.proofs.NumberLemmas.{significant-zero, significant-digit, significant-none}
use Rattle.time_values.proofs.digits.count_significant.Goals as goal

pub loop-count-preserved : goal.loop-count-preserved
loop-count-preserved c =
    (search rules, c.loop-count.invariant.1 ∙ significant-zero _ _ c.loop-count-test.true c.if-n-eq0.true)

pub returns-else-n-eq0-clause-count : goal.returns-else-n-eq0-clause-count
returns-else-n-eq0-clause-count c = sym (c.loop-count.invariant.1 ∙ significant-digit _ _ c.if-n-eq0.false)

pub returns-after-loop-count-clause-count : goal.returns-after-loop-count-clause-count
returns-after-loop-count-clause-count c = sym (c.loop-count.invariant.1 ∙ significant-none _ _ (omega arith))
