use Rattle.std.proofs.Common.{arith}
use Rattle.time_digits.proofs.Fractions.{digits_more}
use Rattle.time_digits.proofs.combinator.grammar.without_digits.Goals as goal

pub loop-rest-preserved : goal.loop-rest-preserved
loop-rest-preserved c =
    let read = c.loop-rest.invariant in
    digits_more c.args.input.now read.0 c.loop-rest.rest.now read.1 read.2 c.in-48-to-57.len_at_least (omega arith, omega arith)
