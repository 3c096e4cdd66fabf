use Rattle.std.proofs.Common.{◌≡◌, take, arith}
use Rattle.time_readers.specs.IsoPieces.{leading_digits}
use Rattle.time_readers.proofs.IsoPieces.{leading-are, number-none, number-plain, number-no_digit, number-fraction}
use Rattle.time_readers.proofs.iso8601.grammar.pieces.float.Goals as goal
use Rattle.time_readers.proofs.iso8601.grammar.pieces.float.Goals.{After-leading_digits-count}

leads : (c : After-leading_digits-count) → leading_digits c.in-Some.after.now ≡ take c.leading_digits-count.result c.in-Some.after.now
leads c =
    let is = c.leading_digits-count.ensures in leading-are c.leading_digits-count.result c.in-Some.after.now is.in_range is.digits is.all

pub returns-in_err-whole-clause-is : goal.returns-in_err-whole-clause-is
returns-in_err-whole-clause-is c = rw c.from_residual.ensures (number-none c.args.input.now c.in_err-whole.ensures)

pub returns-in_default-clause-is : goal.returns-in_default-clause-is
returns-in_default-clause-is c =
    number-plain c.args.input.now c.in_ok-whole.whole.0.now c.in_ok-whole.whole.1 c.in_ok-whole.ensures c.in_default.ensures

pub returns-then-count-eq0-clause-is : goal.returns-then-count-eq0-clause-is
returns-then-count-eq0-clause-is c =
    let at = (goal.at.returns-then-count-eq0-clause-is c).After-leading_digits-count in
    number-no_digit c.args.input.now c.in_ok-whole.whole.0.now c.in-Some.after.now c.in_ok-whole.whole.1 c.leading_digits-count.result
    c.in_ok-whole.ensures c.in-Some.ensures (leads at) c.if-count-eq0.true

pub returns-clause-is : goal.returns-clause-is
returns-clause-is c =
    let at = (goal.at.returns-clause-is c).After-leading_digits-count in
    let is = c.leading_digits-count.ensures in
    number-fraction c.args.input.now c.in_ok-whole.whole.0.now c.in-Some.after.now c.in_ok-whole.whole.1 c.leading_digits-count.result
    c.in_ok-whole.ensures c.in-Some.ensures (leads at) (omega arith) is.in_range
