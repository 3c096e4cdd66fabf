use Rattle.std.proofs.Common.{take}
use Rattle.time_digits.specs.Digits.{digits_value}
use Rattle.time_digits.proofs.Runs.{leading_run, IsDigitRun-short, IsDigitRun-great}
use Rattle.time_digits.proofs.combinator.grammar.digit_run.Goals as goal

pub returns-then-count-least : goal.returns-then-count-least
returns-then-count-least g c =
    let s = c.args.input.now in
    let count = c.leading_digits-count.result in
    let read = c.leading_digits-count.ensures in
    let found = leading_run s count c.args.most read.in_range read.within read.digits read.all in
    IsDigitRun-short c.args.least c.args.most g.T.Integer.greatest count (digits_value (take count s)) s found c.if-count-least.true

pub returns-in_err-value : goal.returns-in_err-value
returns-in_err-value g c =
    let s = c.args.input.now in
    let count = c.leading_digits-count.result in
    let read = c.leading_digits-count.ensures in
    let found = leading_run s count c.args.most read.in_range read.within read.digits read.all in
    rw c.from_residual.ensures
    (IsDigitRun-great c.args.least c.args.most g.T.Integer.greatest count (digits_value (take count s)) s found c.in_err-value.ensures)
