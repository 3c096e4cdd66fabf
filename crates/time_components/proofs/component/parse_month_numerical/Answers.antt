use Rattle.std.proofs.Common.{sym, ◌∙◌, arith}
use Rattle.time_values.specs.Names.{month_number}
use Rattle.time_components.specs.Spelling.{month}
use Rattle.time_components.proofs.OneSpelling.{no_number, month_number-positive, month_refused}
use Rattle.time_components.proofs.component.parse_month_numerical.Goals as goal

pub returns-in_err-new : goal.returns-in_err-new
returns-in_err-new c = rw c.from_residual-in_err-new.ensures
    (no_number month month_number c.args.modifiers.padding c.args.input.now c.in_ok-number.number.0.now c.in_ok-number.number.1
    (λ m e. let none = c.in_err-new.ensures in let some = month_number-positive m in omega arith) c.in_ok-number.ensures)

pub returns-in-Err : goal.returns-in-Err
returns-in-Err c = no_number month month_number c.args.modifiers.padding c.args.input.now c.in_ok-number.number.0.now
    c.in_ok-number.number.1
    (λ m e. month_refused _ c.in_ok-new.field-0.value _ c.in-Err.ensures m (e ∙ sym c.in_ok-new.ensures))
    c.in_ok-number.ensures
