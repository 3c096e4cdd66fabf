use Rattle.time_components.proofs.OneSpelling.{no_positive}
use Rattle.time_components.proofs.component.numbers.ordinal.Goals as goal

pub returns-in_err-new : goal.returns-in_err-new
returns-in_err-new c = rw c.from_residual-in_err-new.ensures
    (no_positive c.args.padding 3 c.args.input.now c.in_ok-ordinal.ordinal.0.now c.in_ok-ordinal.ordinal.1 c.in_err-new.ensures
    c.in_ok-ordinal.ensures)
