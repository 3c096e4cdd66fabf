use Rattle.time_components.proofs.OneSpelling.{no_positive}
use Rattle.time_components.proofs.component.parse_day.Goals as goal

pub returns-in_err-new : goal.returns-in_err-new
returns-in_err-new c = rw c.from_residual-in_err-new.ensures
    (no_positive c.args.modifiers.padding 2 c.args.input.now c.in_ok-day.day.0.now c.in_ok-day.day.1 c.in_err-new.ensures
    c.in_ok-day.ensures)
