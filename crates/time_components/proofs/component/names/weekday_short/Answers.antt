use Rattle.time_values.specs.Names.{weekday_name}
use Rattle.time_components.specs.Spelling.{weekday}
use Rattle.time_components.proofs.NameLemmas.{weekdays_titled, no_letters, no_short, is_short}
use Rattle.time_components.proofs.component.names.weekday_short.Goals as goal

pub returns-in_err-letters : goal.returns-in_err-letters
returns-in_err-letters c = rw c.from_residual.ensures
    (no_letters weekday weekday_name weekdays_titled c.args.case_sensitive c.args.input.now c.in_err-letters.ensures)

pub returns-in_err-weekday : goal.returns-in_err-weekday
returns-in_err-weekday c = rw c.from_residual-in_err-weekday.ensures
    (no_short weekday weekday_name weekdays_titled c.args.case_sensitive c.args.input.now c.in_ok-letters.letters.0.now c.in_ok-letters.letters.1
    c.in_ok-letters.ensures c.in_err-weekday.ensures)

pub returns : goal.returns
returns c = is_short weekday weekday_name weekdays_titled c.args.case_sensitive c.args.input.now c.in_ok-letters.letters.0.now
    c.in_ok-letters.letters.1 c.in_ok-weekday.weekday c.in_ok-letters.ensures c.in_ok-weekday.ensures
