use Rattle.time_values.specs.Names.{weekday_name}
use Rattle.time_components.specs.Spelling.{weekday}
use Rattle.time_components.proofs.NameLemmas.{weekdays_titled, no_long, no_ending, is_long}
use Rattle.time_components.proofs.component.parse_weekday_long.Goals as goal

pub returns-in_err-short : goal.returns-in_err-short
returns-in_err-short c = rw c.from_residual.ensures
    (no_long weekday weekday_name c.args.modifiers.case_sensitive c.args.input.now c.in_err-short.ensures)

pub returns-in_err-ending : goal.returns-in_err-ending
returns-in_err-ending c = rw c.from_residual-in_err-ending.ensures
    (no_ending weekday weekday_name weekdays_titled c.args.modifiers.case_sensitive c.args.input.now c.in_ok-short.short.0.now _ _ c.weekday_ending.ensures
    c.in_ok-short.ensures c.in_err-ending.ensures)

pub returns : goal.returns
returns c = is_long weekday weekday_name weekdays_titled c.args.modifiers.case_sensitive c.args.input.now c.in_ok-short.short.0.now c.in_ok-ending.ending.0.now
    _ _ c.weekday_ending.ensures c.in_ok-short.ensures c.in_ok-ending.ensures
