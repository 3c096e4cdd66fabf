use Rattle.std.proofs.Common.{false}
use Rattle.time_values.specs.Calendar.{greatest_year}
use Rattle.time_components.specs.Spelling.{number}
use Rattle.time_components.specs.declared.format_description.Component.TheVariants.{Day, Hour24, Minute, MonthNumerical, Second}
use Rattle.time_record.proofs.ComponentLemmas.{spelled}
use Rattle.pelzaune_ffi.proofs.stored.fast.read_common.Goals as goal

pub returns-in_ok-set_hour_24-in-Hour24 : goal.returns-in_ok-set_hour_24-in-Hour24
returns-in_ok-set_hour_24-in-Hour24 c =
    rw c.in-Hour24.is (spelled greatest_year false (Hour24 c.in-Hour24.modifiers)
    c.args.input.now c.args.parsed.now _ (number c.in_ok-found-in-Hour24.found.1) c.set_hour_24.new.self _
    c.in_ok-found-in-Hour24.ensures c.in_ok-set_hour_24-in-Hour24.ensures)

pub returns-in_ok-set_minute-in-Minute : goal.returns-in_ok-set_minute-in-Minute
returns-in_ok-set_minute-in-Minute c =
    rw c.in-Minute.is (spelled greatest_year false (Minute c.in-Minute.modifiers)
    c.args.input.now c.args.parsed.now _ (number c.in_ok-found-in-Minute.found.1) c.set_minute.new.self _
    c.in_ok-found-in-Minute.ensures c.in_ok-set_minute-in-Minute.ensures)

pub returns-in_ok-set_second-in-Second : goal.returns-in_ok-set_second-in-Second
returns-in_ok-set_second-in-Second c =
    rw c.in-Second.is (spelled greatest_year false (Second c.in-Second.modifiers)
    c.args.input.now c.args.parsed.now _ (number c.in_ok-found-in-Second.found.1) c.set_second.new.self _
    c.in_ok-found-in-Second.ensures c.in_ok-set_second-in-Second.ensures)

pub returns-in_ok-set_month-in-MonthNumerical : goal.returns-in_ok-set_month-in-MonthNumerical
returns-in_ok-set_month-in-MonthNumerical c =
    rw c.in-MonthNumerical.is (spelled greatest_year false (MonthNumerical c.in-MonthNumerical.modifiers)
    c.args.input.now c.args.parsed.now _ _ c.set_month.new.self _
    c.in_ok-found-in-MonthNumerical.ensures c.in_ok-set_month-in-MonthNumerical.ensures)

pub returns-in_ok-set_day-in-Day : goal.returns-in_ok-set_day-in-Day
returns-in_ok-set_day-in-Day c =
    rw c.in-Day.is (spelled greatest_year false (Day c.in-Day.modifiers)
    c.args.input.now c.args.parsed.now _ _ c.set_day.new.self _
    c.in_ok-found-in-Day.ensures c.in_ok-set_day-in-Day.ensures)
