use Rattle.std.proofs.Common.{Some, refl, arith}
use Rattle.time_values.specs.Calendar.{greatest_year}
use Rattle.time_components.specs.Spelling.{month, number}
use Rattle.time_components.specs.declared.format_description.Component.TheVariants.{MonthShort, Day}
use Rattle.time_record.specs.Record.{Record}
use Rattle.time_preparing.specs.declared.forms.TheConstants.{MONTH_NAME, SPACED_DAY}
use Rattle.time_preparing.proofs.Parts.{two_read, put_day}
use Rattle.time_preparing.proofs.whole.fast.in_year.month_and_day.Goals as goal

pub returns : goal.returns
returns c = λ r.
    let p : Record = record r { month = Some c.in_ok-month.month.1 } in
    two_read c.args.between (MonthShort MONTH_NAME) (Day SPACED_DAY) _ _ _ _
    (month c.in_ok-month.month.1) (number c.in_ok-day.day.1.value) r p (record p { day = Some c.in_ok-day.day.1.value })
    c.in_ok-month.ensures c.in_ok-after.ensures c.in_ok-day.ensures refl
    (put_day SPACED_DAY _ _ _ p c.in_ok-day.ensures (omega arith))
