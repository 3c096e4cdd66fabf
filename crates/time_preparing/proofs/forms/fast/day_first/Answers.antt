use Rattle.std.proofs.Common.{Some, refl, arith}
use Rattle.std.specs.Int.{w32}
use Rattle.std.proofs.lemmas.Int.{to_z-of_z}
use Rattle.time_values.specs.Calendar.{greatest_year}
use Rattle.time_components.specs.Spelling.{signed, month, number}
use Rattle.time_components.specs.declared.format_description.Component.TheVariants.{CalendarYearFullExtendedRange, MonthShort, Day}
use Rattle.time_record.specs.Record.{Record}
use Rattle.time_preparing.specs.declared.forms.TheConstants.{YEAR, MONTH_NAME, DAY}
use Rattle.time_preparing.proofs.Parts.{three_read, put_year, put_day}
use Rattle.time_preparing.proofs.forms.fast.day_first.Goals as goal

pub returns : goal.returns
returns c = λ r.
    let p : Record = record r { day = Some c.in_ok-day.day.1.value } in
    let q : Record = record p { month = Some c.in_ok-month.month.1 } in
    rw (to_z-of_z w32 c.in_ok-year.year.1 c.in_ok-year.ensures.fits) (three_read c.args.between
    (Day DAY) (MonthShort MONTH_NAME) (CalendarYearFullExtendedRange YEAR) _ _ _ _ _ _
    (number c.in_ok-day.day.1.value) (month c.in_ok-month.month.1) (signed c.in_ok-year.year.1) r p q (record q { year = Some c.in_ok-year.year.1 })
    c.in_ok-day.ensures c.in_ok-after.ensures c.in_ok-month.ensures c.in_ok-after-2.ensures c.in_ok-year.ensures.cut
    (put_day DAY _ _ _ r c.in_ok-day.ensures (omega arith)) refl
    (put_year c.in_ok-year.year.1 q c.in_ok-year.ensures.within))
