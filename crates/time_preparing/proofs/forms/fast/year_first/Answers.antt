use Rattle.std.proofs.Common.{Some, refl, arith}
use Rattle.std.specs.Int.{w32}
use Rattle.std.proofs.lemmas.Int.{to_z-of_z}
use Rattle.time_values.specs.Calendar.{greatest_year}
use Rattle.time_components.specs.Spelling.{signed, month, number}
use Rattle.time_components.specs.declared.format_description.Component.TheVariants.{CalendarYearFullExtendedRange, CalendarYearFullStandardRange, MonthNumerical, Day}
use Rattle.time_record.specs.Record.{Record}
use Rattle.time_preparing.specs.declared.forms.TheConstants.{YEAR, STANDARD_YEAR, MONTH, DAY}
use Rattle.time_preparing.proofs.Parts.{three_read, put_year, put_standard_year, put_day}
use Rattle.time_preparing.proofs.forms.fast.year_first.Goals as goal

pub returns-clause-extended : goal.returns-clause-extended
returns-clause-extended c = λ r.
    let p : Record = record r { year = Some c.in_ok-year.year.1 } in
    let q : Record = record p { month = Some c.in_ok-month.month.1 } in
    rw (to_z-of_z w32 c.in_ok-year.year.1 c.in_ok-year.ensures.fits) (three_read c.args.between
    (CalendarYearFullExtendedRange YEAR) (MonthNumerical MONTH) (Day DAY) _ _ _ _ _ _
    (signed c.in_ok-year.year.1) (month c.in_ok-month.month.1) (number c.in_ok-day.day.1.value) r p q (record q { day = Some c.in_ok-day.day.1.value })
    c.in_ok-year.ensures.cut c.in_ok-after.ensures c.in_ok-month.ensures c.in_ok-after-2.ensures c.in_ok-day.ensures
    (put_year c.in_ok-year.year.1 r c.in_ok-year.ensures.within) refl
    (put_day DAY _ _ _ q c.in_ok-day.ensures (omega arith)))

pub returns-clause-standard : goal.returns-clause-standard
returns-clause-standard c = λ r.
    let p : Record = record r { year = Some c.in_ok-year.year.1 } in
    let q : Record = record p { month = Some c.in_ok-month.month.1 } in
    rw (to_z-of_z w32 c.in_ok-year.year.1 c.in_ok-year.ensures.fits) (three_read c.args.between
    (CalendarYearFullStandardRange STANDARD_YEAR) (MonthNumerical MONTH) (Day DAY) _ _ _ _ _ _
    (signed c.in_ok-year.year.1) (month c.in_ok-month.month.1) (number c.in_ok-day.day.1.value) r p q (record q { day = Some c.in_ok-day.day.1.value })
    c.in_ok-year.ensures.standard c.in_ok-after.ensures c.in_ok-month.ensures c.in_ok-after-2.ensures c.in_ok-day.ensures
    (put_standard_year c.in_ok-year.year.1 r c.in_ok-year.ensures.within) refl
    (put_day DAY _ _ _ q c.in_ok-day.ensures (omega arith)))
