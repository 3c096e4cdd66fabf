use Rattle.std.proofs.Common.{Ok, Err, w32, FitsSigned}
use Rattle.std.proofs.lemmas.Int.{to_z-of_z}
use Rattle.std.proofs.lemmas.Result.{err_from_is_err_and}
use Rattle.std.specs.Int.NonZero.{non_zero_u8_get}
use Rattle.time_values.specs.Calendar.{greatest_year}
use Rattle.time_record.proofs.ComponentLemmas.{IsRowDate-month_and_day}
use Rattle.time_record.proofs.parsed.try_from.date.calendar_date.Goals as goal

pub returns : goal.returns
returns c =
    let fits : FitsSigned w32 c.args.year = c.ranges.year in
    let made = simp (to_z-of_z, c.get.ensures.value) at c.in_ok-from_calendar_date.ensures in
    IsRowDate-month_and_day greatest_year c.args.year c.args.month (non_zero_u8_get c.args.day) (Ok c.in_ok-from_calendar_date.field-0) c.requires made

pub returns-in_err-from_calendar_date : goal.returns-in_err-from_calendar_date
returns-in_err-from_calendar_date c =
    let fits : FitsSigned w32 c.args.year = c.ranges.year in
    let p = err_from_is_err_and c.from_residual.result c.from_residual.ensures.1 in
    let refused = simp (to_z-of_z, c.get.ensures.value) at c.in_err-from_calendar_date.ensures in
    let error = Err c.in_err-from_calendar_date.field-0.0 in
    rw (p.1, p.2) (IsRowDate-month_and_day greatest_year c.args.year c.args.month (non_zero_u8_get c.args.day) error c.requires refused)
