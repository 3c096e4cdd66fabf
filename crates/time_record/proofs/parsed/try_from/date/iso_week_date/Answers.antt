use Rattle.std.proofs.Common.{Ok, Err, w32, FitsSigned}
use Rattle.std.proofs.lemmas.Int.{to_z-of_z}
use Rattle.std.proofs.lemmas.Result.{err_from_is_err_and}
use Rattle.std.specs.Int.NonZero.{non_zero_u8_get}
use Rattle.time_record.proofs.ComponentLemmas.{IsRowDate-iso_week}
use Rattle.time_record.proofs.parsed.try_from.date.iso_week_date.Goals as goal

pub returns : goal.returns
returns c =
    let fits : FitsSigned w32 c.args.year = c.ranges.year in
    let made = simp (to_z-of_z, c.get.ensures.value) at c.in_ok-from_iso_week_date.ensures in
    IsRowDate-iso_week c.args.year (non_zero_u8_get c.args.week) c.args.weekday (Ok c.in_ok-from_iso_week_date.field-0) c.requires made

pub returns-in_err-from_iso_week_date : goal.returns-in_err-from_iso_week_date
returns-in_err-from_iso_week_date c =
    let fits : FitsSigned w32 c.args.year = c.ranges.year in
    let p = err_from_is_err_and c.from_residual.result c.from_residual.ensures.1 in
    let refused = simp (to_z-of_z, c.get.ensures.value) at c.in_err-from_iso_week_date.ensures in
    rw (p.1, p.2) (IsRowDate-iso_week c.args.year (non_zero_u8_get c.args.week) c.args.weekday (Err c.in_err-from_iso_week_date.field-0.0) c.requires refused)
