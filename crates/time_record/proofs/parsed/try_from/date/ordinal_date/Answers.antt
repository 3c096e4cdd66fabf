use Rattle.std.proofs.Common.{Ok, Err, w32, FitsSigned}
use Rattle.std.proofs.lemmas.Int.{to_z-of_z}
use Rattle.std.proofs.lemmas.Result.{err_from_is_err_and}
use Rattle.std.specs.Int.NonZero.{non_zero_u16_get}
use Rattle.time_values.specs.Calendar.{greatest_year}
use Rattle.time_record.proofs.ComponentLemmas.{IsRowDate-ordinal}
use Rattle.time_record.proofs.parsed.try_from.date.ordinal_date.Goals as goal

pub returns : goal.returns
returns c =
    let fits : FitsSigned w32 c.args.year = c.ranges.year in
    let made = simp (to_z-of_z, c.get.ensures.value) at c.in_ok-from_ordinal_date.ensures in
    IsRowDate-ordinal greatest_year c.args.year (non_zero_u16_get c.args.ordinal) (Ok c.in_ok-from_ordinal_date.field-0) c.requires made

pub returns-in_err-from_ordinal_date : goal.returns-in_err-from_ordinal_date
returns-in_err-from_ordinal_date c =
    let fits : FitsSigned w32 c.args.year = c.ranges.year in
    let p = err_from_is_err_and c.from_residual.result c.from_residual.ensures.1 in
    let refused = simp (to_z-of_z, c.get.ensures.value) at c.in_err-from_ordinal_date.ensures in
    rw (p.1, p.2) (IsRowDate-ordinal greatest_year c.args.year (non_zero_u16_get c.args.ordinal) (Err c.in_err-from_ordinal_date.field-0.0) c.requires refused)
