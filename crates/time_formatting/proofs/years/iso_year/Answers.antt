use Rattle.std.proofs.Common.{◌∙◌, ap, arith, w32}
use Rattle.std.proofs.lemmas.Int.{ints, to_z-of_z}
use Rattle.time_values.specs.Calendar.{greatest_year}
use Rattle.time_formatting.specs.Numbers.{iso_year}
use Rattle.time_formatting.proofs.Spelled.{iso_year_is}
use Rattle.time_formatting.proofs.years.iso_year.Goals as goal

pub returns-clause-value : goal.returns-clause-value
returns-clause-value c =
    let year = c.to_iso_week_date-year.result.0 in
    let week = c.to_iso_week_date-year.ensures.week in
    to_z-of_z w32 year (omega (arith, ints, week.0)) ∙ iso_year_is c.date.result year _ week ∙ ap (iso_year greatest_year) c.date.ensures
