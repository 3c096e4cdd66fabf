use Rattle.std.proofs.Common.{arith, rules, refl, FitsSigned, w32}
use Rattle.std.proofs.lemmas.Int.{ints, to_z-of_z}
use Rattle.time_values.specs.Dates.{day_number}
use Rattle.time_values.specs.Calendar.{greatest_year}
use Rattle.time_values.proofs.YearLemmas.{year_end, day_limit-weekday, iso_week_at}
use Rattle.time_values.proofs.date.Date.to_iso_week_date.Goals as goal

pub unreachable-requires : goal.unreachable-requires
unreachable-requires c =
    let d = c.args.self in
    let fits : FitsSigned w32 d.year = search rules in
    omega (arith, simp to_z-of_z at c.in_default.ensures.none, year_end greatest_year d.year refl d.year_in, day_limit-weekday greatest_year refl)

pub returns-clause-week : goal.returns-clause-week
returns-clause-week c =
    let d = c.args.self in
    let fits : FitsSigned w32 d.year = search rules in
    let fits_found : FitsSigned w32 c.in-Some.year = omega (arith, ints, c.in-Some.ensures.year) in
    let place = c.in-Some.ensures.place in
    simp to_z-of_z (iso_week_at greatest_year c.in-Some.year (day_number greatest_year d) c.in-Some.place _ c.in-Some.ensures.year
    (omega (arith, simp to_z-of_z at c.in-Some.ensures.value)) place.0 place.1 refl)
