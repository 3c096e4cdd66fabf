use Rattle.std.proofs.Common.{◌+◌, ◌*◌, ◌≤◌, arith, refl, w32, to_z, of_z, pos, ◌-ℤ◌}
use Rattle.std.proofs.lemmas.Int.{ints}
use Rattle.time_values.specs.Calendar.{greatest_year}
use Rattle.time_values.proofs.YearLemmas.{days_of_years_closed, year_start_at, years_within}
use Rattle.time_values.proofs.days.year_and_place.Goals as goal

pub split_years-years-requires : goal.split_years-years-requires
split_years-years-requires c = omega (arith, days_of_years_closed greatest_year (2 * greatest_year + 1) refl)

pub returns-clause-value : goal.returns-clause-value
returns-clause-value c =
    let n = c.split_years-years.result.0 in
    let y = to_z w32 (of_z w32 (to_z w32 n -ℤ pos greatest_year)) in
    let high : n ≤ 2 * greatest_year = years_within greatest_year n c.args.day refl (omega arith) c.requires in
    omega (arith, year_start_at greatest_year n y (omega (arith, ints)), days_of_years_closed greatest_year n refl)

pub returns-clause-year : goal.returns-clause-year
returns-clause-year c =
    let n = c.split_years-years.result.0 in
    let high : n ≤ 2 * greatest_year = years_within greatest_year n c.args.day refl (omega arith) c.requires in
    omega (arith, ints)
