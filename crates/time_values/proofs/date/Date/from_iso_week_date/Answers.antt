use Rattle.std.proofs.Common.{◌+◌, ◌-◌, ◌*◌, inl, inr, arith, rules, FitsSigned, w32}
use Rattle.std.proofs.lemmas.Int.{ints, to_z-of_z}
use Rattle.time_values.specs.Calendar.{year_start, year_length, IsYear, greatest_year}
use Rattle.time_values.specs.Names.{days_from_monday}
use Rattle.time_values.specs.Dates.{day_number}
use Rattle.time_values.proofs.YearLemmas.{year_length-leap_day, thursdays_from_first, iso_day_at, has_iso_week}
use Rattle.time_values.proofs.date.Date.from_iso_week_date.Goals as goal
use Rattle.time_values.proofs.date.Date.from_iso_week_date.Goals.{After-first_thursday-thursday, then-week-eq0-via-then-week-eq0}
use Rattle.time_values.proofs.date.Date.from_iso_week_date.Goals.{then-week-eq0-via-else-week-eq0+then-week-year_length}

pub returns-then-week-eq0 : goal.returns-then-week-eq0
returns-then-week-eq0 c =
    let y = c.args.year in
    let fits : FitsSigned w32 y = search rules in
    let year : IsYear greatest_year y = omega (arith, ints) in
    let first = simp to_z-of_z at c.first_thursday-thursday.ensures.value in
    let long = year_length-leap_day y in
    let count = thursdays_from_first (year_start greatest_year y) (year_length y) c.first_thursday-thursday.result
    first c.first_thursday-thursday.ensures.bound (omega arith) in
    inr (inl (
      year,
      (λ h. elim c.then-week-eq0.branch [
        | then-week-eq0-via-then-week-eq0 w ↦ omega arith
        | then-week-eq0-via-else-week-eq0+then-week-year_length w ↦ omega (arith, simp to_z-of_z at w.year_length.ensures)
      ]),
      search rules,
    ))

pub returns-in_default : goal.returns-in_default
returns-in_default c =
    let y = c.args.year in
    let fits : FitsSigned w32 y = search rules in
    let year : IsYear greatest_year y = omega (arith, ints) in
    let first = simp to_z-of_z at c.first_thursday-thursday.ensures.value in
    let length = simp to_z-of_z at c.year_length.ensures in
    let from = c.first_thursday-thursday.result in
    let past = simp to_z-of_z at c.in_default.ensures.none in
    let day = year_start greatest_year y + (from + 7 * (c.args.week - 1) + 4 + days_from_monday c.args.weekday) - 8 in
    inr (inr (
      has_iso_week greatest_year y from c.args.week year first c.first_thursday-thursday.ensures.bound (omega arith) (omega arith),
      (
        day,
        iso_day_at greatest_year y from c.args.week (days_from_monday c.args.weekday) day year first
            c.first_thursday-thursday.ensures.bound (omega arith) (omega arith) (omega arith) (omega arith),
        omega arith,
      ),
      search rules,
    ))

pub returns : goal.returns
returns c =
    let y = c.args.year in
    let d = c.at_ordinal.result in
    let fits : FitsSigned w32 y = search rules in
    let fits_found : FitsSigned w32 c.in-Some.year = omega (arith, ints, c.in-Some.ensures.year) in
    let year : IsYear greatest_year y = omega (arith, ints) in
    let first = simp to_z-of_z at c.first_thursday-thursday.ensures.value in
    let length = simp to_z-of_z at c.year_length.ensures in
    let from = c.first_thursday-thursday.result in
    let found = simp to_z-of_z at c.at_ordinal.ensures.year in
    let value = rw (← found) at (simp to_z-of_z at c.in-Some.ensures.value) in
    let place = c.in-Some.ensures.place in (
      has_iso_week greatest_year y from c.args.week year first c.first_thursday-thursday.ensures.bound (omega arith) (omega arith),
      iso_day_at greatest_year y from c.args.week (days_from_monday c.args.weekday) (day_number greatest_year d) year first
          c.first_thursday-thursday.ensures.bound (omega arith) (omega arith) (omega arith) (omega arith),
      d.year_in,
    )
