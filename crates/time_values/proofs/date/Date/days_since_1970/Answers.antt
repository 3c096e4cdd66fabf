use Rattle.std.proofs.Common.{◌+◌, refl, arith}
use Rattle.std.proofs.lemmas.Int.{ints}
use Rattle.time_values.specs.Calendar.{years_before, greatest_year}
use Rattle.time_values.specs.March.{march_days, march_year}
use Rattle.time_values.specs.Names.{month_number}
use Rattle.time_values.proofs.NumberLemmas.{days_by_march, march_days_in, month_number_in}
use Rattle.time_values.proofs.date.Date.days_since_1970.Goals as goal

pub returns-clause-value : goal.returns-clause-value
returns-clause-value c =
    let d = c.args.self.now in
    let years = years_before greatest_year d.year + march_year (month_number d.month) in
    let before = march_days (month_number d.month) in
    omega (arith, ints, days_by_march d years before refl refl, march_days_in (month_number d.month) (omega (arith, month_number_in d.month)))
