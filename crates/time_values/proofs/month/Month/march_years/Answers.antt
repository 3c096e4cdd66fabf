use Rattle.std.proofs.Common.{arith}
use Rattle.std.proofs.lemmas.Int.{ints}
use Rattle.time_values.proofs.NumberLemmas.{march_years_at, march_year_in}
use Rattle.time_values.proofs.month.Month.march_years.Goals as goal

pub returns-clause-bound : goal.returns-clause-bound
returns-clause-bound c =
    let m = c.number.result in
    omega (arith, ints, march_years_at m c.number.ensures.low c.number.ensures.high, march_year_in m)
