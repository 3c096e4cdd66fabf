use Rattle.std.proofs.Common.{◌≡◌, ◌<◌, ◌^◌, pos, to_z, w32, refl, ap, inr, arith}
use Rattle.std.proofs.lemmas.Int.{ints}
use Rattle.time_digits.specs.declared.Sign.TheVariants.{Positive}
use Rattle.time_components.specs.Spelling.{signed}
use Rattle.time_digits.proofs.Runs.{full_run, IsDigitRun-below}
use Rattle.time_components.proofs.component.fast.year.Goals as goal

pub overflow_cast-result : goal.overflow_cast-result
overflow_cast-result g c =
    let year = c.in_ok-year.ensures in
    let below = IsDigitRun-below 4 4 year.0 c.in_ok-year.year.0.now c.in_ok-year.year.1 year.2 in
    omega (arith, ints)

pub returns : goal.returns
returns g c =
    let year = c.in_ok-year.ensures in
    let value = c.in_ok-year.year.1 in
    let below : value < 10 ^ 4 = IsDigitRun-below 4 4 year.0 c.in_ok-year.year.0.now value year.2 in
    let same : to_z w32 value ≡ pos value = omega (arith, ints) in
    let run = full_run c.args.padding 4 4 year.0 c.in_ok-year.year.0.now value (omega arith) refl year.2 in
    (year.0, year.1, ((Positive, value), ap signed same, inr (c.if-sign_is_mandatory.false, refl, run)))
