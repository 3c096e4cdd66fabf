use Rattle.std.proofs.Common.{◌≡◌, ◌<◌, ◌^◌, pos, to_z, w32, refl, ap, inr, arith}
use Rattle.std.proofs.lemmas.Bool.{le-leb}
use Rattle.std.proofs.lemmas.Int.{ints}
use Rattle.time_digits.specs.declared.Sign.TheVariants.{Positive}
use Rattle.time_components.specs.Spelling.{signed}
use Rattle.time_digits.proofs.Runs.{full_run, IsDigitRun-below}
use Rattle.time_preparing.proofs.forms.fast.year.Goals as goal

pub overflow_cast-result : goal.overflow_cast-result
overflow_cast-result c =
    let year = c.in_ok-year.ensures in
    let below = IsDigitRun-below 4 4 year.0 c.in_ok-year.year.0.now c.in_ok-year.year.1 year.2 in
    omega (arith, ints)

pub returns-clause-cut : goal.returns-clause-cut
returns-clause-cut c =
    let year = c.in_ok-year.ensures in
    let value = c.in_ok-year.year.1 in
    let below : value < 10 ^ 4 = IsDigitRun-below 4 4 year.0 c.in_ok-year.year.0.now value year.2 in
    let same : to_z w32 value ≡ pos value = omega (arith, ints) in
    let run = full_run c.args.modifiers.padding 4 4 year.0 c.in_ok-year.year.0.now value (omega arith) refl year.2 in
    (year.0, year.1, ((Positive, value), ap signed same, inr (c.if-modifiers.false, refl, run)))

pub returns-clause-standard : goal.returns-clause-standard
returns-clause-standard c =
    let year = c.in_ok-year.ensures in
    let value = c.in_ok-year.year.1 in
    let below : value < 10 ^ 4 = IsDigitRun-below 4 4 year.0 c.in_ok-year.year.0.now value year.2 in
    let same : to_z w32 value ≡ pos value = omega (arith, ints) in
    let run = full_run c.args.modifiers.padding 4 4 year.0 c.in_ok-year.year.0.now value (omega arith) refl year.2 in
    (year.0, year.1, ((Positive, value), ap signed same, inr (c.if-modifiers.false, refl, run)))

pub returns-clause-fits : goal.returns-clause-fits
returns-clause-fits c =
    let year = c.in_ok-year.ensures in
    let value = c.in_ok-year.year.1 in
    let below : value < 10 ^ 4 = IsDigitRun-below 4 4 year.0 c.in_ok-year.year.0.now value year.2 in
    let same : to_z w32 value ≡ pos value = omega (arith, ints) in
    rw same (omega (arith, ints))

pub returns-clause-within : goal.returns-clause-within
returns-clause-within c =
    let year = c.in_ok-year.ensures in
    let value = c.in_ok-year.year.1 in
    let below : value < 10 ^ 4 = IsDigitRun-below 4 4 year.0 c.in_ok-year.year.0.now value year.2 in
    let same : to_z w32 value ≡ pos value = omega (arith, ints) in
    rw same (le-leb value 999999 (omega arith))
