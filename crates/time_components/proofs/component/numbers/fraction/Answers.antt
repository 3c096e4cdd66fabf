use Rattle.std.proofs.Common.{◌≡◌, ◌-◌, ◌*◌, ◌^◌, length, refl, ap, sym, ◌∙◌, arith}
use Rattle.std.proofs.lemmas.List.{take_all}
use Rattle.time_digits.specs.Digits.{IsDigitRun, digits_value, fraction_nanoseconds}
use Rattle.time_digits.proofs.Runs.{IsDigitRun-below}
use Rattle.time_digits.proofs.Fractions.{nanoseconds_below}
use Rattle.time_components.proofs.component.numbers.fraction.Goals as goal

pub overflow_mul-result : goal.overflow_mul-result
overflow_mul-result g c =
    let n = c.in_ok-digits.digits.1 in
    let found = c.in_ok-digits.ensures in
    let below = IsDigitRun-below g.row.N g.row.N found.0 c.in_ok-digits.digits.0.now n found.2 in
    let fits = nanoseconds_below g.row.N n c.requires.most below in
    let power : c.power_of_ten.result ≡ 10 ^ (9 - g.row.N) = c.power_of_ten.ensures ∙ ap (λ n. 10 ^ (9 - n)) c.from.ensures in
    let product : n * c.power_of_ten.result ≡ n * 10 ^ (9 - g.row.N) = ap (λ p. n * p) power in
    omega arith

pub returns-in_err-digits : goal.returns-in_err-digits
returns-in_err-digits g c =
    rw c.from_residual.ensures (λ text rest v is found. c.in_err-digits.ensures text rest (digits_value text) is found.2.0)

pub returns : goal.returns
returns g c =
    let n = c.in_ok-digits.digits.1 in
    let found = c.in_ok-digits.ensures in
    let run = found.2 in
    let count : length found.0 ≡ g.row.N = omega (arith, run.enough, run.within) in
    let power : c.power_of_ten.result ≡ 10 ^ (9 - length found.0) =
    c.power_of_ten.ensures ∙ ap (λ n. 10 ^ (9 - n)) (c.from.ensures ∙ sym count) in
    let value : n * c.power_of_ten.result ≡ fraction_nanoseconds found.0 =
    rw (take_all 9 found.0 (omega arith)) (ap (λ p. n * p) power ∙ ap (λ v. v * 10 ^ (9 - length found.0)) run.is) in
    let same : IsDigitRun g.row.N g.row.N found.0 c.in_ok-digits.digits.0.now (digits_value found.0) =
    record { digits = run.digits; enough = run.enough; within = run.within; ends = run.ends; is = refl } in
    (found.0, found.1, (n * c.power_of_ten.result, refl, (same, value)))
