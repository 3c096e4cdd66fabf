use Rattle.std.proofs.Common.{ℕ, arith, ◌*◌, ◌^◌, ◌<◌, ◌≤◌, mul-le-mul_right}
use Rattle.time_digits.specs.declared.Padding.TheVariants.{Zero}
use Rattle.time_digits.proofs.Runs.{pow-mono}
use Rattle.time_components.proofs.NumberLemmas.{signed_below}
use Rattle.time_components.proofs.component.numbers.timestamp.Goals as goal

pub returns-in_err-found : goal.returns-in_err-found
returns-in_err-found g c = rw c.from_residual.ensures (λ text rest value e s. c.in_err-found.ensures text rest s.0 e s.2)

below : (n m unit : ℕ) → n < 10 ^ m → 10 ^ m * unit ≤ 10 ^ 23 → n * unit ≤ 10 ^ 23
below n m unit h fits = let k : n * unit ≤ 10 ^ m * unit = mul-le-mul_right unit (omega arith) in omega arith

pub signed_nanoseconds-requires : goal.signed_nanoseconds-requires
signed_nanoseconds-requires g c =
    below c.in_ok-found.found.1.1 g.row.MOST c.args.unit
    (signed_below c.args.sign_is_mandatory Zero Zero 1 g.row.MOST 1 g.row.MOST g.row.MOST c.in_ok-found.ensures.0 c.in_ok-found.found.0.now
    (c.in_ok-found.found.1.0, c.in_ok-found.found.1.1) (omega arith) (omega arith) c.in_ok-found.ensures.2) c.requires.fits

pub overflow_mul-found : goal.overflow_mul-found
overflow_mul-found g c =
    let small = below c.in_ok-found.found.1.1 g.row.MOST c.args.unit
    (signed_below c.args.sign_is_mandatory Zero Zero 1 g.row.MOST 1 g.row.MOST g.row.MOST c.in_ok-found.ensures.0
    c.in_ok-found.found.0.now (c.in_ok-found.found.1.0, c.in_ok-found.found.1.1) (omega arith) (omega arith) c.in_ok-found.ensures.2)
    c.requires.fits in
    omega arith

pub sign_and_run-requires-clause-fits : goal.sign_and_run-requires-clause-fits
sign_and_run-requires-clause-fits g c = let most = pow-mono g.row.MOST 23 c.requires.most in omega arith

pub sign_and_run-requires-clause-fits_alone : goal.sign_and_run-requires-clause-fits_alone
sign_and_run-requires-clause-fits_alone g c = let most = pow-mono g.row.MOST 23 c.requires.most in omega arith
