use Rattle.std.proofs.Common.{ℕ, ◌+◌, ◌*◌, arith, sym, subst}
use Rattle.time_digits.specs.Digits.{Cut, IsDigitRun}
use Rattle.time_digits.proofs.Fractions.{nine_cut}
use Rattle.time_digits.proofs.Runs.{IsDigitRun-below}
use Rattle.time_digits.proofs.Words.{eight_none, ninth_none}
use Rattle.time_digits.proofs.combinator.words.nine_digits.Goals as goal

pub overflow_mul-result : goal.overflow_mul-result
overflow_mul-result c =
    let eight = c.in_ok-eight.ensures in
    let below = IsDigitRun-below 8 8 eight.0 c.in_ok-eight.eight.0.now c.in_ok-eight.eight.1 eight.2 in
    omega arith

pub overflow_add-result : goal.overflow_add-result
overflow_add-result c =
    let eight = c.in_ok-eight.ensures in
    let below = IsDigitRun-below 8 8 eight.0 c.in_ok-eight.eight.0.now c.in_ok-eight.eight.1 eight.2 in
    omega (arith, c.in_ok-ninth.ensures.2.1, c.from.ensures)

pub returns : goal.returns
returns c =
    let s = c.args.input.now in
    let eight = c.in_ok-eight in
    let ninth = c.in_ok-ninth in
    subst (λ (d : ℕ). Cut (IsDigitRun 9 9) s ninth.ninth.0.now (10 * eight.eight.1 + d)) (sym c.from.ensures)
    (nine_cut s eight.eight.0.now ninth.ninth.0.now eight.eight.1 ninth.ninth.1 eight.ensures ninth.ensures)

pub returns-in_err-eight : goal.returns-in_err-eight
returns-in_err-eight c = rw c.from_residual.ensures (eight_none c.args.input.now c.in_err-eight.ensures)

pub returns-in_err-ninth : goal.returns-in_err-ninth
returns-in_err-ninth c =
    rw c.from_residual-in_err-ninth.ensures
    (ninth_none c.args.input.now c.in_ok-eight.eight.0.now c.in_ok-eight.eight.1 c.in_ok-eight.ensures c.in_err-ninth.ensures)
