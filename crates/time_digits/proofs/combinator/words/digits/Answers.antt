use Rattle.std.specs.Int.{to_le_bytes, w64}
use Rattle.std.proofs.Common.{ℕ, ◌-◌, length, take, drop, ap, sym, ◌∙◌, subst, arith}
use Rattle.time_digits.specs.Digits.{Cut, AllDigits, digits_value, IsDigitRun}
use Rattle.time_digits.proofs.WordBytes.{take-drop}
use Rattle.time_digits.proofs.Fractions.{exact_cut}
use Rattle.time_digits.proofs.Words.{exact_none, enough_of, first_of}
use Rattle.time_digits.proofs.combinator.words.digits.Goals as goal

pub returns-in_err-value : goal.returns-in_err-value
returns-in_err-value g c =
    let s = c.args.input.now in
    let bytes = to_le_bytes w64 c.leading_word.result in
    rw c.from_residual.ensures
    (exact_none g.row.N s (λ enough digits.
    c.in_err-value.ensures (subst AllDigits (sym (first_of g.row.N s bytes c.requires.most c.leading_word.ensures enough)) digits)))

pub slice_bounds-result-count : goal.slice_bounds-result-count
slice_bounds-result-count g c =
    let s = c.args.input.now in
    let enough = enough_of g.row.N s (to_le_bytes w64 c.leading_word.result) c.requires.most c.leading_word.ensures c.in_ok-value.ensures.0 in
    omega (arith, c.from.ensures)

pub slice_bounds-result-start : goal.slice_bounds-result-start
slice_bounds-result-start g c =
    let s = c.args.input.now in
    let enough = enough_of g.row.N s (to_le_bytes w64 c.leading_word.result) c.requires.most c.leading_word.ensures c.in_ok-value.ensures.0 in
    omega (arith, c.from.ensures)

pub returns : goal.returns
returns g c =
    let s = c.args.input.now in
    let n = g.row.N in
    let bytes = to_le_bytes w64 c.leading_word.result in
    let found = c.in_ok-value.ensures in
    let enough = enough_of n s bytes c.requires.most c.leading_word.ensures found.0 in
    let first = first_of n s bytes c.requires.most c.leading_word.ensures enough in
    let cut = exact_cut n c.in_ok-value.value s enough (subst AllDigits first found.0) (found.1 ∙ ap digits_value first) in
    subst (λ (m : ℕ). Cut (IsDigitRun n n) s (take (length s - m) (drop m s)) c.in_ok-value.value) (sym c.from.ensures)
    (subst (λ r. Cut (IsDigitRun n n) s r c.in_ok-value.value) (sym (take-drop s n enough)) cut)
