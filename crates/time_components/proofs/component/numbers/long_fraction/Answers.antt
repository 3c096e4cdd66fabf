use Rattle.std.proofs.Common.{◌≡◌, ℕ, ◌+◌, ◌-◌, ◌*◌, ◌^◌, ◌≤◌, ◌⊎◌, List, ◌++◌, length, take, drop, refl, ap, sym, ◌∙◌, inl, inr, arith, subst, append_assoc, length-append}
use Rattle.std.proofs.lemmas.List.{length-take-le, take-append-drop}
use Rattle.time_digits.specs.Digits.{Cut, NoCut, AllDigits, digits_value, NoDigitFirst, IsDigitRun, IsDigitRunUpTo}
use Rattle.time_digits.proofs.WordBytes.{take-drop}
use Rattle.time_digits.proofs.Fractions.{read_more, no_digits, fraction_fits}
use Rattle.time_components.specs.Spelling.{HasMappedValue, number, IsFractionRun}
use Rattle.time_components.proofs.component.numbers.long_fraction.Goals as goal

-- ---- Fractions of a second of up to 32 digits

-- up to 32 digits
long_fraction_cut : (s rest : List ℕ) (value unit greatest k : ℕ) → Cut (IsDigitRunUpTo greatest 1 9) s rest value
    → unit ≡ 10 ^ (9 - (length s - length rest)) → k ≤ length rest → k ≤ 23 → AllDigits (take k rest)
    → (k ≡ 23) ⊎ NoDigitFirst (drop k rest)
    → Cut (HasMappedValue number (IsFractionRun 1 32)) s (take (length rest - k) (drop k rest)) (number (value * unit))
long_fraction_cut s rest value unit greatest k cut worth in_range within digits all =
    let text = cut.0 in
    let more = take k rest in
    let parts : rest ≡ more ++ drop k rest = sym (take-append-drop k rest) in
    let run = subst (λ t. IsDigitRun 1 9 text t value) parts cut.2.0 in
    let whole : s ≡ text ++ (more ++ drop k rest) = cut.1 ∙ ap (λ r. text ++ r) parts in
    let read = read_more s text more (drop k rest) value unit whole run digits (worth ∙ ap (λ m. 10 ^ (9 - (length s - length m))) parts) in
    let count : length more ≡ k = length-take-le k rest in_range in
    let long : length (text ++ more) ≡ length text + k = omega (arith, length-append text more) in
    let found : IsDigitRun 1 32 (text ++ more) (drop k rest) (digits_value (text ++ more)) = record {
      digits = read.digits;
      enough = omega (arith, run.enough);
      within = omega (arith, run.within);
      ends = elim all [
        | inl most ↦ elim read.ended [ inl nine ↦ inl (omega arith) | inr none ↦ absurd (omega arith) ]
        | inr none ↦ inr none
      ];
      is = refl;
    } in
    let left : take (length rest - k) (drop k rest) ≡ drop k rest = take-drop rest k in_range in
    (text ++ more, rw left (whole ∙ sym (append_assoc text more (drop k rest))), (value * unit, refl, (rw left found, read.is)))

long_fraction_none : (greatest : ℕ) (s : List ℕ) → 10 ^ 9 ≤ greatest + 1 → NoCut (IsDigitRunUpTo greatest 1 9) s
    → NoCut (HasMappedValue number (IsFractionRun 1 32)) s
long_fraction_none greatest s room none text rest v e found =
    let run = found.2.0 in
    no_digits greatest s text rest room none e run.digits run.enough (elim run.ends [ inl most ↦ inl (omega arith) | inr ends ↦ inr ends ])

pub returns-in_err-digits : goal.returns-in_err-digits
returns-in_err-digits c =
    rw c.from_residual.ensures (long_fraction_none 4294967295 c.args.input.now (omega arith) c.in_err-digits.ensures)

pub overflow_mul-result : goal.overflow_mul-result
overflow_mul-result c =
    let fits = fraction_fits c.args.input.now c.in_ok-digits.digits.0.now c.in_ok-digits.digits.1 c.power_of_ten.result 4294967295
    c.in_ok-digits.ensures c.power_of_ten.ensures in
    omega arith

pub returns : goal.returns
returns c =
    let digits = c.leading_digits-dropped.ensures in
    long_fraction_cut c.args.input.now c.in_ok-digits.digits.0.now c.in_ok-digits.digits.1 c.power_of_ten.result 4294967295
    c.leading_digits-dropped.result c.in_ok-digits.ensures c.power_of_ten.ensures digits.in_range digits.within digits.digits digits.all
