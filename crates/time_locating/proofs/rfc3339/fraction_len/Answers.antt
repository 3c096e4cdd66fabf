use Rattle.std.proofs.Common.{◌≡◌, ℕ, ◌-◌, ◌⊎◌, List, ◌∷◌, length, get_or, take, drop, ap, sym, ◌∙◌, subst, inl, inr, arith}
use Rattle.std.proofs.lemmas.List.{drop_all}
use Rattle.time_digits.specs.Digits.{NoDigitFirst}
use Rattle.time_digits.proofs.WordBytes.{first_byte}
use Rattle.time_locating.proofs.Rfc3339Places.{fraction_len-point}
use Rattle.time_locating.proofs.rfc3339.fraction_len.Goals as goal

ends : (k : ℕ) (digits : List ℕ) → (k ≡ length digits) ⊎ NoDigitFirst (drop k digits) → NoDigitFirst (drop k digits)
ends k digits (inl all) = subst NoDigitFirst (sym (drop_all k digits (omega arith))) tt
ends k digits (inr none) = none

pub returns-in-46-clause-is : goal.returns-in-46-clause-is
returns-in-46-clause-is c =
    let bytes = c.args.input.now in
    let digits = take (length bytes - 1) (drop 1 bytes) in
    let point : get_or bytes 0 0 ≡ 46 = omega arith in
    let is : bytes ≡ 46 ∷ digits = first_byte bytes c.in-46.len_at_least ∙ ap (λ b. b ∷ digits) point in
    fraction_len-point bytes digits c.leading_digits.result is c.leading_digits.ensures.in_range c.leading_digits.ensures.digits
    (ends c.leading_digits.result digits c.leading_digits.ensures.all)
