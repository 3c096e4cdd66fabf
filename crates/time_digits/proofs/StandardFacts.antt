-- Known texts and their values: with a wrong rule in the specs, these don't check.
use Rattle.std.proofs.Common.{◌≤◌, ◌<◌, ◌∷◌, refl, sym, ap, length, ℕ, List, [], ◌++◌, codes, inl, arith, rules, None}
use Rattle.time_digits.specs.declared.Padding.TheVariants as padding
use Rattle.time_digits.specs.Digits.{Cut, NoCut, IsDigit, digits_value, IsDigitRun, IsDigitRunUpTo, IsPaddedRun, IsPaddedRunUpTo, IsFraction}
use Rattle.time_digits.proofs.Runs.{IsDigitRun-unique, after_spaces}

-- bytes that don't begin with a digit
pub no_digit_first : (least most c : ℕ) (cs : List ℕ) → 1 ≤ least → ¬ IsDigit c → NoCut (IsDigitRun least most) (c ∷ cs)
no_digit_first least most c cs some other [] rest v e run = omega (arith, run.enough)
no_digit_first least most c cs some other (d ∷ ds) rest v e run = grind (arith, run.digits)

-- too few digits
pub too_few_digits : (least most : ℕ) (digits rest : List ℕ) → IsDigitRun 0 most digits rest (digits_value digits)
    → length digits < least → NoCut (IsDigitRun least most) (digits ++ rest)
too_few_digits least most digits rest found few text left v e run =
    let is = IsDigitRun-unique least 0 most text digits left rest v (digits_value digits) run found (sym e) in
    omega (arith, run.enough, ap length is.0)

-- ---- Runs of digits: as many as there are, up to the greatest length

pub whole_run : IsDigitRun 1 3 (codes "255") (codes "x") 255
whole_run = search rules

pub leading_zero_counts_as_a_digit : Cut (IsDigitRun 1 3) (codes "0256") (codes "6") 25
leading_zero_counts_as_a_digit = (codes "025", refl, search rules)

pub nine_digits : Cut (IsDigitRun 9 9) (codes "9999999990") (codes "0") 999_999_999
nine_digits = (codes "999999999", refl, search rules)

pub run_does_not_end_before_a_digit : (v : ℕ) → IsDigitRun 1 3 (codes "12") (codes "3") v → ⊥
run_does_not_end_before_a_digit v run = grind (arith, run.ends)

pub run_has_no_other_value : (rest : List ℕ) → IsDigitRun 1 3 (codes "255") rest 254 → ⊥
run_has_no_other_value rest run = omega (arith, run.is)

pub empty_text_is_no_run : (v : ℕ) → IsDigitRun 1 3 [] (codes "x") v → ⊥
empty_text_is_no_run v run = omega (arith, run.enough)

pub three_digits_are_not_four : NoCut (IsDigitRun 4 4) (codes "123x")
three_digits_are_not_four = too_few_digits 4 4 (codes "123") (codes "x") (search rules) (omega arith)

pub greater_than_a_byte : NoCut (IsDigitRunUpTo 255 1 3) (codes "256")
greater_than_a_byte text rest v e run =
    let is = IsDigitRun-unique 1 1 3 text (codes "256") rest [] v 256 run.0 (search rules) (sym e) in
    omega (arith, run.1)

-- the bytes before `0` and after `9`
pub slash_is_no_digit : NoCut (IsDigitRun 9 9) (codes "/234567890")
slash_is_no_digit = no_digit_first 9 9 47 _ (omega arith) (λ d. omega arith)

pub colon_is_no_digit : NoCut (IsDigitRun 1 3) (codes ":5")
colon_is_no_digit = no_digit_first 1 3 58 _ (omega arith) (λ d. omega arith)

-- ---- Runs with a padding

pub spaces_count_as_places : Cut (IsPaddedRun padding.Space 4 6) (codes "  12345") (codes "5") 1234
spaces_count_as_places = (
  codes "  1234",
  refl,
  record { spaces = 2; digits = codes "1234"; cut = refl; few = search rules; all = search rules; run = search rules },
)

pub space_and_a_digit : IsPaddedRun padding.Space 2 2 (codes " 7") [] 7
space_and_a_digit =
    record { spaces = 1; digits = codes "7"; cut = refl; few = search rules; all = search rules; run = search rules }

pub digit_without_padding : IsPaddedRun padding.None 2 2 (codes "7") (codes "x") 7
digit_without_padding = search rules

pub zero_and_a_digit : IsPaddedRun padding.Zero 2 2 (codes "07") (codes "x") 7
zero_and_a_digit = search rules

pub digit_without_its_zero : NoCut (IsPaddedRun padding.Zero 2 2) (codes "7x")
digit_without_its_zero = too_few_digits 2 2 (codes "7") (codes "x") (search rules) (omega arith)

pub space_for_a_zero : NoCut (IsPaddedRun padding.Zero 2 2) (codes " 7")
space_for_a_zero = no_digit_first 2 2 32 _ (omega arith) (λ d. omega arith)

pub space_without_padding : NoCut (IsPaddedRun padding.None 2 2) (codes " 7")
space_without_padding = no_digit_first 1 2 32 _ (omega arith) (λ d. omega arith)

-- up to three of four places may be spaces
pub four_spaces : (greatest : ℕ) → NoCut (IsPaddedRunUpTo greatest padding.Space 4 6) (codes "    1")
four_spaces greatest =
    after_spaces (λ n. n) greatest 4 6 3 (codes "    1") (codes " 1") None refl (omega arith) (inl refl)
    (λ text rest v e run. no_digit_first 1 3 32 _ (omega arith) (λ d. omega arith) text rest v e run.0)

-- ---- Fractions of a second: nine digits count

pub tenths : IsFraction (codes "5") (codes "Z") 500_000_000
tenths = search rules

pub hundredths : IsFraction (codes "52") (codes "Z") 520_000_000
hundredths = search rules

pub one_nanosecond : IsFraction (codes "000000001") [] 1
one_nanosecond = search rules

pub tenth_digit_is_dropped : IsFraction (codes "1234567899") [] 123_456_789
tenth_digit_is_dropped = search rules

pub fraction_without_a_digit : (rest : List ℕ) (v : ℕ) → IsFraction [] rest v → ⊥
fraction_without_a_digit rest v fraction = omega (arith, fraction.enough)

pub fraction_does_not_end_before_a_digit : (v : ℕ) → IsFraction (codes "5") (codes "2Z") v → ⊥
fraction_does_not_end_before_a_digit v fraction = grind (arith, fraction.ends)

pub fraction_is_not_rounded : (rest : List ℕ) → IsFraction (codes "1234567899") rest 123_456_790 → ⊥
fraction_is_not_rounded rest fraction = omega (arith, fraction.is)

pub hundredths_are_not_tenths : (rest : List ℕ) → IsFraction (codes "05") rest 500_000_000 → ⊥
hundredths_are_not_tenths rest fraction = omega (arith, fraction.is)
