-- The text of a fraction of a second is parsed as the nanoseconds that its digits represent.
use Rattle.std.specs.Prelude.{◌||◌, if◌then◌else◌, int_lt, nat_lt}
use Rattle.std.specs.Fmt.{decimal}
use Rattle.std.proofs.Common.{◌≡◌, ◌≢◌, ℕ, ◌+◌, ◌/◌, ◌%◌, ◌<◌, List, [], ◌∷◌, length, slice_index_or, refl, ap, ◌∙◌, arith, rules, ◌⊎◌, ◌-◌, ◌*◌, ◌^◌, ◌≤◌, take, inl, inr, subst, sym, Bool, true, false, ◌++◌, ℤ, pos, negsuc, unsigned_abs, neg_ℤ}
use Rattle.std.proofs.lemmas.Bool.Decides.{nat_tests}
use Rattle.std.proofs.lemmas.List.{take_all, length-append}
use Rattle.std.proofs.lemmas.Bool.{lt-ltb}
use Rattle.std.proofs.lemmas.Fmt.{decimal_by_steps_wide, length-decimal-le_wide}
use Rattle.std.proofs.lemmas.Int.{ints}
use Rattle.std.proofs.lemmas.Nat.{le-div, pow-add}
use Rattle.std.proofs.Math.Nat.{add-mul, div-lt_iff_lt-mul, div-mul-le_self}
use Rattle.time_values.specs.DisplayTexts.{fixed, is_behind}
use Rattle.time_values.specs.Sign.{signed_by}
use Rattle.time_values.specs.declared.utc_offset.UtcOffset.{UtcOffset}
use Rattle.time_values.specs.Calendar.{IsBetween, greatest_year}
use Rattle.time_values.specs.Moments.{offset_instant}
use Rattle.time_values.specs.declared.offset_date_time.OffsetDateTime.{OffsetDateTime}
use Rattle.time_values.proofs.YearLemmas.{abs_within}
use Rattle.time_values.proofs.InstantLemmas.{clock_nanos_range, first_instant_is, instant_is, last_instant_is}
use Rattle.time_formatting.proofs.KeptDigits.{fixed-length, front-below, significant-bound, take-fixed}
use Rattle.time_formatting.proofs.SameTexts.{signed-hours}
use Rattle.time_digits.specs.Digits.{IsDigitRun, NoDigitFirst, digits_value, Form, IsPaddedRun, AllDigits}
use Rattle.time_digits.specs.declared.Padding.{Padding}
use Rattle.time_digits.specs.declared.Padding.TheVariants as padding
use Rattle.time_digits.specs.declared.Sign.{Sign}
use Rattle.time_digits.specs.declared.Sign.TheVariants.{Negative, Positive}
use Rattle.time_digits.proofs.Runs.{AllDigits-push, digits_value-push, pow-mono}
use Rattle.time_components.specs.Spelling.{IsFractionRun, least_digits, most_digits, IsSigned, SpellsCentury, SpellsOffsetHour, SpellsYear, flagged, flagged_value, signed, signed_value, SpellsTimestamp, scaled_value}
use Rattle.time_components.specs.declared.modifier.SubsecondDigits.{SubsecondDigits}
use Rattle.time_components.specs.declared.modifier.SubsecondDigits.TheVariants.{One, Two, Three, Four, Five, Six, Seven, Eight, Nine, OneOrMore}
use Rattle.time_formatting.specs.Numbers.{filled, filler, padded, sign_text, century, century_digits, full_year, year_digits, year_sign, count_text, whole}
use Rattle.time_formatting.specs.Components.{count_of, FractionStops, kept, BareStops, CenturyStops, PaddedStops, SignedStops, YearStops, century_value, units_value}
use Rattle.time_formatting.proofs.DigitRuns.{fixed-value, fixed_run, padded_run, run_padded}

-- ---- Digits of numbers, and zeros in front of them

-- a single digit is unchanged
pub filled_one : (fill left : List ℕ) → ¬ (1 < length left) → filled fill left ≡ left
filled_one fill [] few = refl
filled_one fill (c ∷ []) few = refl
filled_one fill (c ∷ d ∷ ds) few = absurd (few (omega arith))

-- and so is a text that begins with no zero
pub filled_other : (fill left : List ℕ) → 1 < length left → slice_index_or left 0 0 ≢ 48 → filled fill left ≡ left
filled_other fill [] many other = refl
filled_other fill (c ∷ []) many other = refl
filled_other fill (c ∷ d ∷ ds) many other = search (rules, nat_tests)

-- the last two digits of a number are those of its remainder
pub two_of : (n : ℕ) → fixed 2 (n % 100) ≡ fixed 2 n
unfolding fixed
two_of n = ap (λ x. (48 + x) ∷ (48 + n % 100 % 10) ∷ []) (omega arith) ∙ ap (λ x. (48 + n / 10 % 10) ∷ (48 + x) ∷ []) (omega arith)

-- the last three digits of a number
pub three_of : (n : ℕ) (ds : List ℕ) → ds ≡ fixed 2 (n % 100)
    → (48 + n / 100 % 10) ∷ slice_index_or ds 0 0 ∷ slice_index_or ds 1 0 ∷ [] ≡ fixed 3 n
unfolding fixed
three_of n ds is =
    ap (λ l. (48 + n / 100 % 10) ∷ slice_index_or l 0 0 ∷ slice_index_or l 1 0 ∷ []) is
    ∙ ap (λ x. (48 + x) ∷ (48 + n % 100 / 10 % 10) ∷ (48 + n % 100 % 10) ∷ []) (omega arith)
    ∙ ap (λ x. (48 + n / 10 / 10 % 10) ∷ (48 + x) ∷ (48 + n % 100 % 10) ∷ []) (omega arith)
    ∙ ap (λ x. (48 + n / 10 / 10 % 10) ∷ (48 + n / 10 % 10) ∷ (48 + x) ∷ []) (omega arith)

-- the last three of four digits
pub last_three : (n : ℕ) (ds : List ℕ) → ds ≡ fixed 4 n
    → slice_index_or ds 1 0 ∷ slice_index_or ds 2 0 ∷ slice_index_or ds 3 0 ∷ [] ≡ fixed 3 n
unfolding fixed
last_three n ds is = ap (λ l. slice_index_or l 1 0 ∷ slice_index_or l 2 0 ∷ slice_index_or l 3 0 ∷ []) is

-- k digits of a second
fraction_run : (least most k n : ℕ) (rest : List ℕ) → least ≤ k → k ≤ most → k ≤ 9 → n < 10 ^ k → (k ≡ most) ⊎ NoDigitFirst rest
    → IsFractionRun least most (fixed k n) rest (n * 10 ^ (9 - k))
fraction_run least most k n rest enough within few below ends =
    let long = fixed-length k n in
    let is = sym (fixed-value k n below) in (
      subst (λ v. IsDigitRun least most (fixed k n) rest v) is (fixed_run least most k n rest enough within below ends),
      ap (λ v. v * 10 ^ (9 - k)) is
          ∙ ap (λ text. digits_value text * 10 ^ (9 - k)) (sym (take_all 9 (fixed k n) (omega (arith, long, few))))
          ∙ ap (λ i. digits_value (take 9 (fixed k n)) * 10 ^ (9 - i)) (sym long),
    )

-- the first k of nine
first_run : (least most k n : ℕ) (rest : List ℕ) → least ≤ k → k ≤ most → k ≤ 9 → n < 10 ^ 9 → (k ≡ most) ⊎ NoDigitFirst rest
    → IsFractionRun least most (take k (fixed 9 n)) rest (kept k n)
first_run least most k n rest enough within few below ends =
    let sum : 9 ≡ k + (9 - k) = omega (arith, few) in
    subst (λ text. IsFractionRun least most text rest (kept k n)) (sym (take-fixed (9 - k) k 9 n sum))
    (fraction_run least most k (n / 10 ^ (9 - k)) rest enough within few (front-below (9 - k) k 9 n sum below) ends)

-- the digits that the component requires
pub fraction_spelled : (digits : SubsecondDigits) (n : ℕ) (rest : List ℕ) → n < 10 ^ 9 → FractionStops digits rest
    → IsFractionRun (least_digits digits) (most_digits digits) (take (count_of digits n) (fixed 9 n)) rest (kept (count_of digits n) n)
fraction_spelled One n rest below stops = first_run 1 1 1 n rest (omega arith) (omega arith) (omega arith) below (inl refl)
fraction_spelled Two n rest below stops = first_run 2 2 2 n rest (omega arith) (omega arith) (omega arith) below (inl refl)
fraction_spelled Three n rest below stops = first_run 3 3 3 n rest (omega arith) (omega arith) (omega arith) below (inl refl)
fraction_spelled Four n rest below stops = first_run 4 4 4 n rest (omega arith) (omega arith) (omega arith) below (inl refl)
fraction_spelled Five n rest below stops = first_run 5 5 5 n rest (omega arith) (omega arith) (omega arith) below (inl refl)
fraction_spelled Six n rest below stops = first_run 6 6 6 n rest (omega arith) (omega arith) (omega arith) below (inl refl)
fraction_spelled Seven n rest below stops = first_run 7 7 7 n rest (omega arith) (omega arith) (omega arith) below (inl refl)
fraction_spelled Eight n rest below stops = first_run 8 8 8 n rest (omega arith) (omega arith) (omega arith) below (inl refl)
fraction_spelled Nine n rest below stops = first_run 9 9 9 n rest (omega arith) (omega arith) (omega arith) below (inl refl)
fraction_spelled OneOrMore n rest below stops =
    let bound = significant-bound 9 n in
    first_run 1 32 (count_of OneOrMore n) n rest (omega arith) (omega (arith, bound)) (omega (arith, bound)) below (inr stops)

-- ---- Numbers with a sign in front of them are parsed as the numbers that were written

-- the sign of a number, by whether it is below 0
abbrev pub sign_of : Bool → Sign
sign_of true = Negative
sign_of false = Positive

-- a number with a sign, or without one
sign_spelled : (below wanted mandatory : Bool) (behind alone : Form ℕ) (Behind Alone : List ℕ → Type 0) (digits rest : List ℕ) (n : ℕ)
    → (wanted ≡ false → mandatory ≡ false) → (Behind rest → behind digits rest n) → (below ≡ false → wanted ≡ false → Alone rest → alone digits rest n)
    → SignedStops (sign_text below wanted) Behind Alone rest → IsSigned mandatory behind alone (sign_text below wanted ++ digits) rest (sign_of below, n)
sign_spelled true wanted mandatory behind alone Behind Alone digits rest n free front whole stops = inl (digits, refl, front stops)
sign_spelled false true mandatory behind alone Behind Alone digits rest n free front whole stops = inl (digits, refl, front stops)
sign_spelled false false mandatory behind alone Behind Alone digits rest n free front whole stops = inr (free refl, refl, whole refl refl stops)

-- a number that has one form with a sign and without
pub same_spelled : (below mandatory : Bool) (form : Form ℕ) (digits rest : List ℕ) (n : ℕ) → form digits rest n
    → IsSigned mandatory form form (sign_text below mandatory ++ digits) rest (sign_of below, n)
same_spelled true mandatory form digits rest n run = inl (digits, refl, run)
same_spelled false true form digits rest n run = inl (digits, refl, run)
same_spelled false false form digits rest n run = inr (refl, refl, run)

-- the condition for both cases
either_stops : (sign : List ℕ) (Stop : List ℕ → Type 0) (rest : List ℕ) → Stop rest → SignedStops sign Stop Stop rest
either_stops [] Stop rest stops = stops
either_stops (c ∷ sign) Stop rest stops = stops

signed_is : (below : Bool) (n : ℕ) → signed (signed_by below (pos n)) ≡ signed_value (sign_of below, n)
signed_is true n = refl
signed_is false n = refl

flagged_is : (below : Bool) (n : ℕ) → flagged (signed_by below (pos n)) below ≡ flagged_value (sign_of below, n)
flagged_is true n = refl
flagged_is false n = refl

pub not_below : (n : ℕ) → int_lt (pos n) (pos 0) ≡ false
not_below n = search rules

-- a number is its sign and its magnitude
size_signed : (y : ℤ) → y ≡ signed_by (int_lt y (pos 0)) (pos (unsigned_abs y))
size_signed (pos n) = rw (not_below n) refl
size_signed (negsuc n) = refl

-- a year without a sign has four digits
four_digits : (y : ℤ) → int_lt y (pos 0) ≡ false → int_lt (pos 9999) y ≡ false → unsigned_abs y < 10 ^ 4
four_digits (pos n) above few = grind (arith, nat_tests)
four_digits (negsuc n) above few = absurd (cc)

first_false : (a b : Bool) → (a || b) ≡ false → a ≡ false
first_false true b e = e
first_false false b e = refl

last_false : (a b : Bool) → (a || b) ≡ false → b ≡ false
last_false true b e = absurd (cc)
last_false false b e = e

-- k digits with the padding, or one or two more
abbrev wide : Padding → ℕ → ℕ → List ℕ
wide p k n = if nat_lt n (10 ^ k) then padded p k n else if nat_lt n (10 ^ (k + 1)) then fixed (k + 1) n else fixed (k + 2) n

wide_by : (p : Padding) (k n : ℕ) (rest : List ℕ) (b c : Bool) → nat_lt n (10 ^ k) ≡ b → nat_lt n (10 ^ (k + 1)) ≡ c → 1 ≤ k → n < 10 ^ (k + 2)
    → NoDigitFirst rest → IsPaddedRun p k (k + 2) (wide p k n) rest n
wide_by p k n rest true c is more some below none =
    rw is (padded_run p k (k + 2) n rest some (omega arith) (let small : n < 10 ^ k = grind (arith, nat_tests) in small) (inr none))
wide_by p k n rest false true is more some below none =
    let small : n < 10 ^ (k + 1) = grind (arith, nat_tests) in
    rw (is, more) (run_padded p k (k + 2) (fixed (k + 1) n) rest n some (fixed_run k (k + 2) (k + 1) n rest (omega arith) (omega arith) small (inr none)))
wide_by p k n rest false false is more some below none =
    rw (is, more) (run_padded p k (k + 2) (fixed (k + 2) n) rest n some (fixed_run k (k + 2) (k + 2) n rest (omega arith) (omega arith) below (inr none)))

wide_run : (p : Padding) (k n : ℕ) (rest : List ℕ) → 1 ≤ k → n < 10 ^ (k + 2) → NoDigitFirst rest → IsPaddedRun p k (k + 2) (wide p k n) rest n
wide_run p k n rest = wide_by p k n rest (nat_lt n (10 ^ k)) (nat_lt n (10 ^ (k + 1))) refl refl

narrow_run : (p : Padding) (k n : ℕ) (rest : List ℕ) → 1 ≤ k → n < 10 ^ k → PaddedStops p rest → IsPaddedRun p k k (wide p k n) rest n
narrow_run p k n rest some below stops = rw (lt-ltb n (10 ^ k) below) (padded_run p k k n rest some (omega arith) below (inl (refl, stops)))

-- years
year_spelled : (Behind : List ℕ → Type 0) (mandatory : Bool) (p : Padding) (most : ℕ) (y : ℤ) (rest : List ℕ)
    → (Behind rest → IsPaddedRun p 4 most (year_digits p (unsigned_abs y)) rest (unsigned_abs y))
    → SignedStops (year_sign mandatory y) Behind (PaddedStops p) rest → SpellsYear mandatory p most (full_year mandatory p y) rest (signed y)
year_spelled Behind mandatory p most y rest front stops =
    let below = int_lt y (pos 0) in
    let long = int_lt (pos 9999) y in (
      (sign_of below, unsigned_abs y),
      ap (λ z. signed z) (size_signed y) ∙ signed_is below (unsigned_abs y),
      sign_spelled below (mandatory || long) mandatory (IsPaddedRun p 4 most) (IsPaddedRun p 4 4) Behind (PaddedStops p) (year_digits p (unsigned_abs y)) rest
          (unsigned_abs y) (first_false mandatory long) front
          (λ above free. narrow_run p 4 (unsigned_abs y) rest (omega arith) (four_digits y above (last_false mandatory long free))) stops,
    )

pub year_extended : (mandatory : Bool) (p : Padding) (y : ℤ) (rest : List ℕ) → unsigned_abs y < 10 ^ 6 → YearStops mandatory p y rest
    → SpellsYear mandatory p 6 (full_year mandatory p y) rest (signed y)
year_extended mandatory p y rest below = year_spelled NoDigitFirst mandatory p 6 y rest (wide_run p 4 (unsigned_abs y) rest (omega arith) below)

pub year_standard : (mandatory : Bool) (p : Padding) (y : ℤ) (rest : List ℕ) → unsigned_abs y < 10 ^ 4 → PaddedStops p rest
    → SpellsYear mandatory p 4 (full_year mandatory p y) rest (signed y)
year_standard mandatory p y rest below stops =
    year_spelled (PaddedStops p) mandatory p 4 y rest (narrow_run p 4 (unsigned_abs y) rest (omega arith) below)
    (either_stops (year_sign mandatory y) (PaddedStops p) rest stops)

-- a century without a sign
two_of_ten : (p : Padding) (n : ℕ) → 10 ≤ n → n < 100 → padded p 2 n ≡ fixed 2 n
unfolding fixed
two_of_ten p n many below = filled_other (filler p) ((48 + n / 10 % 10) ∷ (48 + n % 10) ∷ []) (omega arith) (λ e. omega (arith, e))

bare_run : (p : Padding) (n : ℕ) (rest : List ℕ) → n < 100 → BareStops p n rest → IsDigitRun 1 2 (century_digits p n) rest n
bare_run padding.Zero n rest below stops =
    let run = padded_run padding.Zero 2 2 n rest (omega arith) (omega arith) below (inl (refl, tt)) in
    rw (lt-ltb n 100 below) (run_padded padding.None 2 2 (padded padding.Zero 2 n) rest n (omega arith) run)
bare_run padding.None n rest below stops = narrow_run padding.None 2 n rest (omega arith) below stops
bare_run padding.Space n rest below stops =
    rw (lt-ltb n 100 below, two_of_ten padding.Space n stops below) (fixed_run 1 2 2 n rest (omega arith) (omega arith) below (inl refl))

century_spelled : (Behind : List ℕ → Type 0) (mandatory : Bool) (p : Padding) (most : ℕ) (y : ℤ) (rest : List ℕ)
    → (Behind rest → IsPaddedRun p 2 most (century_digits p (unsigned_abs y / 100)) rest (unsigned_abs y / 100))
    → CenturyStops Behind mandatory p y rest → SpellsCentury mandatory p most (century mandatory p y) rest (century_value y)
century_spelled Behind mandatory p most y rest front stops =
    let below = int_lt y (pos 0) in
    let long = int_lt (pos 9999) y in
    let n = unsigned_abs y / 100 in (
      (sign_of below, n),
      flagged_is below n,
      sign_spelled below (mandatory || long) mandatory (IsPaddedRun p 2 most) (IsDigitRun 1 2) Behind (BareStops p n) (century_digits p n) rest n
          (first_false mandatory long) front
          (λ above free. bare_run p n rest (omega (arith, four_digits y above (last_false mandatory long free)))) stops,
    )

pub century_extended : (mandatory : Bool) (p : Padding) (y : ℤ) (rest : List ℕ) → unsigned_abs y < 10 ^ 6 → CenturyStops NoDigitFirst mandatory p y rest
    → SpellsCentury mandatory p 4 (century mandatory p y) rest (century_value y)
century_extended mandatory p y rest below =
    century_spelled NoDigitFirst mandatory p 4 y rest (wide_run p 2 (unsigned_abs y / 100) rest (omega arith) (omega (arith, below)))

pub century_standard : (mandatory : Bool) (p : Padding) (y : ℤ) (rest : List ℕ) → unsigned_abs y < 10 ^ 4 → CenturyStops (PaddedStops p) mandatory p y rest
    → SpellsCentury mandatory p 2 (century mandatory p y) rest (century_value y)
century_standard mandatory p y rest below =
    century_spelled (PaddedStops p) mandatory p 2 y rest (narrow_run p 2 (unsigned_abs y / 100) rest (omega arith) (omega (arith, below)))

-- the hours of an offset
pub offset_hour_spelled : (mandatory : Bool) (p : Padding) (o : UtcOffset) (rest : List ℕ) → PaddedStops p rest
    → SpellsOffsetHour mandatory p (sign_text (is_behind o) mandatory ++ padded p 2 (unsigned_abs o.hours)) rest (flagged o.hours (is_behind o))
offset_hour_spelled mandatory p o rest stops =
    let below = is_behind o in
    let n = unsigned_abs o.hours in (
      (sign_of below, n),
      ap (λ z. flagged z below) (signed-hours o.hours o.minutes o.seconds o.one_sign.0 o.one_sign.1) ∙ flagged_is below n,
      same_spelled below mandatory (IsPaddedRun p 2 2) (padded p 2 n) rest n
          (padded_run p 2 2 n rest (omega arith) (omega arith) (omega (arith, abs_within 25 o.hours o.hours_in)) (inl (refl, stops))),
    )

-- ---- The text of an instant is parsed as its whole units

-- the digits of a decimal number
record IsNumeral (n : ℕ) (text : List ℕ) : Type 0 where
  digits : AllDigits text
  some : 1 ≤ length text
  is : n ≡ digits_value text

numeral_one : (n : ℕ) → n < 10 → IsNumeral n ((48 + n) ∷ [])
numeral_one n below = record { digits = ((omega arith, omega arith), tt); some = omega arith; is = omega arith }

numeral_more : (n : ℕ) (text : List ℕ) → 10 ≤ n → IsNumeral (n / 10) text → IsNumeral n (text ++ ((48 + n % 10) ∷ []))
numeral_more n text many less = record {
  digits = AllDigits-push text (48 + n % 10) less.digits (omega arith, omega arith);
  some = omega (arith, length-append text ((48 + n % 10) ∷ []));
  is = omega (arith, digits_value-push text (48 + n % 10), less.is);
}

decimal_run : (most n : ℕ) (rest : List ℕ) → 1 ≤ most → n < 10 ^ most → n < 10 ^ 64 → NoDigitFirst rest → IsDigitRun 1 most (decimal n) rest n
decimal_run most n rest some below small none =
    let numeral = decimal_by_steps_wide IsNumeral numeral_one numeral_more n small in record {
      digits = numeral.digits;
      enough = numeral.some;
      within = length-decimal-le_wide most n some below small;
      ends = inr none;
      is = numeral.is;
    }

-- whole units with their sign
units_are : (unit : ℕ) (z : ℤ) → units_value unit z ≡ scaled_value unit (sign_of (int_lt z (pos 0)), unsigned_abs (whole unit z))
units_are unit (pos n) = rw (not_below n) refl
units_are unit (negsuc n) = refl

-- the number of whole units
whole_below : (unit k : ℕ) (z : ℤ) → 0 < unit → unsigned_abs z + unit < k * unit → unsigned_abs (whole unit z) < k
whole_below unit k (pos n) some below = (div-lt_iff_lt-mul some).1 (omega (arith, below))
whole_below unit k (negsuc n) some below =
    let one_more : (n / unit + 1) * unit ≤ n + unit = omega (arith, add-mul (n / unit) 1 unit, div-mul-le_self n unit) in
    let least = le-div (n / unit + 1) (n + unit) unit some one_more in
    let most : (n + unit) / unit < k = (div-lt_iff_lt-mul some).1 (omega (arith, below)) in
    omega (arith, least, most)

-- an instant has at most 23 digits
near_size : (z : ℤ) → IsBetween (neg_ℤ (pos 31_700_000_000_000_000_000_000)) (pos 31_700_000_000_000_000_000_000) z → unsigned_abs z + 10 ^ 9 < 10 ^ 23
near_size z near = omega (arith, abs_within 31_700_000_000_000_000_000_000 z near)

instant_size : (v : OffsetDateTime) → unsigned_abs (offset_instant greatest_year v) + 10 ^ 9 < 10 ^ 23
instant_size v =
    let is = instant_is v.date v.time v.offset in
    let clock = clock_nanos_range v.date v.time in
    near_size (offset_instant greatest_year v) (
      omega (arith, ints, is, clock, first_instant_is, v.offset.hours_in, v.offset.minutes_in, v.offset.seconds_in),
      omega (arith, ints, is, clock, last_instant_is, v.offset.hours_in, v.offset.minutes_in, v.offset.seconds_in),
    )

-- a number of units of 10 ^ k nanoseconds
pub timestamp_spelled : (k : ℕ) (mandatory : Bool) (v : OffsetDateTime) (rest : List ℕ) → k ≤ 9 → NoDigitFirst rest
    → SpellsTimestamp (10 ^ k) mandatory (23 - k) (count_text (10 ^ k) mandatory (offset_instant greatest_year v)) rest
    (units_value (10 ^ k) (offset_instant greatest_year v))
timestamp_spelled k mandatory v rest few none =
    let z = offset_instant greatest_year v in
    let n = unsigned_abs (whole (10 ^ k) z) in
    let all : 10 ^ (23 - k) * 10 ^ k ≡ 10 ^ 23 = let sum : 23 - k + k ≡ 23 = omega arith in sym (pow-add 10 (23 - k) k) ∙ ap (λ i. 10 ^ i) sum in
    let below = whole_below (10 ^ k) (10 ^ (23 - k)) z (omega (arith, pow-mono 0 k)) (omega (arith, all, instant_size v, pow-mono k 9 few)) in
    let small : n < 10 ^ 64 = omega (arith, below, pow-mono (23 - k) 64) in (
      (sign_of (int_lt z (pos 0)), n),
      units_are (10 ^ k) z,
      same_spelled (int_lt z (pos 0)) mandatory (IsDigitRun 1 (23 - k)) (decimal n) rest n (decimal_run (23 - k) n rest (omega arith) below small none),
    )
