-- The parts of a written ISO 8601 text have the numbers of the value that was written.
use Rattle.std.proofs.Common.{◌≡◌, ◌≢◌, ◌≤◌, ◌<◌, ◌+◌, ◌-◌, ◌*◌, ◌^◌, ◌/◌, ◌%◌, ℕ, zero, suc, pos, List, [], ◌∷◌, ◌++◌, length, take, true, Option, Some, None, Ok, refl, sym, ap, subst, ◌∙◌, ⊎_elim, inl, inr, arith, append_assoc, mul-le-mul_right, add-mul, mul_assoc, div-mul-le_self, pow-suc}
use Rattle.std.specs.Prelude.{◌&&◌, nat_le, nat_lt, option_map}
use Rattle.std.proofs.lemmas.Bool.{le-leb, lt-ltb, ne_eqb}
use Rattle.std.proofs.lemmas.List.{take_all, length-take-le}
use Rattle.std.proofs.lemmas.Nat.{pow-add}
use Rattle.time_values.specs.Names.{month_number}
use Rattle.time_values.specs.DisplayTexts.{fixed, fraction_display}
use Rattle.time_values.specs.declared.month.Month.{Month}
use Rattle.time_values.proofs.NumberLemmas.{month_number_in}
use Rattle.time_digits.specs.Digits.{sign_byte, IsFraction, NoDigitFirst, digits_value}
use Rattle.time_digits.specs.declared.Sign.{Sign}
use Rattle.time_digits.specs.declared.Sign.TheVariants.{Negative, Positive}
use Rattle.time_readers.specs.IsoPieces.{Found, NoPointFirst, Number, plain, fraction, number, year, month, positive, digits, up_to, byte, sign, with_sign}
use Rattle.time_readers.specs.IsoDates.{date_text, forms, calendar}
use Rattle.time_readers.specs.IsoGrammar.{IsSecondOfTime, offset_by_pieces, offset_minute}
use Rattle.time_readers.specs.IsoTimes.{round_of, when, time_text}
use Rattle.time_readers.specs.IsoOffsets.{offset_found}
use Rattle.time_readers.specs.declared.iso8601.ExtendedKind.{ExtendedKind}
use Rattle.time_readers.specs.declared.iso8601.ExtendedKind.TheVariants.{Basic, Extended}
use Rattle.time_readers.specs.declared.iso8601.OffsetNumbers.{OffsetNumbers}
use Rattle.time_readers.specs.declared.iso8601.OffsetNumbers.TheVariants.{Zulu, Numeric}
use Rattle.time_readers.specs.declared.iso8601.TimeNumbers.{TimeNumbers}
use Rattle.time_readers.proofs.IsoDatesAndTimes.{byte_found, byte_missing}
use Rattle.time_readers.proofs.IsoCuts.{year-found, number-found, pieces-are_cuts}
use Rattle.time_readers.proofs.OneMailDate.{round-one}
use Rattle.time_readers.proofs.IsoTimes.{offset_by_pieces_is, colon_minute, minute_basic}
use Rattle.time_readers.proofs.IsoPieces.{month-numbered}
use Rattle.time_formatting.proofs.KeptDigits.{fixed-length}
use Rattle.time_parsing.specs.Written.{kept}
use Rattle.time_parsing.proofs.WrittenBack.{fixed-run, written-fraction, not_zero}

-- pieces in front of what follows them
year_there : (y : ℕ) (rest : List ℕ) → y < 10 ^ 4 → year (fixed 4 y ++ rest) ≡ Some (rest, pos y)
year_there y rest small =
    year-found (fixed 4 y ++ rest) rest (pos y) (fixed 4 y, refl, ((Positive, y), refl, inr (refl, refl, fixed-run 4 y rest small)))

month_there : (m : Month) (rest : List ℕ) → month (fixed 2 (month_number m) ++ rest) ≡ Some (rest, m)
month_there m rest =
    let n = month_number_in m in
    (pieces-are_cuts.month (fixed 2 (month_number m) ++ rest) rest m).1
    (fixed 2 (month_number m), refl, (month_number m, fixed-run 2 (month_number m) rest (omega (arith, n)), month-numbered m))

day_there : (d : ℕ) (rest : List ℕ) → d ≢ 0 → d < 10 ^ 2 → positive 2 (fixed 2 d ++ rest) ≡ Some (rest, d)
day_there d rest some small =
    (pieces-are_cuts.positive 2 (fixed 2 d ++ rest) rest d).1
    (fixed 2 d, refl, (d, fixed-run 2 d rest small, rw (ne_eqb d 0 some) refl))

number_there : (n : ℕ) (rest : List ℕ) → n < 10 ^ 2 → NoPointFirst rest → number (fixed 2 n ++ rest) ≡ Some (rest, plain n)
number_there n rest small point = number-found (fixed 2 n ++ rest) rest (plain n) (fixed 2 n, refl, (fixed-run 2 n rest small, point))

up_to_there : (greatest n : ℕ) (rest : List ℕ) → n ≤ greatest → n < 10 ^ 2 → up_to greatest 2 (fixed 2 n ++ rest) ≡ Some (rest, n)
up_to_there greatest n rest within small =
    (pieces-are_cuts.up_to greatest 2 (fixed 2 n ++ rest) rest n).1
    (fixed 2 n, refl, (n, fixed-run 2 n rest small, rw (le-leb n greatest within) refl))

digits_there : (n : ℕ) (rest : List ℕ) → n < 10 ^ 2 → digits 2 (fixed 2 n ++ rest) ≡ Some (rest, n)
digits_there n rest small = (pieces-are_cuts.digits 2 (fixed 2 n ++ rest) rest n).1 (fixed 2 n, refl, fixed-run 2 n rest small)

sign_there : (s : Sign) (rest : List ℕ) → sign (sign_byte s ∷ rest) ≡ Some (rest, s)
sign_there s rest = (pieces-are_cuts.sign (sign_byte s ∷ rest) rest s).1 (sign_byte s ∷ [], refl, refl)

-- what can't precede two digits, a colon or a sign
no_dash : (n : ℕ) (rest : List ℕ) → byte 45 (fixed 2 n ++ rest) ≡ None
unfolding fixed
no_dash n rest = byte_missing 45 (48 + n / 10 % 10) ((48 + n % 10) ∷ rest) (λ e. omega (arith, e))

no_colon : (n : ℕ) (rest : List ℕ) → byte 58 (fixed 2 n ++ rest) ≡ None
unfolding fixed
no_colon n rest = byte_missing 58 (48 + n / 10 % 10) ((48 + n % 10) ∷ rest) (λ e. omega (arith, e))

-- a byte other than a point
other_than_point : (c : ℕ) (rest : List ℕ) → c ≢ 46 → c ≢ 44 → NoPointFirst (c ∷ rest)
other_than_point c rest stop comma = λ p. ⊎_elim stop comma p

pub no_point-digits : (n : ℕ) (rest : List ℕ) → NoPointFirst (fixed 2 n ++ rest)
unfolding fixed
no_point-digits n rest = other_than_point (48 + n / 10 % 10) ((48 + n % 10) ∷ rest) (λ e. omega (arith, e)) (λ e. omega (arith, e))

pub no_point-sign : (s : Sign) (rest : List ℕ) → NoPointFirst (sign_byte s ∷ rest)
no_point-sign Negative rest = other_than_point 45 rest (λ e. omega (arith, e)) (λ e. omega (arith, e))
no_point-sign Positive rest = other_than_point 43 rest (λ e. omega (arith, e)) (λ e. omega (arith, e))

pub no_point-z : (rest : List ℕ) → NoPointFirst (90 ∷ rest)
no_point-z rest = other_than_point 90 rest (λ e. omega (arith, e)) (λ e. omega (arith, e))

no_z : (s : Sign) (rest : List ℕ) → byte 90 (sign_byte s ∷ rest) ≡ None
no_z Negative rest = byte_missing 90 45 rest (λ e. omega (arith, e))
no_z Positive rest = byte_missing 90 43 rest (λ e. omega (arith, e))

-- dates
pub extended_date : (y : ℕ) (m : Month) (d : ℕ) (rest : List ℕ) → y < 10 ^ 4 → d ≢ 0 → d < 10 ^ 2
    → date_text (fixed 4 y ++ (45 ∷ (fixed 2 (month_number m) ++ (45 ∷ (fixed 2 d ++ rest)))))
    ≡ Ok (record { rest = rest; value = calendar (pos y) m d; kind = Extended })
unfolding date_text forms
extended_date y m d rest year some day =
    rw (
      year_there y (45 ∷ (fixed 2 (month_number m) ++ (45 ∷ (fixed 2 d ++ rest)))) year,
      byte_found 45 45 (fixed 2 (month_number m) ++ (45 ∷ (fixed 2 d ++ rest))) refl,
      month_there m (45 ∷ (fixed 2 d ++ rest)),
      byte_found 45 45 (fixed 2 d ++ rest) refl,
      day_there d rest some day,
    ) refl

pub basic_date : (y : ℕ) (m : Month) (d : ℕ) (rest : List ℕ) → y < 10 ^ 4 → d ≢ 0 → d < 10 ^ 2
    → date_text (fixed 4 y ++ (fixed 2 (month_number m) ++ (fixed 2 d ++ rest)))
    ≡ Ok (record { rest = rest; value = calendar (pos y) m d; kind = Basic })
unfolding date_text forms
basic_date y m d rest year some day =
    rw (
      year_there y (fixed 2 (month_number m) ++ (fixed 2 d ++ rest)) year,
      no_dash (month_number m) (fixed 2 d ++ rest),
      month_there m (fixed 2 d ++ rest),
      day_there d rest some day,
    ) refl

-- the time of these numbers
abbrev pub clock : ℕ → ℕ → ℕ → ℕ → TimeNumbers
clock h m s n = record { hour = h; minute = m; second = s; subsecond = n }

module _ (h m s nanoseconds : ℕ) (n : Number) (seconds rest : List ℕ) (hour : h ≤ 23) (minute : m ≤ 59)
    (found : number seconds ≡ Some (rest, n)) (second : IsSecondOfTime n s nanoseconds) where
  pub extended_time : time_text true Extended (84 ∷ (fixed 2 h ++ (58 ∷ (fixed 2 m ++ (58 ∷ seconds)))))
      ≡ Some (record { rest = rest; value = clock h m s nanoseconds; kind = Extended })
  extended_time =
      let after = fixed 2 m ++ (58 ∷ seconds) in
      rw (
        byte_found 84 84 (fixed 2 h ++ (58 ∷ after)) refl,
        colon_minute (fixed 2 h ++ (58 ∷ after)) (58 ∷ after) h
            (number_there h (58 ∷ after) (omega (arith, hour)) (other_than_point 58 after (λ e. omega (arith, e)) (λ e. omega (arith, e)))) hour
            Extended after (58 ∷ seconds) m (Some seconds) refl (byte_found 58 58 after refl)
            (number_there m (58 ∷ seconds) (omega (arith, minute)) (other_than_point 58 seconds (λ e. omega (arith, e)) (λ e. omega (arith, e))))
            minute (byte_found 58 58 seconds refl),
        found,
        second h m,
      ) refl

module _ (h m s nanoseconds : ℕ) (n : Number) (seconds rest : List ℕ) (hour : h ≤ 23) (minute : m ≤ 59) (point : NoPointFirst seconds)
    (found : number seconds ≡ Some (rest, n)) (second : IsSecondOfTime n s nanoseconds) where
  pub basic_time : time_text true Basic (84 ∷ (fixed 2 h ++ (fixed 2 m ++ seconds)))
      ≡ Some (record { rest = rest; value = clock h m s nanoseconds; kind = Basic })
  basic_time =
      let after = fixed 2 m ++ seconds in
      rw (
        byte_found 84 84 (fixed 2 h ++ after) refl,
        minute_basic (fixed 2 h ++ after) after h (number_there h after (omega (arith, hour)) (no_point-digits m seconds)) hour
            Basic seconds m (Some (rest, n)) refl (no_colon m seconds) (number_there m seconds (omega (arith, minute)) point) minute found,
        second h m,
      ) refl

-- a second without a fraction
pub plain_second : (s : ℕ) (rest : List ℕ) → s < 60 → NoPointFirst rest
    → (number (fixed 2 s ++ rest) ≡ Some (rest, plain s)) × IsSecondOfTime (plain s) s 0
plain_second s rest small point =
    (number_there s rest (omega (arith, small)) point, λ h m. rw (le-leb s 60 (omega (arith, small))) refl)

-- the power of ten that remains of the ninth
power_parts : (k : ℕ) → k ≤ 9 → 10 ^ (9 - k) * 10 ^ k ≡ 10 ^ 9
power_parts k few = let sum : 9 - k + k ≡ 9 = omega (arith, few) in sym (pow-add 10 (9 - k) k) ∙ ap (λ i. 10 ^ i) sum

ten_pow-pos : (k : ℕ) → 0 < 10 ^ k
ten_pow-pos zero = omega arith
ten_pow-pos (suc k) = omega (arith, pow-suc 10 k, ten_pow-pos k)

-- a fraction of at most nine digits is rounded to its own value
rounded : (text : List ℕ) (m : ℕ) → m * 10 ^ length text ≡ digits_value text * 10 ^ 9 → m ≡ round_of text 1_000_000_000
rounded text m whole =
    let power = 10 ^ length text in
    let w = digits_value text in
    let least : 2 * m - 1 ≤ 2 * m = omega arith in
    let low : (2 * m - 1) * power ≤ 2 * m * power = mul-le-mul_right power least in
    let twice : 2 * m * power ≡ 2 * (m * power) = mul_assoc 2 m power in
    let high : (2 * m + 1) * power ≡ 2 * m * power + 1 * power = add-mul (2 * m) 1 power in
    let some : 0 < power = ten_pow-pos (length text) in
    (round-one text 1_000_000_000 m).0 (record { low = omega (arith, low, twice, whole); high = omega (arith, high, twice, whole, some) })

fraction-rounded : (text rest : List ℕ) (m : ℕ) → length text ≤ 9 → IsFraction text rest m → m ≡ round_of text 1_000_000_000
fraction-rounded text rest m few f =
    let long = length text in
    let w = digits_value text in
    let is : m ≡ w * 10 ^ (9 - long) = f.is ∙ ap (λ t. digits_value t * 10 ^ (9 - long)) (take_all 9 text few) in
    let power : 10 ^ (9 - long) * 10 ^ long ≡ 10 ^ 9 = power_parts long few in
    rounded text m (ap (λ i. i * 10 ^ long) is ∙ mul_assoc w (10 ^ (9 - long)) (10 ^ long) ∙ ap (λ i. w * i) power)

says_fraction : (s : ℕ) (text : List ℕ) (m : ℕ) → s < 60 → m < 1_000_000_000 → m ≡ round_of text 1_000_000_000 → IsSecondOfTime (fraction s text) s m
says_fraction s text m small less is =
    λ h mi.
    subst (λ r. ◌≡◌ {A = Option TimeNumbers} (when (nat_le s 60 && nat_lt r 1_000_000_000) (clock h mi s r)) (Some (clock h mi s m))) is
    (rw (le-leb s 60 (omega (arith, small)), lt-ltb m 1_000_000_000 less) refl)

-- a second with a fraction
fraction_second : (s : ℕ) (text rest : List ℕ) (m : ℕ) → s < 60 → m < 1_000_000_000 → length text ≤ 9 → IsFraction text rest m
    → (number (fixed 2 s ++ ((46 ∷ text) ++ rest)) ≡ Some (rest, fraction s text)) × IsSecondOfTime (fraction s text) s m
fraction_second s text rest m small less few f = (
  number-found (fixed 2 s ++ ((46 ∷ text) ++ rest)) rest (fraction s text) (
    fixed 2 s ++ (46 ∷ text),
    sym (append_assoc (fixed 2 s) (46 ∷ text) rest),
    record {
      whole = fixed 2 s;
      mark = 46;
      cut = refl;
      run = fixed-run 2 s (46 ∷ (text ++ rest)) (omega (arith, small));
      is_point = inl refl;
      all = f.digits;
      some = f.enough;
      ends = f.ends;
    },
  ),
  says_fraction s text m small less (fraction-rounded text rest m few f),
)

-- a second with k digits of its fraction has their value
abbrev pub SecondStands : ℕ → ℕ → ℕ → List ℕ → Type 0
SecondStands k s n rest =
    (x : Number) × (number (fixed 2 s ++ (fraction_display k n ++ rest)) ≡ Some (rest, x)) × IsSecondOfTime x s (kept k n)

pub second_stands : (k s n : ℕ) (rest : List ℕ) → k ≤ 9 → s < 60 → n < 10 ^ 9 → NoDigitFirst rest → NoPointFirst rest → SecondStands k s n rest
second_stands zero s n rest few small below digit point =
    let none : 0 ≡ kept 0 n = omega (arith, below) in
    let both = plain_second s rest small point in
    (plain s, both.0, subst (IsSecondOfTime (plain s) s) none both.1)
second_stands (suc k) s n rest few small below digit point =
    let stands = written-fraction (suc k) n rest (omega arith) few below digit in
    let long = length-take-le (suc k) (fixed 9 n) (omega (arith, few, fixed-length 9 n)) in
    let less = div-mul-le_self n (10 ^ (9 - suc k)) in
    let both = fraction_second s (take (suc k) (fixed 9 n)) rest (kept (suc k) n) small (omega (arith, less, below)) (omega (arith, long, few)) stands in
    rw (not_zero k) (fraction s (take (suc k) (fixed 9 n)), both.0, both.1)

-- offsets
found_is : (kind : ExtendedKind) (b : List ℕ) → offset_found kind b ≡ option_map (λ (f : Found OffsetNumbers). (f.rest, f.value)) (offset_by_pieces kind b)
found_is kind b = ap (option_map (λ (f : Found OffsetNumbers). (f.rest, f.value))) (offset_by_pieces_is kind b)

pub zulu_offset : offset_found Extended (90 ∷ []) ≡ Some ([], Zulu)
unfolding offset_by_pieces
zulu_offset = found_is Extended (90 ∷ []) ∙ rw (byte_found 90 90 [] refl) refl

pub basic_zulu_offset : offset_found Basic (90 ∷ []) ≡ Some ([], Zulu)
unfolding offset_by_pieces
basic_zulu_offset = found_is Basic (90 ∷ []) ∙ rw (byte_found 90 90 [] refl) refl

module _ (s : Sign) (h m : ℕ) (hour : h ≤ 25) (minute : m ≤ 59) where
  pub extended_offset : offset_found Extended (sign_byte s ∷ (fixed 2 h ++ (58 ∷ (fixed 2 m ++ []))))
      ≡ Some ([], Numeric (with_sign s h) (with_sign s m))
  unfolding offset_by_pieces offset_minute
  extended_offset =
      let after = fixed 2 m ++ [] in
      found_is Extended (sign_byte s ∷ (fixed 2 h ++ (58 ∷ after)))
      ∙ rw (
        no_z s (fixed 2 h ++ (58 ∷ after)),
        sign_there s (fixed 2 h ++ (58 ∷ after)),
        up_to_there 25 h (58 ∷ after) hour (omega (arith, hour)),
        byte_found 58 58 after refl,
        up_to_there 59 m [] minute (omega (arith, minute)),
      ) refl

  pub basic_offset : offset_found Basic (sign_byte s ∷ (fixed 2 h ++ (fixed 2 m ++ [])))
      ≡ Some ([], Numeric (with_sign s h) (with_sign s m))
  unfolding offset_by_pieces offset_minute
  basic_offset =
      let after = fixed 2 m ++ [] in
      found_is Basic (sign_byte s ∷ (fixed 2 h ++ after))
      ∙ rw (
        no_z s (fixed 2 h ++ after),
        sign_there s (fixed 2 h ++ after),
        up_to_there 25 h after hour (omega (arith, hour)),
        digits_there m [] (omega (arith, minute)),
        up_to_there 59 m [] minute (omega (arith, minute)),
      ) refl
