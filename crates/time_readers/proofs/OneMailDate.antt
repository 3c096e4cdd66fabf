-- A fraction of a unit, from the last digit to the first.
use Rattle.std.proofs.Common.{◌≡◌, ◌↔◌, ℕ, zero, suc, ◌+◌, ◌-◌, ◌*◌, ◌/◌, ◌^◌, ◌<◌, ◌≤◌, List, [], ◌∷◌, length, arith, pow-suc, mul-le-mul_right, add-mul, mul_assoc, mul_comm, div-mul-le_self, div-lt_iff_lt-mul, sym, get_or, drop, drop-cons, subst, add-one, ◌⊎◌, inl, inr, ◌++◌, refl, ap, ◌∙◌, append_assoc, Bool, true, false, Option, Some, None, pos}
use Rattle.std.proofs.lemmas.Nat.{le-div, div_below}
use Rattle.std.proofs.lemmas.Option.{same_Some, none-some, some_pair_parts}
use Rattle.time_values.specs.Names.{month_name}
use Rattle.time_values.specs.Sign.{signed_by}
use Rattle.time_values.specs.declared.month.Month.{Month}
use Rattle.time_values.specs.declared.weekday.Weekday.{Weekday}
use Rattle.time_digits.specs.Digits.{IsDigit, AllDigits, digits_value, sign_byte, is_negative}
use Rattle.time_digits.specs.declared.Sign.{Sign}
use Rattle.time_digits.proofs.Runs.{run_says, IsDigitRun-unique}
use Rattle.time_components.specs.Spelling.{IsShortOf, month, weekday}
use Rattle.time_components.specs.declared.format_description.Component.TheVariants as component
use Rattle.time_components.proofs.NumberLemmas.{sign_byte-one}
use Rattle.time_components.proofs.OneSpelling.{one_spelling}
use Rattle.time_readers.specs.IsoTimes.{IsFloor, IsRounded, floor_of, round_of}
use Rattle.time_readers.specs.Readers.{Reader, IsRead}
use Rattle.time_readers.specs.MailBlanks.{opt_cfws, opt_cfws_colon_opt_cfws, cfws, zone_literal}
use Rattle.time_readers.specs.Rfc2822.{PlaceSyntax, year_blanks, IsShortWeekday, IsWeekdayPart, IsYear, IsSecond, IsZone, IsSignedHour, IsOffsetMinute, year_of_two}
use Rattle.time_readers.specs.declared.rfc2822.Numbers.{Numbers}
use Rattle.time_readers.specs.declared.rfc2822.Place.{Place}
use Rattle.time_readers.specs.declared.rfc2822.Place.TheVariants.{WeekdayName, Day, DayBlanks, MonthName, MonthBlanks, Year, YearBlanks, Hour, HourColon, Minute, Second, TimeBlanks, OffsetHour, OffsetMinute, EndBlanks}
use Rattle.time_readers.proofs.Repeats.{AtMostOneEach}

-- the fraction without digits is 0
pub floor_none : (unit : ℕ) → IsFloor [] unit 0
floor_none unit = record { low = omega arith; high = omega arith }

-- the bounds with one more digit, scaled by the power of ten of the others
low_more : (d w unit carry next power : ℕ) → carry * power ≤ w * unit → next * 10 ≤ d * unit + carry
    → next * (10 * power) ≤ (d * power + w) * unit
low_more d w unit carry next power low h =
    let scaled : (next * 10) * power ≤ (d * unit + carry) * power = mul-le-mul_right power h in
    let right : (d * unit + carry) * power ≡ (d * power) * unit + carry * power =
    omega (arith, add-mul (d * unit) carry power, mul_assoc d unit power, mul_comm unit power, mul_assoc d power unit) in
    let all : (d * power + w) * unit ≡ (d * power) * unit + w * unit = add-mul (d * power) w unit in
    let left = mul_assoc next 10 power in
    omega arith

high_more : (d w unit carry next power : ℕ) → w * unit < (carry + 1) * power → d * unit + carry + 1 ≤ (next + 1) * 10
    → (d * power + w) * unit < (next + 1) * (10 * power)
high_more d w unit carry next power high h =
    let scaled : (d * unit + (carry + 1)) * power ≤ ((next + 1) * 10) * power = mul-le-mul_right power (omega arith) in
    let left : (d * unit + (carry + 1)) * power ≡ (d * power) * unit + (carry + 1) * power =
    omega (arith, add-mul (d * unit) (carry + 1) power, mul_assoc d unit power, mul_comm unit power, mul_assoc d power unit) in
    let all : (d * power + w) * unit ≡ (d * power) * unit + w * unit = add-mul (d * power) w unit in
    let right = mul_assoc (next + 1) 10 power in
    omega arith

-- One digit before those whose floor is carried. A tenth of a whole number plus a fraction has the floor of a tenth of
-- that number plus the fraction's floor.
pub floor_more : (c : ℕ) (digits : List ℕ) (unit carry next : ℕ) → IsFloor digits unit carry → next ≡ ((c - 48) * unit + carry) / 10
    → IsFloor (c ∷ digits) unit next
floor_more c digits unit carry next floor is =
    let power = 10 ^ length digits in
    let place : 10 ^ length (c ∷ digits) ≡ 10 * power = omega (arith, pow-suc 10 (length digits)) in
    record {
      low =
          subst (λ p. next * p ≤ digits_value (c ∷ digits) * unit) (sym place)
          (low_more (c - 48) (digits_value digits) unit carry next power floor.low (omega arith));
      high =
          subst (λ p. digits_value (c ∷ digits) * unit < (next + 1) * p) (sym place)
          (high_more (c - 48) (digits_value digits) unit carry next power floor.high (omega arith));
    }

-- one digit before those whose floor is carried, at index i of a text
pub floor_at : (s : List ℕ) (i unit carry next : ℕ) → i < length s → IsFloor (drop (i + 1) s) unit carry
    → next ≡ ((get_or s i 0 - 48) * unit + carry) / 10 → IsFloor (drop i s) unit next
floor_at s i unit carry next h floor is =
    subst (λ t. IsFloor t unit next) (sym (drop-cons s i 0 h))
    (floor_more (get_or s i 0) (drop (suc i) s) unit carry next (subst (λ j. IsFloor (drop j s) unit carry) (add-one i) floor) is)

pub digit_at : (s : List ℕ) (i : ℕ) → i < length s → AllDigits s → IsDigit (get_or s i 0)
digit_at [] i h all = absurd (omega arith)
digit_at (c ∷ s) zero h all = all.0
digit_at (c ∷ s) (suc i) h all = digit_at s i (omega arith) all.1

-- a digit times the unit, plus the carry, is less than ten units
pub carry_below : (d unit carry : ℕ) → d ≤ 9 → carry < unit → d * unit + carry < 10 * unit
carry_below d unit carry nine below = let share : d * unit ≤ 9 * unit = mul-le-mul_right unit nine in omega arith

-- the floor of twice the fraction, plus one, halved is the rounded fraction
pub rounded : (digits : List ℕ) (unit double m : ℕ) → IsFloor digits (2 * unit) double → m ≡ (double + 1) / 2 → IsRounded digits unit m
rounded digits unit double m floor is =
    let power = 10 ^ length digits in
    let low = mul-le-mul_right power (let least : 2 * m - 1 ≤ double = omega arith in least) in
    let high = mul-le-mul_right power (let most : double + 1 ≤ 2 * m + 1 = omega arith in most) in
    let twice : digits_value digits * (2 * unit) ≡ 2 * digits_value digits * unit =
    omega (arith, mul_comm (digits_value digits) 2, mul_assoc (digits_value digits) 2 unit) in
    let floor_low = floor.low in
    let floor_high = floor.high in
    record { low = omega arith; high = omega arith }

twice_below : (m power : ℕ) → m * (2 * power) ≤ (2 * m - 1) * power + power
twice_below zero power = omega arith
twice_below (suc m) power =
    let one : 2 * suc m - 1 ≡ 2 * m + 1 = omega arith in
    let left = mul_assoc (suc m) 2 power in
    let right = add-mul (2 * m + 1) 1 power in
    rw one (omega arith)

ten_pow-pos : (n : ℕ) → 0 < 10 ^ n
ten_pow-pos zero = omega arith
ten_pow-pos (suc n) = omega (arith, pow-suc 10 n, ten_pow-pos n)

-- the lower bound of the rounded fraction
below_twice : (m power x : ℕ) → m * (2 * power) ≤ x + power → (2 * m - 1) * power ≤ x
below_twice zero power x h = omega arith
below_twice (suc m) power x h =
    let one : 2 * suc m - 1 ≡ 2 * m + 1 = omega arith in
    let left = mul_assoc (suc m) 2 power in
    let right = add-mul (2 * m + 1) 1 power in
    rw one (omega arith)

-- the truncated fraction is the quotient `floor_of`
pub floor-is : (digits : List ℕ) (unit m : ℕ) → IsFloor digits unit m → m ≡ floor_of digits unit
floor-is digits unit m is =
    let power = 10 ^ length digits in
    let some : 0 < power = ten_pow-pos (length digits) in
    let low = le-div m (digits_value digits * unit) power some is.low in
    let high = div_below (digits_value digits * unit) power (m + 1) some is.high in
    omega arith

floor-there : (digits : List ℕ) (unit : ℕ) → IsFloor digits unit (floor_of digits unit)
floor-there digits unit =
    let power = 10 ^ length digits in
    let all = digits_value digits * unit in
    record { low = div-mul-le_self all power; high = (div-lt_iff_lt-mul (ten_pow-pos (length digits))).0 (omega arith) }

pub floor-one : (digits : List ℕ) (unit m : ℕ) → IsFloor digits unit m ↔ (m ≡ floor_of digits unit)
floor-one digits unit m = (floor-is digits unit m, λ is. subst (IsFloor digits unit) (sym is) (floor-there digits unit))

-- the rounded fraction is the quotient `round_of`
pub round-is : (digits : List ℕ) (unit m : ℕ) → IsRounded digits unit m → m ≡ round_of digits unit
round-is digits unit m is =
    let power = 10 ^ length digits in
    let all = 2 * digits_value digits * unit + power in
    let some : 0 < 2 * power = omega (arith, ten_pow-pos (length digits)) in
    let twice : m * (2 * power) ≤ (2 * m - 1) * power + power = twice_below m power in
    let low = le-div m all (2 * power) some (let h = is.low in omega arith) in
    let next : (2 * m + 1) * power + power ≡ (m + 1) * (2 * power) =
    omega (arith, add-mul (2 * m) 1 power, mul_assoc (m + 1) 2 power, add-mul (2 * m) 2 power) in
    let high = div_below all (2 * power) (m + 1) some (let h = is.high in omega arith) in
    omega arith

round-there : (digits : List ℕ) (unit : ℕ) → IsRounded digits unit (round_of digits unit)
round-there digits unit =
    let power = 10 ^ length digits in
    let all = 2 * digits_value digits * unit + power in
    let m = all / (2 * power) in
    let some : 0 < 2 * power = omega (arith, ten_pow-pos (length digits)) in
    let above : all < (m + 1) * (2 * power) = (div-lt_iff_lt-mul some).0 (omega arith) in
    let next : (2 * m + 1) * power + power ≡ (m + 1) * (2 * power) =
    omega (arith, add-mul (2 * m) 1 power, mul_assoc (m + 1) 2 power, add-mul (2 * m) 2 power) in
    record { low = below_twice m power (2 * digits_value digits * unit) (div-mul-le_self all (2 * power)); high = omega arith }

pub round-one : (digits : List ℕ) (unit m : ℕ) → IsRounded digits unit m ↔ (m ≡ round_of digits unit)
round-one digits unit m = (round-is digits unit m, λ is. subst (IsRounded digits unit) (sym is) (round-there digits unit))

-- the rounded fraction of n digits of the unit 10 ^ n is the digits' decimal value
pub round_whole : (digits : List ℕ) (unit : ℕ) → 10 ^ length digits ≡ unit → digits_value digits ≡ round_of digits unit
round_whole digits unit e =
    let w = digits_value digits in
    let power = 10 ^ length digits in
    let some : 0 < power = ten_pow-pos (length digits) in
    let low : (2 * w - 1) * power ≤ 2 * w * power = mul-le-mul_right power (let least : 2 * w - 1 ≤ 2 * w = omega arith in least) in
    let high : (2 * w + 1) * power ≡ 2 * w * power + 1 * power = add-mul (2 * w) 1 power in
    let above : 2 * w * power < (2 * w + 1) * power = omega arith in
    round-is digits unit w (record {
      low = subst (λ u. (2 * w - 1) * power ≤ 2 * w * u) e low;
      high = subst (λ u. 2 * w * u < (2 * w + 1) * power) e above;
    })

-- ---- A mail date has one parse, or one first place that doesn't match

-- a reader has one rest
reader_one : (p : Reader) (a b x y : List ℕ) → IsRead p a x → IsRead p b y → a ++ x ≡ b ++ y → x ≡ y
reader_one p a b x y s t e = same_Some x y (sym s ∙ ap p e ∙ t)

blanks_one : (p : Reader) (n : Numbers) (a b x y : List ℕ) (m k : Numbers) → IsRead p a x × (m ≡ n) → IsRead p b y × (k ≡ n) → a ++ x ≡ b ++ y → (x ≡ y)
    × (m ≡ k)
blanks_one p n a b x y m k s t e = (reader_one p a b x y s.0 t.0 e, s.1 ∙ sym t.1)

month_one : (a b x y : List ℕ) (v w : Month) → IsShortOf false month_name a x v → IsShortOf false month_name b y w → a ++ x ≡ b ++ y → (x ≡ y) × (v ≡ w)
month_one a b x y v w s t e =
    let any_case = component.MonthShort (record { case_sensitive = false }) in
    let is = one_spelling false any_case (a ++ x) x y (month v) (month w) (a, refl, (v, refl, s)) (b, e, (w, refl, t)) in
    let same = is.1 in
    (is.0, cc)

weekday_one : (a b x y : List ℕ) (v w : Weekday) → IsShortWeekday a x v → IsShortWeekday b y w → a ++ x ≡ b ++ y → (x ≡ y) × (v ≡ w)
weekday_one a b x y v w s t e =
    let any_case = component.WeekdayShort (record { case_sensitive = false }) in
    let is = one_spelling false any_case (a ++ x) x y (weekday v) (weekday w) (a, refl, (v, refl, s)) (b, e, (w, refl, t)) in
    let same = is.1 in
    (is.0, cc)

weekday_whole : (a x : List ℕ) (w : Weekday) (p : IsWeekdayPart a x (Some w)) → a ++ x ≡ p.0 ++ (p.1 ++ 44 ∷ (p.2 ++ x))
weekday_whole a x w p = ap (λ t. t ++ x) p.3 ∙ append_assoc p.0 (p.1 ++ 44 ∷ p.2) x ∙ ap (λ t. p.0 ++ t) (append_assoc p.1 (44 ∷ p.2) x)

no_weekday : (a b x y : List ℕ) (w : Weekday) → IsWeekdayPart a x None → IsWeekdayPart b y (Some w) → a ++ x ≡ b ++ y → ⊥
no_weekday a b x y w p q e =
    let rest = 44 ∷ (q.2 ++ y) in
    p.1 q.1 rest w (reader_one opt_cfws a q.0 x (q.1 ++ rest) p.0 q.4 (e ∙ weekday_whole b y w q)) q.5

weekday_part_one : (a b x y : List ℕ) (v w : Option Weekday) → IsWeekdayPart a x v → IsWeekdayPart b y w → a ++ x ≡ b ++ y → (x ≡ y) × (v ≡ w)
weekday_part_one a b x y None None p q e = (reader_one opt_cfws a b x y p.0 q.0 e, refl)
weekday_part_one a b x y None (Some w) p q e = absurd (no_weekday a b x y w p q e)
weekday_part_one a b x y (Some v) None p q e = absurd (no_weekday b a y x v q p (sym e))
weekday_part_one a b x y (Some v) (Some w) p q e =
    let rest = 44 ∷ (p.2 ++ x) in
    let rest' = 44 ∷ (q.2 ++ y) in
    let names = reader_one opt_cfws p.0 q.0 (p.1 ++ rest) (q.1 ++ rest') p.4 q.4 (sym (weekday_whole a x v p) ∙ e ∙ weekday_whole b y w q) in
    let days = weekday_one p.1 q.1 rest rest' v w p.5 q.5 names in
    let commas = days.0 in
    let after : p.2 ++ x ≡ q.2 ++ y = cc in
    (reader_one opt_cfws p.2 q.2 x y p.6 q.6 after, ap Some days.1)

year_one : (n : Numbers) (a b x y : List ℕ) (f g : Bool) (v w : ℕ) (m k : Numbers) → IsYear f a x v → IsYear g b y w → a ++ x ≡ b ++ y
    → m ≡ record n { year = v; year_is_full = f } → k ≡ record n { year = w; year_is_full = g } → (x ≡ y) × (m ≡ k)
year_one n a b x y true true v w m k p q e says says' = run_says 4 4 (λ v. record n { year = v; year_is_full = true }) a b x y v w m k p.0 q.0 e says says'
year_one n a b x y true false v w m k p q e says says' = absurd (q.0 a x v (sym e) p.0)
year_one n a b x y false true v w m k p q e says says' = absurd (p.0 b y w e q.0)
year_one n a b x y false false v w m k p q e says says' =
    run_says 2 2 (λ v. record n { year = year_of_two v; year_is_full = false }) a b x y p.1.0 q.1.0 m k p.1.1 q.1.1 e
    (says ∙ ap (λ v. record n { year = v; year_is_full = false }) p.1.2) (says' ∙ ap (λ v. record n { year = v; year_is_full = false }) q.1.2)

colon_whole : (check_ranges : Bool) (a x : List ℕ) (v : ℕ) (p : IsSecond check_ranges a x (Some v)) → a ++ x ≡ p.0 ++ (p.1 ++ x)
colon_whole check_ranges a x v p = ap (λ t. t ++ x) p.2 ∙ append_assoc p.0 p.1 x

no_second : (check_ranges : Bool) (a b x y : List ℕ) (w : ℕ) → IsSecond check_ranges a x None → IsSecond check_ranges b y (Some w) → a ++ x ≡ b ++ y → ⊥
no_second check_ranges a b x y w p q e =
    let whole : x ≡ q.0 ++ (q.1 ++ y) = ap (λ t. t ++ x) (sym p.0) ∙ e ∙ colon_whole check_ranges b y w q in
    none-some (q.1 ++ y) (sym p.1 ∙ ap opt_cfws_colon_opt_cfws whole ∙ q.3)

second_one : (check_ranges : Bool) (a b x y : List ℕ) (v w : Option ℕ) → IsSecond check_ranges a x v → IsSecond check_ranges b y w → a ++ x ≡ b ++ y
    → (x ≡ y) × (v ≡ w)
second_one check_ranges a b x y None None p q e = (ap (λ t. t ++ x) (sym p.0) ∙ e ∙ ap (λ t. t ++ y) q.0, refl)
second_one check_ranges a b x y None (Some w) p q e = absurd (no_second check_ranges a b x y w p q e)
second_one check_ranges a b x y (Some v) None p q e = absurd (no_second check_ranges b a y x v q p (sym e))
second_one check_ranges a b x y (Some v) (Some w) p q e =
    let whole = sym (colon_whole check_ranges a x v p) ∙ e ∙ colon_whole check_ranges b y w q in
    let digits = reader_one opt_cfws_colon_opt_cfws p.0 q.0 (p.1 ++ x) (q.1 ++ y) p.3 q.3 whole in
    let is = IsDigitRun-unique 2 2 2 p.1 q.1 x y v w p.4.0 q.4.0 digits in
    (is.1, ap Some is.2)

-- the numbers with a signed hour
abbrev pub with_hour : Numbers → Sign → ℕ → Numbers
with_hour n s v = record n { offset_sign = Some s; offset_hour = signed_by (is_negative s) (pos v) }

hour_one : (check_ranges : Bool) (n : Numbers) (a b x y : List ℕ) (m k : Numbers)
    → IsZone n a x m ⊎ IsSignedHour check_ranges n a x m → IsZone n b y k ⊎ IsSignedHour check_ranges n b y k
    → a ++ x ≡ b ++ y → (x ≡ y) × (m ≡ k)
hour_one check_ranges n a b x y m k (inl p) (inl q) e =
    let is = some_pair_parts p.0 q.0 x y (sym p.1 ∙ ap zone_literal e ∙ q.1) in
    (is.1, p.2 ∙ ap (λ h. record n { offset_sign = None; offset_hour = h }) is.0 ∙ sym q.2)
hour_one check_ranges n a b x y m k (inl p) (inr q) e = absurd (none-some (p.0, x) (sym q.no_zone ∙ ap zone_literal (sym e) ∙ p.1))
hour_one check_ranges n a b x y m k (inr p) (inl q) e = absurd (none-some (q.0, y) (sym p.no_zone ∙ ap zone_literal e ∙ q.1))
hour_one check_ranges n a b x y m k (inr p) (inr q) e =
    let heads : sign_byte p.sign ∷ (p.digits ++ x) ≡ sign_byte q.sign ∷ (q.digits ++ y) = ap (λ t. t ++ x) (sym p.cut) ∙ e ∙ ap (λ t. t ++ y) q.cut in
    let signs = sign_byte-one p.sign q.sign (cc) in
    let is = IsDigitRun-unique 2 2 2 p.digits q.digits x y p.hour q.hour p.run.0 q.run.0 (cc) in
    (is.1, p.says ∙ ap (λ s. with_hour n s p.hour) signs ∙ ap (with_hour n q.sign) is.2 ∙ sym q.says)

minute_one : (check_ranges : Bool) (s : Option Sign) (n : Numbers) (a b x y : List ℕ) (m k : Numbers) → IsOffsetMinute check_ranges s n a x m
    → IsOffsetMinute check_ranges s n b y k → a ++ x ≡ b ++ y → (x ≡ y) × (m ≡ k)
minute_one check_ranges None n a b x y m k p q e = (ap (λ t. t ++ x) (sym p.0) ∙ e ∙ ap (λ t. t ++ y) q.0, p.1 ∙ sym q.1)
minute_one check_ranges (Some s) n a b x y m k p q e =
    run_says 2 2 (λ v. record n { offset_minute = signed_by (is_negative s) (pos v) }) a b x y p.0 q.0 m k p.1.0 q.1.0 e p.2 q.2

syntax_once : (check_ranges : Bool) (p : Place) (n : Numbers) (a b x y : List ℕ) (m k : Numbers)
    → PlaceSyntax check_ranges p n a x m → PlaceSyntax check_ranges p n b y k
    → a ++ x ≡ b ++ y
    → (x ≡ y) × (m ≡ k)
syntax_once check_ranges WeekdayName n a b x y m k p q e =
    let is = weekday_part_one a b x y p.0 q.0 p.1 q.1 e in
    (is.0, p.2 ∙ ap (λ v. record n { weekday = v }) is.1 ∙ sym q.2)
syntax_once check_ranges Day n a b x y m k p q e = run_says 1 2 (λ v. record n { day = v }) a b x y p.0 q.0 m k p.1 q.1 e p.3 q.3
syntax_once check_ranges DayBlanks n a b x y m k p q e = blanks_one cfws n a b x y m k p q e
syntax_once check_ranges MonthName n a b x y m k p q e =
    let is = month_one a b x y p.0 q.0 p.1 q.1 e in
    (is.0, p.2 ∙ ap (λ v. record n { month = v }) is.1 ∙ sym q.2)
syntax_once check_ranges MonthBlanks n a b x y m k p q e = blanks_one cfws n a b x y m k p q e
syntax_once check_ranges Year n a b x y m k p q e = year_one n a b x y p.0 q.0 p.1 q.1 m k p.2 q.2 e p.3 q.3
syntax_once check_ranges YearBlanks n a b x y m k p q e = blanks_one (year_blanks n.year_is_full) n a b x y m k p q e
syntax_once check_ranges Hour n a b x y m k p q e = run_says 2 2 (λ v. record n { hour = v }) a b x y p.0 q.0 m k p.1.0 q.1.0 e p.2 q.2
syntax_once check_ranges HourColon n a b x y m k p q e = blanks_one opt_cfws_colon_opt_cfws n a b x y m k p q e
syntax_once check_ranges Minute n a b x y m k p q e = run_says 2 2 (λ v. record n { minute = v }) a b x y p.0 q.0 m k p.1.0 q.1.0 e p.2 q.2
syntax_once check_ranges Second n a b x y m k p q e =
    let is = second_one check_ranges a b x y p.0 q.0 p.1 q.1 e in
    (is.0, p.2 ∙ ap (λ v. record n { second = v }) is.1 ∙ sym q.2)
syntax_once check_ranges TimeBlanks n a b x y m k p q e = blanks_one cfws n a b x y m k p q e
syntax_once check_ranges OffsetHour n a b x y m k p q e = hour_one check_ranges n a b x y m k p q e
syntax_once check_ranges OffsetMinute n a b x y m k p q e = minute_one check_ranges n.offset_sign n a b x y m k p q e
syntax_once check_ranges EndBlanks n a b x y m k p q e = blanks_one opt_cfws n a b x y m k p q e

-- each place of a mail date matches at most one prefix
pub MailAsks-unique : (check_ranges : Bool) → AtMostOneEach (PlaceSyntax check_ranges)
MailAsks-unique check_ranges p n input x y m k s t = syntax_once check_ranges p n s.0 t.0 x y m k s.2 t.2 (sym s.1 ∙ t.1)
