-- Months and weekdays are determined by their numbers.
use Rattle.std.specs.Int.{IsInRange}
use Rattle.std.specs.Int.Signed.{le_z}
use Rattle.std.proofs.Common.{◌≡◌, ℕ, zero, suc, ◌-◌, ◌<◌, Bool, true, ◌&&◌, T, inl, inr, arith, eq-zero-or-pos, ◌+◌, ◌*◌, ◌/◌, ◌%◌, eqb, List, [], ◌∷◌, length, get_or, eqb→eq, refl, sym, ap, ◌∙◌, rules, ◌≤◌, subst, ℤ, pos, ◌+ℤ◌, ◌-ℤ◌, Option, Some, None, Ok, Err}
use Rattle.std.proofs.lemmas.Bool.Decides.{nat_tests}
use Rattle.std.proofs.lemmas.Int.{ints}
use lib.Ieee.Fits.{and_l, and_r}
use native.Mathlib.Numerals.{unary_clauses}
use Rattle.time_values.specs.declared.digits.TheConstants.{PAIRS}
use Rattle.time_values.specs.declared.month.Month.{Month}
use Rattle.time_values.specs.declared.month.Month.TheVariants.{January, February, March, April, May, June, July, August, September, October, November, December}
use Rattle.time_values.specs.declared.weekday.Weekday.{Weekday}
use Rattle.time_values.specs.declared.weekday.Weekday.TheVariants.{Monday, Tuesday, Wednesday, Thursday, Friday, Saturday, Sunday}
use Rattle.time_values.specs.Names.{month_at, month_number, days_from_monday, weekday_at}
use Rattle.time_values.specs.declared.date.Date.{Date}
use Rattle.time_values.specs.declared.month.TheConstants.{MARCH}
use Rattle.time_values.specs.March.{march_days, march_year}
use Rattle.time_values.specs.Calendar.{years_before, days_of_months, leap_day, greatest_year}
use Rattle.time_values.specs.Dates.{day_number}
use Rattle.time_values.specs.declared.error.ComponentRange.{ComponentRange}
use Rattle.time_values.specs.Refusal.{Refusal, Constructs, refusal_of_range}
use Rattle.time_values.specs.DisplayTexts.{significant}
use Rattle.time_values.proofs.YearLemmas.{days_of_years_closed, year_start-next, year_length-leap_day, days_of_months_closed}

-- ---- Tables of numbers, tested at each index

-- the test holds for each number below n
abbrev pub all_below : (ℕ → Bool) → ℕ → Bool
all_below P zero = true
all_below P (suc p) = P p && all_below P p

pub at_below : (P : ℕ → Bool) (n p : ℕ) → T (all_below P n) → p < n → T (P p)
at_below P zero p t h = absurd (omega arith)
at_below P (suc n) p t h =
    elim (eq-zero-or-pos (n - p)) [
      | inl z ↦ let e : p ≡ n = omega arith in rw e (and_l _ (all_below P n) t)
      | inr g ↦ at_below P n p (and_r _ (all_below P n) t) (omega arith)
    ]

-- ---- Digits, two at a time

abbrev is_pair : ℕ → Bool
is_pair p = eqb (get_or PAIRS p 0) (48 + p / 10 + 256 * (48 + p % 10))

pub pairs_at : (p : ℕ) → p < 100 → get_or PAIRS p 0 ≡ 48 + p / 10 + 256 * (48 + p % 10)
pairs_at p h = eqb→eq _ _ (at_below is_pair 100 p tt h)

-- a list of two, by its elements
pub two : (xs : List ℕ) → length xs ≡ 2 → xs ≡ get_or xs 0 0 ∷ get_or xs 1 0 ∷ []
two [] is = absurd (omega arith)
two (x ∷ []) is = absurd (omega arith)
two (x ∷ y ∷ []) is = refl
two (x ∷ y ∷ z ∷ more) is = absurd (omega arith)

pub month_at-month_number : (m : Month) → month_at (month_number m) ≡ m
month_at-month_number January = refl
month_at-month_number February = refl
month_at-month_number March = refl
month_at-month_number April = refl
month_at-month_number May = refl
month_at-month_number June = refl
month_at-month_number July = refl
month_at-month_number August = refl
month_at-month_number September = refl
month_at-month_number October = refl
month_at-month_number November = refl
month_at-month_number December = refl

-- months with one number are equal
pub same_month : (a b : Month) → month_number a ≡ month_number b → a ≡ b
same_month a b e = sym (month_at-month_number a) ∙ ap month_at e ∙ month_at-month_number b

pub month_number_in : (m : Month) → IsInRange 1 12 (month_number m)
month_number_in January = search rules
month_number_in February = search rules
month_number_in March = search rules
month_number_in April = search rules
month_number_in May = search rules
month_number_in June = search rules
month_number_in July = search rules
month_number_in August = search rules
month_number_in September = search rules
month_number_in October = search rules
month_number_in November = search rules
month_number_in December = search rules

pub weekday_at-days_from_monday : (w : Weekday) → weekday_at (days_from_monday w) ≡ w
weekday_at-days_from_monday Monday = refl
weekday_at-days_from_monday Tuesday = refl
weekday_at-days_from_monday Wednesday = refl
weekday_at-days_from_monday Thursday = refl
weekday_at-days_from_monday Friday = refl
weekday_at-days_from_monday Saturday = refl
weekday_at-days_from_monday Sunday = refl

-- weekdays with one number are equal
pub same_weekday : (a b : Weekday) → days_from_monday a ≡ days_from_monday b → a ≡ b
same_weekday a b e = sym (weekday_at-days_from_monday a) ∙ ap weekday_at e ∙ weekday_at-days_from_monday b

pub days_from_monday_in : (w : Weekday) → days_from_monday w < 7
days_from_monday_in Monday = search rules
days_from_monday_in Tuesday = search rules
days_from_monday_in Wednesday = search rules
days_from_monday_in Thursday = search rules
days_from_monday_in Friday = search rules
days_from_monday_in Saturday = search rules
days_from_monday_in Sunday = search rules

-- ---- Years that begin in March

-- the table, at the index of each month from 0
abbrev is_equal : ℤ → ℤ → Bool
is_equal x y = le_z x y && le_z y x

is_equal→eq : (x y : ℤ) → T (is_equal x y) → x ≡ y
is_equal→eq x y h = grind (arith, ints)

abbrev is_march_day : ℕ → Bool
is_march_day p = is_equal (get_or MARCH p (pos 0)) (pos (march_days (suc p)) -ℤ pos 365_998_494)

pub march_days_at : (m : ℕ) → 1 ≤ m → m ≤ 12 → get_or MARCH (m - 1) (pos 0) ≡ pos (march_days m) -ℤ pos 365_998_494
march_days_at m l h =
    let e : suc (m - 1) ≡ m = omega arith in
    let at = is_equal→eq _ _ (at_below is_march_day 12 (m - 1) tt (omega arith)) in
    subst (λ (k : ℕ). get_or MARCH (m - 1) (pos 0) ≡ pos (march_days k) -ℤ pos 365_998_494) e at

pub march_days_in : (m : ℕ) → m ≤ 12 → march_days m ≤ 337
march_days_in m h = grind (arith, nat_tests)

abbrev is_march_year : ℕ → Bool
is_march_year p = is_equal (get_or MARCH (p + 12) (pos 0)) (pos (1_000_099 + march_year (suc p)))

pub march_years_at : (m : ℕ) → 1 ≤ m → m ≤ 12 → get_or MARCH (m - 1 + 12) (pos 0) ≡ pos (1_000_099 + march_year m)
march_years_at m l h =
    let e : suc (m - 1) ≡ m = omega arith in
    let at = is_equal→eq _ _ (at_below is_march_year 12 (m - 1) tt (omega arith)) in
    subst (λ (k : ℕ). get_or MARCH (m - 1 + 12) (pos 0) ≡ pos (1_000_099 + march_year k)) e at

pub march_year_in : (m : ℕ) → march_year m ≤ 1
march_year_in m = grind (arith, nat_tests)

-- a day number from the years and days since March
pub days_by_march : (d : Date) (years before : ℕ)
    → years ≡ years_before greatest_year d.year + march_year (month_number d.month)
    → before ≡ march_days (month_number d.month)
    → day_number greatest_year d + 307 ≡ 1461 * years / 4 - years / 100 + years / 100 / 4 + before + d.day
days_by_march d years before e f =
    let Y = greatest_year in
    let y = d.year in
    let m = month_number d.month in
    let n = years_before Y y in
    let inside = month_number_in d.month in
    let months = days_of_months_closed y (m - 1) (omega arith) in
    elim (eq-zero-or-pos (m - 2)) [
      | inl z ↦
          let same : years ≡ n = grind (arith, nat_tests) in
          let early : before ≡ 275 + 31 * m = grind (arith, nat_tests) in
          let place : days_of_months y (m - 1) ≡ 31 * (m - 1) = grind (arith, nat_tests) in
          omega (arith, d.day_in, same, early, place, inside, days_of_years_closed Y n refl)
      | inr g ↦
          let later : years ≡ suc n = grind (arith, nat_tests) in
          let late : before ≡ (153 * m - 457) / 5 = grind (arith, nat_tests) in
          let place : days_of_months y (m - 1) ≡ (153 * (m - 1) - 304) / 5 + 59 + leap_day y = grind (arith, nat_tests) in
          let next = year_start-next Y y (y +ℤ pos 1) d.year_in.0 refl in
          let after : years_before Y (y +ℤ pos 1) ≡ suc n = omega (arith, ints) in
          omega (
            arith,
            d.day_in,
            later,
            late,
            place,
            inside,
            rw after at next,
            year_length-leap_day y,
            days_of_years_closed Y n refl,
            days_of_years_closed Y (suc n) refl,
          )
    ]

-- ---- The results of a call that may return an error

-- it returns a value if nothing is rejected
pub Constructs-Ok : {A : Type 0} (o : Option Refusal) (P : A → Type 0) (v : A) → Constructs o P (Ok v) → (o ≡ None) × P v
Constructs-Ok None P v h = (refl, h)
Constructs-Ok (Some r) P v h = absurd h

-- and an error if something is
pub Constructs-Err : {A : Type 0} (o : Option Refusal) (P : A → Type 0) (e : ComponentRange) → Constructs o P (Err e) → o ≡ Some (refusal_of_range e)
Constructs-Err None P e h = absurd h
Constructs-Err (Some r) P e h = ap Some (sym h)

-- another value takes its place
pub Constructs-map : {A B : Type 0} (o : Option Refusal) (P : A → Type 0) (Q : B → Type 0) (v : A) (w : B) → (P v → Q w) → Constructs o P (Ok v)
    → Constructs o Q (Ok w)
Constructs-map None P Q v w f h = f h
Constructs-map (Some r) P Q v w f h = absurd h

-- ---- Zeros at the end of digits

-- a zero at the end doesn't count
pub significant-zero : (k n : ℕ) → 0 < k → n % 10 ≡ 0 → significant k n ≡ significant (k - 1) (n / 10)
unfolding significant
significant-zero zero n more digit = search rules
significant-zero (suc k) n more digit = simp unary_clauses (rw (digit) refl)

-- if the last digit isn't 0, all count
pub significant-digit : (k n : ℕ) → ¬ (n % 10 ≡ 0) → significant k n ≡ k
unfolding significant
significant-digit zero n digit = refl
significant-digit (suc k) n digit = search rules

-- if there are no digits, none counts
pub significant-none : (k n : ℕ) → k ≡ 0 → significant k n ≡ k
unfolding significant
significant-none zero n none = refl
significant-none (suc k) n none = search rules

-- three zeros at the end, six, and nine
pub significant_thousand : (n : ℕ) → n % 1000 ≡ 0 → significant 9 n ≡ significant 6 (n / 1000)
significant_thousand n zeros =
    significant-zero 9 n (omega arith) (omega (arith, zeros))
    ∙ significant-zero 8 (n / 10) (omega arith) (omega (arith, zeros))
    ∙ significant-zero 7 (n / 10 / 10) (omega arith) (omega (arith, zeros))
    ∙ ap (λ i. significant 6 i) (omega arith)

pub significant_million : (n : ℕ) → n % 1_000_000 ≡ 0 → significant 9 n ≡ significant 3 (n / 1_000_000)
significant_million n zeros =
    significant_thousand n (omega (arith, zeros))
    ∙ significant-zero 6 (n / 1000) (omega arith) (omega (arith, zeros))
    ∙ significant-zero 5 (n / 1000 / 10) (omega arith) (omega (arith, zeros))
    ∙ significant-zero 4 (n / 1000 / 10 / 10) (omega arith) (omega (arith, zeros))
    ∙ ap (λ i. significant 3 i) (omega arith)

pub significant_nothing : (n : ℕ) → n ≡ 0 → significant 9 n ≡ significant 0 0
significant_nothing n none =
    ap (λ i. significant 9 i) none ∙ significant_million 0 refl ∙ significant-zero 3 0 (omega arith) refl
    ∙ significant-zero 2 0 (omega arith) refl ∙ significant-zero 1 0 (omega arith) refl
