-- The days of years in closed form. The premise on the greatest year Y is that 400 divides Y + 1.
use Rattle.std.specs.Int.{IsInRange}
use Rattle.std.proofs.Common.{◌≡◌, ℕ, zero, suc, ◌+◌, ◌-◌, ◌*◌, ◌/◌, ◌%◌, ◌<◌, ◌≤◌, refl, ap, arith, ℤ, pos, negsuc, neg_ℤ, ◌+ℤ◌, ◌-ℤ◌, ◌≤ℤ◌, ◌<ℤ◌, cond, nat_lt, None, unsigned_abs, sym, ◌∙◌, subst}
use Rattle.std.proofs.lemmas.Bool.Decides.{nat_tests}
use Rattle.std.proofs.lemmas.Int.{ints, by_lt_z}
use Rattle.time_values.specs.Calendar.{leap_day, year_length, days_of_years, years_before, year_start, day_limit, IsYear, month_length, days_of_months, ordinal_of, day_number, greatest_year, weekdays_in, thursday_of, IsIsoWeek, IsBetween}
use Rattle.time_values.specs.Dates.{IsIsoDay, HasIsoWeek}
use Rattle.time_values.specs.Offsets.{offset_refusal}
use Rattle.time_values.specs.Sign.{same_sign, HasOneSign}

-- the leap years among the years 1 to n
abbrev pub leaps : ℕ → ℕ
leaps n = n / 4 - n / 100 + n / 400

-- the rule repeats after 400 years
pub leap_day-shift : (y : ℤ) (n c : ℕ) → y +ℤ pos (400 * c) ≡ pos n → leap_day y ≡ leap_day (pos n)
leap_day-shift (pos a) n c e = let h : a + 400 * c ≡ n = omega (arith, ints) in grind (arith, nat_tests)
leap_day-shift (negsuc a) n c e = let h : n + suc a ≡ 400 * c = omega (arith, ints) in grind (arith, nat_tests)

pub year_length-leap_day : (y : ℤ) → year_length y ≡ 365 + leap_day y
year_length-leap_day y = grind arith

leaps-suc : (n : ℕ) → leaps (suc n) ≡ leaps n + leap_day (pos (suc n))
leaps-suc n = grind (arith, nat_tests)

-- the length of the year at an index of the range
pub year_length_at : (Y n : ℕ) → (Y + 1) % 400 ≡ 0 → year_length (pos n -ℤ pos Y) ≡ 365 + leap_day (pos (suc n))
year_length_at Y n h =
    let e : (pos n -ℤ pos Y) +ℤ pos (400 * ((Y + 1) / 400)) ≡ pos (suc n) = omega (arith, ints) in
    omega (arith, year_length-leap_day (pos n -ℤ pos Y), leap_day-shift (pos n -ℤ pos Y) (suc n) ((Y + 1) / 400) e)

-- the sum of the lengths of the first n years
pub days_of_years_closed : (Y n : ℕ) → (Y + 1) % 400 ≡ 0 → days_of_years Y n ≡ 365 * n + leaps n
unfolding days_of_years
days_of_years_closed Y zero h = refl
days_of_years_closed Y (suc n) h =
    omega (arith, days_of_years_closed Y n h, year_length_at Y n h, leaps-suc n)

-- the next year begins after the days of this one
pub year_start-next : (Y : ℕ) (y next : ℤ) → neg_ℤ (pos Y) ≤ℤ y → next ≡ y +ℤ pos 1 → year_start Y next ≡ year_start Y y + year_length y
unfolding days_of_years
year_start-next Y y next low e =
    let n = years_before Y y in
    let here : pos n -ℤ pos Y ≡ y = omega (arith, ints) in
    let there : years_before Y next ≡ suc n = omega (arith, ints) in
    rw there (rw here)

pub closed_mono : (n m : ℕ) → n ≤ m → 365 * n + leaps n ≤ 365 * m + leaps m
closed_mono n m h = omega arith

-- the first year begins at day 0
pub year_start_first : (Y : ℕ) → year_start Y (neg_ℤ (pos Y)) ≡ 0
unfolding days_of_years
year_start_first Y =
    let none : years_before Y (neg_ℤ (pos Y)) ≡ 0 = omega (arith, ints) in
    rw none

-- a year that begins after day 0 is after the first
pub year_after_first : (Y : ℕ) (y : ℤ) → IsYear Y y → 0 < year_start Y y → neg_ℤ (pos Y) <ℤ y
year_after_first Y y h lt =
    by_lt_z (neg_ℤ (pos Y)) y (λ later. later)
    (λ same. let e : y ≡ neg_ℤ (pos Y) = omega (arith, ints) in
    absurd (omega (arith, year_start_first Y, ap (year_start Y) e)))

-- each year ends within the range
pub year_end : (Y : ℕ) (y : ℤ) → (Y + 1) % 400 ≡ 0 → IsYear Y y → year_start Y y + year_length y ≤ day_limit Y
year_end Y y whole h =
    let n = years_before Y y in
    let next = year_start-next Y y (y +ℤ pos 1) h.0 refl in
    let after : years_before Y (y +ℤ pos 1) ≡ suc n = omega (arith, ints) in
    let high : suc n ≤ 2 * Y + 1 = omega (arith, ints) in
    omega (arith, rw after at next, days_of_years_closed Y (suc n) whole, days_of_years_closed Y (2 * Y + 1) whole, closed_mono (suc n) (2 * Y + 1) high)

-- and the last one ends at its end
pub year_end_last : (Y : ℕ) → (Y + 1) % 400 ≡ 0 → year_start Y (pos Y) + year_length (pos Y) ≡ day_limit Y
year_end_last Y whole =
    let next = year_start-next Y (pos Y) (pos Y +ℤ pos 1) (omega (arith, ints)) refl in
    let after : years_before Y (pos Y +ℤ pos 1) ≡ 2 * Y + 1 = omega (arith, ints) in
    omega (arith, rw after at next)

-- the last day is a Friday
pub day_limit-weekday : (Y : ℕ) → (Y + 1) % 400 ≡ 0 → day_limit Y % 7 ≡ 5
day_limit-weekday Y whole = omega (arith, days_of_years_closed Y (2 * Y + 1) whole)

pub year_end_at : (Y : ℕ) (y : ℤ) → (Y + 1) % 400 ≡ 0 → y ≡ pos Y → year_start Y y + year_length y ≡ day_limit Y
year_end_at Y y whole e = rw e (year_end_last Y whole)

-- the start of a year by its index in the range
pub year_start_at : (Y n : ℕ) (y : ℤ) → y +ℤ pos Y ≡ pos n → year_start Y y ≡ days_of_years Y n
year_start_at Y n y e = let is : years_before Y y ≡ n = omega (arith, ints) in rw is

-- years that begin within the range are its years
pub years_within : (Y n day : ℕ) → (Y + 1) % 400 ≡ 0 → 365 * n + leaps n ≤ day → day < day_limit Y → n ≤ 2 * Y
years_within Y n day whole low high = omega (arith, days_of_years_closed Y (2 * Y + 1) whole)

-- ---- The days of months in closed form

-- the days of the first n months, in closed form: months from March on take 30.6 days
abbrev pub months_closed : ℤ → ℕ → ℕ
months_closed y n = cond (nat_lt n 2) (31 * n) ((153 * n - 304) / 5 + 59 + leap_day y)

pub days_of_months_closed : (y : ℤ) (n : ℕ) → n < 13 → days_of_months y n ≡ months_closed y n
unfolding days_of_months
days_of_months_closed y zero h = grind arith
days_of_months_closed y (suc zero) h = grind arith
days_of_months_closed y (suc (suc zero)) h = grind arith
days_of_months_closed y (suc (suc (suc zero))) h = grind arith
days_of_months_closed y (suc (suc (suc (suc zero)))) h = grind arith
days_of_months_closed y (suc (suc (suc (suc (suc zero))))) h = grind arith
days_of_months_closed y (suc (suc (suc (suc (suc (suc zero)))))) h = grind arith
days_of_months_closed y (suc (suc (suc (suc (suc (suc (suc zero))))))) h = grind arith
days_of_months_closed y (suc (suc (suc (suc (suc (suc (suc (suc zero)))))))) h = grind arith
days_of_months_closed y (suc (suc (suc (suc (suc (suc (suc (suc (suc zero))))))))) h = grind arith
days_of_months_closed y (suc (suc (suc (suc (suc (suc (suc (suc (suc (suc zero)))))))))) h = grind arith
days_of_months_closed y (suc (suc (suc (suc (suc (suc (suc (suc (suc (suc (suc zero))))))))))) h = grind arith
days_of_months_closed y (suc (suc (suc (suc (suc (suc (suc (suc (suc (suc (suc (suc zero)))))))))))) h = grind arith
days_of_months_closed y (suc (suc (suc (suc (suc (suc (suc (suc (suc (suc (suc (suc (suc n))))))))))))) h = absurd (omega arith)

-- January
pub ordinal_january : (y : ℤ) (n : ℕ) → ordinal_of y 1 n ≡ n
ordinal_january y n = omega (arith, days_of_months_closed y 0 (omega arith))

-- February
pub ordinal_february : (y : ℤ) (n : ℕ) → 31 ≤ n → ordinal_of y 2 (n - 31) ≡ n
ordinal_february y n h = omega (arith, days_of_months_closed y 1 (omega arith))

-- and from March on, from the days k since 1 March
split_months : (k : ℕ) → k < 306 → (153 * ((5 * k + 461) / 153) - 457) / 5 + (5 * k + 461) % 153 / 5 ≡ k
split_months k h = omega arith

pub ordinal_late : (y : ℤ) (k : ℕ) → k < 306 → ordinal_of y ((5 * k + 461) / 153) ((5 * k + 461) % 153 / 5 + 1) ≡ 60 + leap_day y + k
ordinal_late y k h =
    let m = (5 * k + 461) / 153 in
    let e = days_of_months_closed y (m - 1) (omega arith) in
    let s = split_months k h in
    grind (arith, nat_tests)

pub day_late : (y : ℤ) (k : ℕ) → k < 306 → (5 * k + 461) % 153 / 5 + 1 ≤ month_length y ((5 * k + 461) / 153)
day_late y k h = grind (arith, nat_tests)

-- the day of the year of a day of a month is within the year
pub ordinal_within : (y : ℤ) (m d : ℕ) → IsInRange 1 12 m → IsInRange 1 (month_length y m) d → IsInRange 1 (year_length y) (ordinal_of y m d)
ordinal_within y m d h k =
    let e = days_of_months_closed y (m - 1) (omega arith) in
    grind (arith, nat_tests)

pub ruleset month_and_day_facts = (ordinal_january, ordinal_february, ordinal_late, day_late, year_length-leap_day)

-- ---- The first day and the last one

pub first_day : day_number greatest_year (neg_ℤ (pos greatest_year)) 1 1 ≡ 0
unfolding days_of_months
first_day = omega (arith, year_start_first greatest_year)

months_before_december : days_of_months (pos greatest_year) 11 ≡ 334
unfolding days_of_months
months_before_december = refl

last_year : year_length (pos greatest_year) ≡ 365
last_year = refl

pub last_day : day_number greatest_year (pos greatest_year) 12 31 + 1 ≡ day_limit greatest_year
last_day = omega (arith, year_end_last greatest_year refl, months_before_december, last_year)

-- ---- The counts of weekdays in closed form

-- the number of days below `first + n` with that weekday, less those below `first`
pub weekdays_in_closed : (w first n : ℕ) → w < 7 → weekdays_in w first n + (first + 6 - w) / 7 ≡ (first + n + 6 - w) / 7
unfolding weekdays_in
weekdays_in_closed w first zero h = omega arith
weekdays_in_closed w first (suc n) h =
    let before = weekdays_in_closed w first n h in
    grind (arith, nat_tests)

-- the week of a day whose Thursday is at that day of the year
pub iso_week_at : (Y : ℕ) (y : ℤ) (day p week : ℕ) → IsYear Y y → thursday_of day + 1 ≡ year_start Y y + p → 1 ≤ p → p ≤ year_length y → week ≡ (p + 6) / 7
    → IsIsoWeek Y day y week
iso_week_at Y y day p week year e low high w =
    let start = year_start Y y in
    let same : thursday_of day + 1 - start ≡ p = omega arith in
    let count = weekdays_in_closed 3 start p (omega arith) in
    (year, omega arith, omega arith, rw same (omega arith))

-- the number of Thursdays of a year, from the first Thursday
pub thursdays_from_first : (start length first : ℕ) → (start + first + 6) % 7 ≡ 3 → IsInRange 1 7 first → first ≤ length
    → weekdays_in 3 start length ≡ (length + 7 - first) / 7
thursdays_from_first start length first e h k =
    let count = weekdays_in_closed 3 start length (omega arith) in
    omega arith

-- the day of a week and weekday, from the year's first Thursday
pub iso_day_at : (Y : ℕ) (y : ℤ) (first week w day : ℕ) → IsYear Y y → (year_start Y y + first + 6) % 7 ≡ 3 → IsInRange 1 7 first → 1 ≤ week
    → week ≤ (year_length y + 7 - first) / 7 → w < 7 → day + 8 ≡ year_start Y y + (first + 7 * (week - 1) + 4 + w) → IsIsoDay Y y week w day
iso_day_at Y y first week w day year e h low high small is =
    let long = year_length-leap_day y in
    (iso_week_at Y y day (first + 7 * (week - 1)) week year (omega arith) (omega arith) (omega arith) (omega arith), omega arith)

-- and the year has that week
pub has_iso_week : (Y : ℕ) (y : ℤ) (first week : ℕ) → IsYear Y y → (year_start Y y + first + 6) % 7 ≡ 3 → IsInRange 1 7 first → 1 ≤ week
    → week ≤ (year_length y + 7 - first) / 7 → HasIsoWeek Y y week
has_iso_week Y y first week year e h low high =
    (year, omega (arith, thursdays_from_first (year_start Y y) (year_length y) first e h (omega (arith, year_length-leap_day y))))

-- ---- The offsets that are rejected

pub abs_within : (n : ℕ) (z : ℤ) → IsBetween (neg_ℤ (pos n)) (pos n) z → unsigned_abs z ≤ n
abs_within n (pos a) h = omega (arith, ints)
abs_within n (negsuc a) h = omega (arith, ints)

pub no_offset_refusal : (h m s : ℤ) → IsBetween (neg_ℤ (pos 25)) (pos 25) h → IsBetween (neg_ℤ (pos 59)) (pos 59) m → IsBetween (neg_ℤ (pos 59)) (pos 59) s
    → offset_refusal h m s ≡ None
no_offset_refusal h m s p q r =
    let a = abs_within 25 h p in
    let b = abs_within 59 m q in
    let c = abs_within 59 s r in
    grind (arith, nat_tests)

-- ---- Parts of one sign

-- negating a number keeps its magnitude
abs-neg : (n : ℕ) → unsigned_abs (neg_ℤ (pos n)) ≡ n
abs-neg zero = refl
abs-neg (suc n) = refl

abs-both_above : (k n : ℕ) → unsigned_abs (same_sign (pos k) (pos n)) ≡ n
abs-both_above zero n = refl
abs-both_above (suc k) n = refl

abs-both_below : (k n : ℕ) → unsigned_abs (same_sign (neg_ℤ (pos k)) (neg_ℤ (pos n))) ≡ n
abs-both_below zero n = abs-neg n
abs-both_below (suc k) n = ap (λ x. unsigned_abs (neg_ℤ (pos x))) (abs-neg n) ∙ abs-neg n

-- a number that has a sign keeps it
same_sign-again : (h m : ℤ) → same_sign h m ≡ same_sign h (same_sign h m)
same_sign-again (pos zero) m = refl
same_sign-again (pos (suc h)) m = refl
same_sign-again (negsuc h) m = ap (λ n. neg_ℤ (pos n)) (sym (abs-neg (unsigned_abs m)))

same_sign-last : (h m s : ℤ) → same_sign h (same_sign m s) ≡ same_sign h (same_sign (same_sign h m) (same_sign h (same_sign m s)))
same_sign-last (pos zero) m s = same_sign-again m s
same_sign-last (pos (suc h)) m s = ap pos (sym (abs-both_above (unsigned_abs m) (unsigned_abs (same_sign m s))))
same_sign-last (negsuc h) m s = ap (λ n. neg_ℤ (pos n)) (sym (abs-both_below (unsigned_abs m) (unsigned_abs (same_sign m s))))

-- so parts that took the sign of the first that is not 0 have one
pub signed-one : (h m s hours minutes seconds : ℤ) → hours ≡ h → minutes ≡ same_sign h m → seconds ≡ same_sign h (same_sign m s)
    → HasOneSign hours minutes seconds
signed-one h m s hours minutes seconds is_h is_m is_s =
    subst (λ x. HasOneSign x minutes seconds) (sym is_h) (subst (λ x. HasOneSign h x seconds) (sym is_m)
    (subst (λ x. HasOneSign h (same_sign h m) x) (sym is_s) (same_sign-again h m, same_sign-last h m s)))

-- and so have parts that are all at most 0
none_above : (h m s : ℕ) → HasOneSign (neg_ℤ (pos h)) (neg_ℤ (pos m)) (neg_ℤ (pos s))
none_above zero zero s = (refl, refl)
none_above zero (suc m) s = (refl, ap (λ n. neg_ℤ (pos n)) (sym (abs-neg s)))
none_above (suc h) m s = (ap (λ n. neg_ℤ (pos n)) (sym (abs-neg m)), ap (λ n. neg_ℤ (pos n)) (sym (abs-both_below m s)))

as_below : (z : ℤ) → z ≤ℤ pos 0 → neg_ℤ (pos (unsigned_abs z)) ≡ z
as_below (pos zero) h = refl
as_below (pos (suc n)) h = absurd (omega (arith, ints, h))
as_below (negsuc n) h = refl

pub below-one : (h m s : ℤ) → h ≤ℤ pos 0 → m ≤ℤ pos 0 → s ≤ℤ pos 0 → HasOneSign h m s
below-one h m s p q r =
    subst (λ h. HasOneSign h m s) (as_below h p) (subst (λ m. HasOneSign (neg_ℤ (pos (unsigned_abs h))) m s) (as_below m q)
    (subst (λ s. HasOneSign (neg_ℤ (pos (unsigned_abs h))) (neg_ℤ (pos (unsigned_abs m))) s) (as_below s r)
    (none_above (unsigned_abs h) (unsigned_abs m) (unsigned_abs s))))
