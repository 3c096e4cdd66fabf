-- Values of the Gregorian calendar and of ISO 8601, so that a wrong rule in the definitions fails the check. Facts that depend on the range of years are proved
-- for the years to 9999 and to 999999.
use Rattle.std.proofs.Common.{◌≡◌, ℕ, ◌+◌, ◌%◌, true, false, ◌==◌, map, [], ◌∷◌, Decides, refl, sym, ap, subst, ◌∙◌, inr, arith, codes, ℤ, pos, neg_ℤ}
use Rattle.std.proofs.lemmas.Bool.{false≢true}
use Rattle.std.proofs.lemmas.Bool.Decides.{not_from_Decides}
use Rattle.std.proofs.lemmas.Int.{ints}
use Rattle.time_values.specs.declared.date.Date.{Date}
use Rattle.time_values.specs.declared.month.Month.TheVariants.{January, February, March, September, December}
use Rattle.time_values.specs.declared.time.Time.{Time}
use Rattle.time_values.specs.declared.utc_offset.UtcOffset.{UtcOffset}
use Rattle.time_values.specs.Calendar.{IsIsoWeek, day_limit, is_leap_year, iso_weeks_in, month_length, weekday_of}
use Rattle.time_values.specs.Dates.{IsDateWithin, IsIsoDate, IsIsoDateRefusal, day_number, weekday, weekdays_so_far}
use Rattle.time_values.specs.Instants.{IsInstant, IsLeapSecondMoment, IsLastNanosecondOfMonth, clock_nanos, instant}
use Rattle.time_values.specs.Refusal.{range}
use Rattle.time_values.proofs.CalendarTests.{clock_is, date, day, day_is, decide_eq, has_iso_week_decided, instant_decided, is_iso_week}
use Rattle.time_values.proofs.CalendarTests.{iso_date_decided, iso_day_decided, iso_week_decided, iso_weeks_is, limit_is, moment_is, offset, time}
use Rattle.time_values.proofs.CalendarTests.{weekdays_is}
use Rattle.time_values.proofs.InstantLemmas.{clock_nanos_within, day_number_within, same_iso_day, same_moment_within}

-- ---- Dates and times

abbrev pub y1970-01-01 : Date
y1970-01-01 = date (pos 1970) January 1 refl

abbrev pub y2000-01-01 : Date
y2000-01-01 = date (pos 2000) January 1 refl

abbrev pub y2018-01-01 : Date
y2018-01-01 = date (pos 2018) January 1 refl

abbrev pub y2018-01-07 : Date
y2018-01-07 = date (pos 2018) January 7 refl

abbrev pub y2018-01-08 : Date
y2018-01-08 = date (pos 2018) January 8 refl

abbrev pub y2008-12-29 : Date
y2008-12-29 = date (pos 2008) December 29 refl

abbrev pub y2010-01-03 : Date
y2010-01-03 = date (pos 2010) January 3 refl

abbrev pub y2021-01-04 : Date
y2021-01-04 = date (pos 2021) January 4 refl

abbrev pub y2024-02-29 : Date
y2024-02-29 = date (pos 2024) February 29 refl

abbrev pub y2024-03-01 : Date
y2024-03-01 = date (pos 2024) March 1 refl

abbrev pub y9999-12-31 : Date
y9999-12-31 = date (pos 9999) December 31 refl

abbrev pub y10000-01-01 : Date
y10000-01-01 = date (pos 10_000) January 1 refl

abbrev pub midnight : Time
midnight = time 0 0 0 0 refl

abbrev pub last_nanosecond : Time
last_nanosecond = time 23 59 59 999_999_999 refl

abbrev pub utc : UtcOffset
utc = offset (pos 0) (pos 0) (pos 0) refl

abbrev pub hour_ahead : UtcOffset
hour_ahead = offset (pos 1) (pos 0) (pos 0) refl

-- numbers that differ
unequal : (a b : ℕ) → (a == b) ≡ false → a ≡ b → ⊥
unequal a b e = not_from_Decides (a == b) (decide_eq a b) e

-- a value that differs from another one
other : (a b c : ℕ) → a ≡ b → (b == c) ≡ false → a ≡ c → ⊥
other a b c e differs h = unequal b c differs (sym e ∙ h)

-- ---- Years and months

-- of the centuries only every fourth has a leap year, before the year 0 too
pub leap_years : map is_leap_year (pos 1900 ∷ pos 2000 ∷ pos 2023 ∷ pos 2024 ∷ pos 0 ∷ neg_ℤ (pos 4) ∷ neg_ℤ (pos 100) ∷ [])
    ≡ false ∷ true ∷ false ∷ true ∷ true ∷ true ∷ false ∷ []
leap_years = refl

pub no_leap_years : (is_leap_year (pos 1900) ≡ true → ⊥) × (is_leap_year (pos 2023) ≡ true → ⊥) × (is_leap_year (neg_ℤ (pos 100)) ≡ true → ⊥)
no_leap_years = (false≢true, false≢true, false≢true)

pub month_lengths : map (month_length (pos 2024)) (1 ∷ 2 ∷ 3 ∷ 4 ∷ 5 ∷ 6 ∷ 7 ∷ 8 ∷ 9 ∷ 10 ∷ 11 ∷ 12 ∷ [])
    ≡ 31 ∷ 29 ∷ 31 ∷ 30 ∷ 31 ∷ 30 ∷ 31 ∷ 31 ∷ 30 ∷ 31 ∷ 30 ∷ 31 ∷ []
month_lengths = refl

pub no_month_lengths : (month_length (pos 1900) 2 ≡ 29 → ⊥) × (month_length (pos 2024) 4 ≡ 31 → ⊥) × (month_length (pos 2023) 12 ≡ 30 → ⊥)
no_month_lengths = (unequal 28 29 refl, unequal 30 31 refl, unequal 31 30 refl)

-- ---- Day numbers and weekdays

pub days_to_9999 : (day_number 9_999 (date (neg_ℤ (pos 9_999)) January 1 refl) ≡ 0) × (day_number 9_999 y1970-01-01 ≡ 4_371_587)
    × (day_number 9_999 y2024-02-29 ≡ 4_391_369) × (day_number 9_999 y9999-12-31 ≡ 7_304_483) × (day_limit 9_999 ≡ 7_304_484)
days_to_9999 = (
  day_is 9_999 refl (date (neg_ℤ (pos 9_999)) January 1 refl),
  day_is 9_999 refl y1970-01-01,
  day_is 9_999 refl y2024-02-29,
  day_is 9_999 refl y9999-12-31,
  limit_is 9_999 refl,
)

pub days_to_999999 : (day_number 999_999 (date (neg_ℤ (pos 999_999)) January 1 refl) ≡ 0) × (day_number 999_999 y1970-01-01 ≡ 365_961_662)
    × (day_number 999_999 y2024-02-29 ≡ 365_981_444) × (day_number 999_999 y10000-01-01 ≡ 368_894_559) × (day_limit 999_999 ≡ 730_484_634)
days_to_999999 = (
  day_is 999_999 refl (date (neg_ℤ (pos 999_999)) January 1 refl),
  day_is 999_999 refl y1970-01-01,
  day_is 999_999 refl y2024-02-29,
  day_is 999_999 refl y10000-01-01,
  limit_is 999_999 refl,
)

-- 1 March comes after the leap day, days are counted from the first year, and 10000 begins a day later
pub not_those_days : (day_number 9_999 y2024-03-01 ≡ 4_391_369 → ⊥) × (day_number 9_999 y1970-01-01 ≡ 0
    → ⊥) × (day_number 999_999 y9999-12-31 ≡ 368_894_559 → ⊥)
not_those_days = (
  other _ _ _ (day_is 9_999 refl y2024-03-01) refl,
  other _ _ _ (day_is 9_999 refl y1970-01-01) refl,
  other _ _ _ (day_is 999_999 refl y9999-12-31) refl,
)

-- a Thursday, a Saturday, a Thursday and a Friday
pub weekdays_to_9999 : (weekday 9_999 y1970-01-01 ≡ 3) × (weekday 9_999 y2000-01-01 ≡ 5) × (weekday 9_999 y2024-02-29 ≡ 3) × (weekday 9_999 y9999-12-31 ≡ 4)
weekdays_to_9999 = (
  ap weekday_of (day_is 9_999 refl y1970-01-01),
  ap weekday_of (day_is 9_999 refl y2000-01-01),
  ap weekday_of (day_is 9_999 refl y2024-02-29),
  ap weekday_of (day_is 9_999 refl y9999-12-31),
)

pub weekdays_to_999999 : (weekday 999_999 y1970-01-01 ≡ 3) × (weekday 999_999 y2000-01-01 ≡ 5) × (weekday 999_999 y2024-02-29
    ≡ 3) × (weekday 999_999 y9999-12-31 ≡ 4)
weekdays_to_999999 = (
  ap weekday_of (day_is 999_999 refl y1970-01-01),
  ap weekday_of (day_is 999_999 refl y2000-01-01),
  ap weekday_of (day_is 999_999 refl y2024-02-29),
  ap weekday_of (day_is 999_999 refl y9999-12-31),
)

-- the epoch isn't a Monday, 2000 didn't begin on a Sunday, and 1 March 2024 wasn't a Thursday
pub not_those_weekdays : (weekday 9_999 y1970-01-01 ≡ 0 → ⊥) × (weekday 9_999 y2000-01-01 ≡ 6 → ⊥) × (weekday 999_999 y2024-03-01 ≡ 3 → ⊥)
not_those_weekdays = (
  other _ _ _ (ap weekday_of (day_is 9_999 refl y1970-01-01)) refl,
  other _ _ _ (ap weekday_of (day_is 9_999 refl y2000-01-01)) refl,
  other _ _ _ (ap weekday_of (day_is 999_999 refl y2024-03-01)) refl,
)

-- ---- Weeks

-- 2018 began on a Monday: its first Sunday is the 7th, and its second Monday the 8th
pub weeks_of_2018 : (weekdays_so_far 9_999 6 y2018-01-01 ≡ 0) × (weekdays_so_far 9_999 6 y2018-01-07 ≡ 1) × (weekdays_so_far 9_999 6 y2018-01-08 ≡ 1)
    × (weekdays_so_far 9_999 0 y2018-01-01 ≡ 1) × (weekdays_so_far 9_999 0 y2018-01-07 ≡ 1) × (weekdays_so_far 9_999 0 y2018-01-08 ≡ 2)
weeks_of_2018 = (
  weekdays_is 9_999 refl 6 y2018-01-01 (omega arith),
  weekdays_is 9_999 refl 6 y2018-01-07 (omega arith),
  weekdays_is 9_999 refl 6 y2018-01-08 (omega arith),
  weekdays_is 9_999 refl 0 y2018-01-01 (omega arith),
  weekdays_is 9_999 refl 0 y2018-01-07 (omega arith),
  weekdays_is 9_999 refl 0 y2018-01-08 (omega arith),
)

pub weeks_of_2018_to_999999 : (weekdays_so_far 999_999 6 y2018-01-08 ≡ 1) × (weekdays_so_far 999_999 0 y2018-01-08 ≡ 2)
weeks_of_2018_to_999999 = (weekdays_is 999_999 refl 6 y2018-01-08 (omega arith), weekdays_is 999_999 refl 0 y2018-01-08 (omega arith))

-- the days before the first Sunday are week 0, and Sundays aren't counted as Mondays are
pub not_those_weeks : (weekdays_so_far 9_999 6 y2018-01-01 ≡ 1 → ⊥) × (weekdays_so_far 9_999 6 y2018-01-08 ≡ 2
    → ⊥) × (weekdays_so_far 999_999 0 y2018-01-07 ≡ 2 → ⊥)
not_those_weeks = (
  other _ _ _ (weekdays_is 9_999 refl 6 y2018-01-01 (omega arith)) refl,
  other _ _ _ (weekdays_is 9_999 refl 6 y2018-01-08 (omega arith)) refl,
  other _ _ _ (weekdays_is 999_999 refl 0 y2018-01-07 (omega arith)) refl,
)

-- the ISO week of a date
week_decided : (Y : ℕ) (whole : (Y + 1) % 400 ≡ 0) (d : Date) (y : ℤ) (week : ℕ)
    → Decides (is_iso_week Y (day Y d) y week) (IsIsoWeek Y (day_number Y d) y week)
week_decided Y whole d y week = rw (day_is Y whole d) (iso_week_decided Y whole (day Y d) y week)

-- 2008-12-29 is in week 1 of 2009, 2010-01-03 in week 53 of 2009, and 2021-01-04 in week 1 of its year
pub iso_weeks : IsIsoWeek 9_999 (day_number 9_999 y2008-12-29) (pos 2009) 1 × IsIsoWeek 9_999 (day_number 9_999 y2010-01-03) (pos 2009) 53
    × IsIsoWeek 9_999 (day_number 9_999 y2021-01-04) (pos 2021) 1 × IsIsoWeek 999_999 (day_number 999_999 y2008-12-29) (pos 2009) 1
    × IsIsoWeek 999_999 (day_number 999_999 y2010-01-03) (pos 2009) 53 × IsIsoWeek 999_999 (day_number 999_999 y2021-01-04) (pos 2021) 1
iso_weeks = (
  (week_decided 9_999 refl y2008-12-29 (pos 2009) 1).0 refl,
  (week_decided 9_999 refl y2010-01-03 (pos 2009) 53).0 refl,
  (week_decided 9_999 refl y2021-01-04 (pos 2021) 1).0 refl,
  (week_decided 999_999 refl y2008-12-29 (pos 2009) 1).0 refl,
  (week_decided 999_999 refl y2010-01-03 (pos 2009) 53).0 refl,
  (week_decided 999_999 refl y2021-01-04 (pos 2021) 1).0 refl,
)

-- the first two are in no week of the year of their date, and the third isn't in week 2
pub not_those_iso_weeks : (IsIsoWeek 9_999 (day_number 9_999 y2008-12-29) (pos 2008) 53 → ⊥)
    × (IsIsoWeek 9_999 (day_number 9_999 y2010-01-03) (pos 2010) 1 → ⊥)
    × (IsIsoWeek 999_999 (day_number 999_999 y2021-01-04) (pos 2021) 2 → ⊥)
not_those_iso_weeks = (
  not_from_Decides _ (week_decided 9_999 refl y2008-12-29 (pos 2008) 53) refl,
  not_from_Decides _ (week_decided 9_999 refl y2010-01-03 (pos 2010) 1) refl,
  not_from_Decides _ (week_decided 999_999 refl y2021-01-04 (pos 2021) 2) refl,
)

-- 2009 has 53 weeks, 2010 and 9999 have 52
pub iso_week_counts : (iso_weeks_in 9_999 (pos 2009) ≡ 53) × (iso_weeks_in 999_999 (pos 2010) ≡ 52) × (iso_weeks_in 9_999 (pos 9_999) ≡ 52)
iso_week_counts = (iso_weeks_is 9_999 refl (pos 2009), iso_weeks_is 999_999 refl (pos 2010), iso_weeks_is 9_999 refl (pos 9_999))

-- ---- Dates of an ISO year, week and weekday at the ends of the range of years

pub iso_dates : IsIsoDate 9_999 (pos 2009) 1 0 y2008-12-29 × IsIsoDate 9_999 (pos 2009) 53 6 y2010-01-03 × IsIsoDate 9_999 (pos 9_999) 52 4 y9999-12-31
iso_dates = (
  (iso_date_decided 9_999 refl (pos 2009) 1 0 y2008-12-29).0 refl,
  (iso_date_decided 9_999 refl (pos 2009) 53 6 y2010-01-03).0 refl,
  (iso_date_decided 9_999 refl (pos 9_999) 52 4 y9999-12-31).0 refl,
)

-- the year isn't that of the date, the weekday is the date's, and 2010 has no week 53
pub not_those_iso_dates : (IsIsoDate 9_999 (pos 2008) 53 0 y2008-12-29 → ⊥) × (IsIsoDate 9_999 (pos 2009) 53 0 y2010-01-03 → ⊥)
    × (IsIsoDate 9_999 (pos 2010) 53 6 y2010-01-03 → ⊥)
not_those_iso_dates = (
  not_from_Decides _ (iso_date_decided 9_999 refl (pos 2008) 53 0 y2008-12-29) refl,
  not_from_Decides _ (iso_date_decided 9_999 refl (pos 2009) 53 0 y2010-01-03) refl,
  not_from_Decides _ (iso_date_decided 9_999 refl (pos 2010) 53 6 y2010-01-03) refl,
)

-- 9999-W52-6 is 10000-01-01 in the wider range, and no date of the narrower one
pub saturday_after_9999 : IsIsoDate 999_999 (pos 9_999) 52 5 y10000-01-01 × (IsIsoDate 9_999 (pos 9_999) 52 5 y10000-01-01 → ⊥)
saturday_after_9999 = (
  (iso_date_decided 999_999 refl (pos 9_999) 52 5 y10000-01-01).0 refl,
  not_from_Decides _ (iso_date_decided 9_999 refl (pos 9_999) 52 5 y10000-01-01) refl,
)

pub no_saturday_after_9999 : (d : Date) → IsIsoDate 9_999 (pos 9_999) 52 5 d → ⊥
no_saturday_after_9999 d h =
    let there = (iso_day_decided 9_999 refl (pos 9_999) 52 5 7_304_484).0 refl in
    let same = same_iso_day 9_999 (pos 9_999) 52 5 (day_number 9_999 d) 7_304_484 h.1 there in
    omega (arith, same, day_number_within 9_999 d refl h.2, limit_is 9_999 refl)

pub saturday_after_9999_refused : IsIsoDateRefusal 9_999 (pos 9_999) 52 5 (range (codes "weekday") true)
saturday_after_9999_refused = inr (inr (
  (has_iso_week_decided 9_999 refl (pos 9_999) 52).0 refl,
  (7_304_484, (iso_day_decided 9_999 refl (pos 9_999) 52 5 7_304_484).0 refl, omega (arith, limit_is 9_999 refl)),
  refl,
))

-- and the wider range ends on a Friday too
pub no_saturday_after_999999 : (d : Date) → IsIsoDate 999_999 (pos 999_999) 52 5 d → ⊥
no_saturday_after_999999 d h =
    let there = (iso_day_decided 999_999 refl (pos 999_999) 52 5 730_484_634).0 refl in
    let same = same_iso_day 999_999 (pos 999_999) 52 5 (day_number 999_999 d) 730_484_634 h.1 there in
    omega (arith, same, day_number_within 999_999 d refl h.2, limit_is 999_999 refl)

pub saturday_after_999999_refused : IsIsoDateRefusal 999_999 (pos 999_999) 52 5 (range (codes "weekday") true)
saturday_after_999999_refused = inr (inr (
  (has_iso_week_decided 999_999 refl (pos 999_999) 52).0 refl,
  (730_484_634, (iso_day_decided 999_999 refl (pos 999_999) 52 5 730_484_634).0 refl, omega (arith, limit_is 999_999 refl)),
  refl,
))

-- ---- Instants

-- the epoch, the nanosecond before it, and the epoch in the local time of an hour ahead
pub instants : (instant 9_999 y1970-01-01 midnight utc ≡ pos 0)
    × (instant 9_999 (date (pos 1969) December 31 refl) last_nanosecond utc ≡ neg_ℤ (pos 1))
    × (instant 9_999 y1970-01-01 (time 1 0 0 0 refl) hour_ahead ≡ pos 0)
    × (instant 999_999 (date (pos 2001) September 9 refl) (time 1 46 40 0 refl) utc ≡ pos 1_000_000_000_000_000_000)
instants = (
  moment_is 9_999 refl y1970-01-01 midnight utc,
  moment_is 9_999 refl (date (pos 1969) December 31 refl) last_nanosecond utc,
  moment_is 9_999 refl y1970-01-01 (time 1 0 0 0 refl) hour_ahead,
  moment_is 999_999 refl (date (pos 2001) September 9 refl) (time 1 46 40 0 refl) utc,
)

-- a clock ahead of UTC shows a later time, so its midnight is before that of UTC
pub midnight_ahead_of_utc : instant 9_999 y1970-01-01 midnight hour_ahead ≡ neg_ℤ (pos 3_600_000_000_000)
midnight_ahead_of_utc = moment_is 9_999 refl y1970-01-01 midnight hour_ahead

pub midnight_of_2000 : instant 999_999 y2000-01-01 midnight utc ≡ pos 946_684_800_000_000_000
midnight_of_2000 = moment_is 999_999 refl y2000-01-01 midnight utc

pub not_those_instants : (instant 9_999 y1970-01-01 midnight hour_ahead ≡ pos 3_600_000_000_000 → ⊥)
    × (instant 9_999 y1970-01-01 midnight hour_ahead ≡ pos 0 → ⊥) × (instant 999_999 y2000-01-01 midnight utc ≡ pos 0 → ⊥)
not_those_instants = (
  λ h. omega (arith, ints, h, midnight_ahead_of_utc),
  λ h. omega (arith, ints, h, midnight_ahead_of_utc),
  λ h. omega (arith, ints, h, midnight_of_2000),
)

-- unix second 253402300800 is 10000-01-01 in the wider range, and outside the narrower one
pub second_after_9999 : (clock_nanos 999_999 y10000-01-01 midnight ≡ pos 253_402_300_800_000_000_000)
    × IsInstant 999_999 (pos 253_402_300_800_000_000_000) × (IsInstant 9_999 (pos 253_402_300_800_000_000_000) → ⊥)
second_after_9999 = (
  clock_is 999_999 refl y10000-01-01 midnight,
  (instant_decided 999_999 refl (pos 253_402_300_800_000_000_000)).0 refl,
  not_from_Decides _ (instant_decided 9_999 refl (pos 253_402_300_800_000_000_000)) refl,
)

-- the last nanosecond of 9999 is an instant of both ranges
pub last_nanosecond_of_9999 : IsInstant 9_999 (pos 253_402_300_799_999_999_999) × IsInstant 999_999 (pos 253_402_300_799_999_999_999)
last_nanosecond_of_9999 = (
  (instant_decided 9_999 refl (pos 253_402_300_799_999_999_999)).0 refl,
  (instant_decided 999_999 refl (pos 253_402_300_799_999_999_999)).0 refl,
)

-- the first midnight of -9999 at an offset of an hour is before the narrower range, and within the wider one
pub hour_before_first_year : (instant 9_999 (date (neg_ℤ (pos 9_999)) January 1 refl) midnight hour_ahead ≡ neg_ℤ (pos 377_705_120_400_000_000_000))
    × (IsInstant 9_999 (neg_ℤ (pos 377_705_120_400_000_000_000)) → ⊥) × IsInstant 999_999 (neg_ℤ (pos 377_705_120_400_000_000_000))
hour_before_first_year = (
  moment_is 9_999 refl (date (neg_ℤ (pos 9_999)) January 1 refl) midnight hour_ahead,
  not_from_Decides _ (instant_decided 9_999 refl (neg_ℤ (pos 377_705_120_400_000_000_000))) refl,
  (instant_decided 999_999 refl (neg_ℤ (pos 377_705_120_400_000_000_000))).0 refl,
)

-- ---- Leap seconds

-- the last nanosecond of 2016, and of 9999
pub leap_second_moments : IsLeapSecondMoment 9_999 (pos 1_483_228_799_999_999_999) × IsLeapSecondMoment 9_999 (pos 253_402_300_799_999_999_999)
    × IsLeapSecondMoment 999_999 (pos 253_402_300_799_999_999_999)
leap_second_moments = (
  (
    date (pos 2016) December 31 refl,
    last_nanosecond,
    clock_is 9_999 refl (date (pos 2016) December 31 refl) last_nanosecond,
    (refl, refl),
    omega (arith, ints),
  ),
  (y9999-12-31, last_nanosecond, clock_is 9_999 refl y9999-12-31 last_nanosecond, (refl, refl), omega (arith, ints)),
  (y9999-12-31, last_nanosecond, clock_is 999_999 refl y9999-12-31 last_nanosecond, (refl, refl), omega (arith, ints)),
)

-- a moment at another time of the day, or on another day, isn't one
not_at : (Y : ℕ) (n : ℤ) (d : Date) (t : Time) → (Y + 1) % 400 ≡ 0 → IsDateWithin Y d → clock_nanos Y d t ≡ n → (IsLastNanosecondOfMonth d t → ⊥)
    → IsLeapSecondMoment Y n → ⊥
not_at Y n d t whole within shown none (other_date, other_time, is, leap, inside) =
    let same = same_moment_within Y other_date d other_time t whole inside within (is ∙ sym shown) in
    none (subst (λ x. IsLastNanosecondOfMonth x t) same.0 (subst (λ x. IsLastNanosecondOfMonth other_date x) same.1 leap))

-- the nanosecond before it, the end of the day before, and the end of a morning
pub no_leap_second_moments : (IsLeapSecondMoment 9_999 (pos 1_483_228_799_999_999_998) → ⊥)
    × (IsLeapSecondMoment 9_999 (pos 1_483_142_399_999_999_999) → ⊥) × (IsLeapSecondMoment 999_999 (pos 43_199_999_999_999) → ⊥)
no_leap_second_moments = (
  not_at 9_999 _ (date (pos 2016) December 31 refl) (time 23 59 59 999_999_998 refl) refl (omega (arith, ints))
      (clock_is 9_999 refl (date (pos 2016) December 31 refl) (time 23 59 59 999_999_998 refl)) (λ h. omega (arith, h.0)),
  not_at 9_999 _ (date (pos 2016) December 30 refl) last_nanosecond refl (omega (arith, ints))
      (clock_is 9_999 refl (date (pos 2016) December 30 refl) last_nanosecond) (λ h. omega (arith, h.1)),
  not_at 999_999 _ y1970-01-01 (time 11 59 59 999_999_999 refl) refl (omega (arith, ints))
      (clock_is 999_999 refl y1970-01-01 (time 11 59 59 999_999_999 refl)) (λ h. omega (arith, h.0)),
)

-- 10000-01-31 ends a month, and its last nanosecond is outside the narrower range
pub month_end_after_9999 : IsLeapSecondMoment 999_999 (pos 253_404_979_199_999_999_999) × (IsLeapSecondMoment 9_999 (pos 253_404_979_199_999_999_999) → ⊥)
month_end_after_9999 = (
  (
    date (pos 10_000) January 31 refl,
    last_nanosecond,
    clock_is 999_999 refl (date (pos 10_000) January 31 refl) last_nanosecond,
    (refl, refl),
    omega (arith, ints),
  ),
  λ (d, t, is, leap, inside). not_from_Decides _ (instant_decided 9_999 refl (pos 253_404_979_199_999_999_999)) refl
      (subst (IsInstant 9_999) is (clock_nanos_within 9_999 d t refl inside)),
)
