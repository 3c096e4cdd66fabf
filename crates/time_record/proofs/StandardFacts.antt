-- Values by the precedence of a record's components, so that a wrong rule in the definitions fails the check. Facts that depend on the range of years are
-- proved for the years to 9999 and to 999999.
use Rattle.std.proofs.Common.{◌≡◌, ℕ, ◌+◌, ◌%◌, ◌<◌, Bool, true, false, ◌&&◌, ◌==◌, Decides, Some, None, Ok, Err, refl, ap, arith, codes, ℤ, pos}
use Rattle.std.proofs.Common.{neg_ℤ, if◌then◌else◌}
use Rattle.std.proofs.lemmas.Bool.Decides.{Decides-and, Decides-int_eq, not_from_Decides}
use Rattle.std.proofs.lemmas.Int.{ints}
use Rattle.std.specs.Ordering.{int_eq}
use Rattle.time_values.specs.declared.date.Date.{Date}
use Rattle.time_values.specs.declared.month.Month.{Month}
use Rattle.time_values.specs.declared.month.Month.TheVariants.{January, February, March, December}
use Rattle.time_values.specs.declared.utc_offset.UtcOffset.{UtcOffset}
use Rattle.time_values.specs.declared.weekday.Weekday.TheVariants.{Monday, Saturday, Sunday}
use Rattle.time_values.specs.Calendar.{iso_weeks_in, weekday_of, year_length}
use Rattle.time_values.specs.Dates.{is_within}
use Rattle.time_values.specs.Names.{days_from_monday, month_number}
use Rattle.time_values.specs.Refusal.{insufficient, range}
use Rattle.time_values.proofs.CalendarTests.{and3, and4, count, date, day, day_is, decide_eq, is_between, is_iso_date, iso_date_decided, iso_weeks_is}
use Rattle.time_values.proofs.CalendarTests.{offset, place, place_is, start, time, weekdays_is, year_decided}
use Rattle.time_values.proofs.InstantLemmas.{ordinal_in}
use Rattle.time_values.proofs.NumberLemmas.{same_month}
use Rattle.time_values.proofs.StandardFacts.{no_saturday_after_9999, no_saturday_after_999999, utc, y10000-01-01, y2018-01-01, y2018-01-07}
use Rattle.time_values.proofs.StandardFacts.{y2018-01-08, y2024-02-29, y9999-12-31}
use Rattle.time_record.specs.Record.{Record, empty}
use Rattle.time_record.specs.Resolution.{HasRow, IsDated, IsOffset, IsOffsetOrUtc, IsTimed, IsWeekDate, Row, by_iso_week, by_month_and_day}
use Rattle.time_record.specs.Resolution.{by_monday_week, by_ordinal, by_sunday_week, year_of}

-- ---- The date of a row as a test that computes. `Y` is a greatest year such that 400 divides Y + 1.

abbrev is_week_date : ℕ → ℕ → ℤ → ℕ → ℕ → Date → Bool
is_week_date Y first y week w d =
    int_eq d.year y && ((count first (start Y d.year) (place d) == week)
    && ((weekday_of (day Y d) == w) && is_between (neg_ℤ (pos Y)) (pos Y) d.year))

abbrev is_of_row : ℕ → Row → Date → Bool
is_of_row Y (by_ordinal y n) d = int_eq d.year y && ((place d == n) && is_between (neg_ℤ (pos Y)) (pos Y) d.year)
is_of_row Y (by_month_and_day y m n) d =
    (int_eq d.year y && ((month_number d.month == month_number m) && (d.day == n))) && is_between (neg_ℤ (pos Y)) (pos Y) d.year
is_of_row Y (by_iso_week y week w) d = is_iso_date Y y week (days_from_monday w) d
is_of_row Y (by_sunday_week y week w) d = is_week_date Y 6 y week (days_from_monday w) d
is_of_row Y (by_monday_week y week w) d = is_week_date Y 0 y week (days_from_monday w) d

month_decided : (a b : Month) → Decides (month_number a == month_number b) (a ≡ b)
month_decided a b =
    let numbers = decide_eq (month_number a) (month_number b) in
    (λ e. same_month a b (numbers.0 e), λ e. numbers.1 (ap month_number e))

module _ (Y : ℕ) (whole : (Y + 1) % 400 ≡ 0) where
  week_date_decided : (first : ℕ) (y : ℤ) (week w : ℕ) (d : Date) → first < 7
      → Decides (is_week_date Y first y week w d) (IsWeekDate Y first y week w d)
  week_date_decided first y week w d small =
      rw (weekdays_is Y whole first d small, day_is Y whole d)
      (and4 _ _ _ _ (Decides-int_eq d.year y) (decide_eq (count first (start Y d.year) (place d)) week)
      (decide_eq (weekday_of (day Y d)) w) (year_decided Y whole d.year))

  pub row_decided : (row : Row) (d : Date) → Decides (is_of_row Y row d) (HasRow Y row d)
  row_decided (by_ordinal y n) d =
      rw (place_is d) (and3 _ _ _ (Decides-int_eq d.year y) (decide_eq (place d) n) (year_decided Y whole d.year))
  row_decided (by_month_and_day y m n) d =
      Decides-and _ _ (and3 _ _ _ (Decides-int_eq d.year y) (month_decided d.month m) (decide_eq d.day n)) (year_decided Y whole d.year)
  row_decided (by_iso_week y week w) d = iso_date_decided Y whole y week (days_from_monday w) d
  row_decided (by_sunday_week y week w) d = week_date_decided 6 y week (days_from_monday w) d (omega arith)
  row_decided (by_monday_week y week w) d = week_date_decided 0 y week (days_from_monday w) d (omega arith)

-- ---- The date of a record

abbrev by_day : Record
by_day = record empty { year = Some (pos 2024); month = Some February; day = Some 29 }

abbrev by_place : Record
by_place = record by_day { month = Some March; day = Some 4; ordinal = Some 60 }

-- the 60th day of 2024 is 29 February, whatever month and day the record has
pub ordinal_first : IsDated 9_999 by_place (Ok y2024-02-29) × IsDated 999_999 by_place (Ok y2024-02-29)
    × (IsDated 9_999 by_place (Ok (date (pos 2024) March 4 refl)) → ⊥) × (IsDated 9_999 by_place (Ok (date (pos 2023) March 1 refl)) → ⊥)
    × (IsDated 999_999 by_place (Err insufficient) → ⊥)
unfolding IsDated
ordinal_first = (
  (row_decided 9_999 refl (by_ordinal (pos 2024) 60) y2024-02-29).0 refl,
  (row_decided 999_999 refl (by_ordinal (pos 2024) 60) y2024-02-29).0 refl,
  not_from_Decides _ (row_decided 9_999 refl (by_ordinal (pos 2024) 60) (date (pos 2024) March 4 refl)) refl,
  not_from_Decides _ (row_decided 9_999 refl (by_ordinal (pos 2024) 60) (date (pos 2023) March 1 refl)) refl,
  λ h. h.0 y2024-02-29 ((row_decided 999_999 refl (by_ordinal (pos 2024) 60) y2024-02-29).0 refl),
)

-- a year, a month and a day; without the day the information is insufficient
pub month_and_day : IsDated 9_999 by_day (Ok y2024-02-29) × IsDated 999_999 by_day (Ok y2024-02-29)
    × IsDated 9_999 (record by_day { day = None }) (Err insufficient) × (IsDated 9_999 by_day (Ok (date (pos 2024) March 1 refl)) → ⊥)
    × (IsDated 9_999 by_day (Ok (date (pos 2020) February 29 refl)) → ⊥) × (IsDated 999_999 by_day (Err insufficient) → ⊥)
unfolding IsDated
month_and_day = (
  (row_decided 9_999 refl (by_month_and_day (pos 2024) February 29) y2024-02-29).0 refl,
  (row_decided 999_999 refl (by_month_and_day (pos 2024) February 29) y2024-02-29).0 refl,
  refl,
  not_from_Decides _ (row_decided 9_999 refl (by_month_and_day (pos 2024) February 29) (date (pos 2024) March 1 refl)) refl,
  not_from_Decides _ (row_decided 9_999 refl (by_month_and_day (pos 2024) February 29) (date (pos 2020) February 29 refl)) refl,
  λ h. h.0 y2024-02-29 ((row_decided 999_999 refl (by_month_and_day (pos 2024) February 29) y2024-02-29).0 refl),
)

-- 2023 has no 366th day
pub no_such_ordinal : IsDated 9_999 (record empty { year = Some (pos 2023); ordinal = Some 366 }) (Err (range (codes "ordinal") true))
unfolding IsDated
no_such_ordinal = (
  λ d h. let days : year_length d.year ≡ 365 = ap year_length h.0 in omega (arith, ordinal_in d, h.1, days),
  refl,
)

-- a century and two digits: 0 is negative by its flag alone, and digits count away from 0
pub century_years : (year_of None (Some (pos 0)) true (Some 5) ≡ Some (neg_ℤ (pos 5))) × (year_of None (Some (pos 0)) false (Some 5) ≡ Some (pos 5))
    × (year_of None (Some (neg_ℤ (pos 1))) true (Some 23) ≡ Some (neg_ℤ (pos 123))) × (year_of None (Some (pos 20)) false None ≡ None)
century_years = (refl, refl, refl, refl)

abbrev five_before_0 : Record
five_before_0 = record empty {
  year_century = Some (pos 0);
  year_century_is_negative = true;
  year_last_two = Some 5;
  ordinal = Some 1;
}

pub century_0_below_0 : IsDated 9_999 five_before_0 (Ok (date (neg_ℤ (pos 5)) January 1 refl))
    × (IsDated 9_999 five_before_0 (Ok (date (pos 5) January 1 refl)) → ⊥)
unfolding IsDated
century_0_below_0 = (
  (row_decided 9_999 refl (by_ordinal (neg_ℤ (pos 5)) 1) (date (neg_ℤ (pos 5)) January 1 refl)).0 refl,
  not_from_Decides _ (row_decided 9_999 refl (by_ordinal (neg_ℤ (pos 5)) 1) (date (pos 5) January 1 refl)) refl,
)

abbrev sunday_week : Record
sunday_week = record empty { year = Some (pos 2018); sunday_week_number = Some 1; weekday = Some Monday }

-- 2018 begins on a Monday, and its first Sunday is the 7th, so the Monday of its Sunday week 1 is the 8th
pub monday_of_sunday_week : IsDated 9_999 sunday_week (Ok y2018-01-08) × IsDated 999_999 sunday_week (Ok y2018-01-08)
    × IsDated 9_999 (record sunday_week { weekday = Some Sunday }) (Ok y2018-01-07)
    × (IsDated 9_999 sunday_week (Ok y2018-01-01) → ⊥) × (IsDated 999_999 sunday_week (Ok y2018-01-01) → ⊥)
    × (IsDated 9_999 sunday_week (Ok y2018-01-07) → ⊥)
unfolding IsDated
monday_of_sunday_week = (
  (row_decided 9_999 refl (by_sunday_week (pos 2018) 1 Monday) y2018-01-08).0 refl,
  (row_decided 999_999 refl (by_sunday_week (pos 2018) 1 Monday) y2018-01-08).0 refl,
  (row_decided 9_999 refl (by_sunday_week (pos 2018) 1 Sunday) y2018-01-07).0 refl,
  not_from_Decides _ (row_decided 9_999 refl (by_sunday_week (pos 2018) 1 Monday) y2018-01-01) refl,
  not_from_Decides _ (row_decided 999_999 refl (by_sunday_week (pos 2018) 1 Monday) y2018-01-01) refl,
  not_from_Decides _ (row_decided 9_999 refl (by_sunday_week (pos 2018) 1 Monday) y2018-01-07) refl,
)

abbrev monday_week : Record
monday_week = record empty { year = Some (pos 2018); monday_week_number = Some 1; weekday = Some Monday }

-- and its Monday week 1 begins with the year
pub monday_of_monday_week : IsDated 9_999 monday_week (Ok y2018-01-01) × IsDated 999_999 monday_week (Ok y2018-01-01)
    × IsDated 9_999 (record monday_week { weekday = Some Sunday }) (Ok y2018-01-07)
    × (IsDated 9_999 monday_week (Ok y2018-01-08) → ⊥) × (IsDated 999_999 monday_week (Ok y2018-01-08) → ⊥)
    × (IsDated 9_999 monday_week (Ok y2018-01-07) → ⊥)
unfolding IsDated
monday_of_monday_week = (
  (row_decided 9_999 refl (by_monday_week (pos 2018) 1 Monday) y2018-01-01).0 refl,
  (row_decided 999_999 refl (by_monday_week (pos 2018) 1 Monday) y2018-01-01).0 refl,
  (row_decided 9_999 refl (by_monday_week (pos 2018) 1 Sunday) y2018-01-07).0 refl,
  not_from_Decides _ (row_decided 9_999 refl (by_monday_week (pos 2018) 1 Monday) y2018-01-08) refl,
  not_from_Decides _ (row_decided 999_999 refl (by_monday_week (pos 2018) 1 Monday) y2018-01-08) refl,
  not_from_Decides _ (row_decided 9_999 refl (by_monday_week (pos 2018) 1 Monday) y2018-01-07) refl,
)

abbrev iso_saturday : ℤ → Record
iso_saturday y = record empty { iso_year = Some y; iso_week_number = Some 52; weekday = Some Saturday }

-- the error of a weekday after the last date, if the year has 52 weeks
weekday_refused : (weeks : ℕ) → weeks ≡ 52
    → range (codes "weekday") true ≡ (if is_within 1 weeks 52 then range (codes "weekday") true else range (codes "week") true)
weekday_refused weeks e = rw e refl

-- the ISO week 9999-W52 ends on 2 January 10000
pub saturday_after_9999 : IsDated 9_999 (iso_saturday (pos 9_999)) (Err (range (codes "weekday") true))
    × IsDated 999_999 (iso_saturday (pos 9_999)) (Ok y10000-01-01) × (IsDated 9_999 (iso_saturday (pos 9_999)) (Ok y10000-01-01) → ⊥)
    × (IsDated 999_999 (iso_saturday (pos 9_999)) (Ok y9999-12-31) → ⊥)
unfolding IsDated
saturday_after_9999 = (
  (no_saturday_after_9999, weekday_refused (iso_weeks_in 9_999 (pos 9_999)) (iso_weeks_is 9_999 refl (pos 9_999))),
  (row_decided 999_999 refl (by_iso_week (pos 9_999) 52 Saturday) y10000-01-01).0 refl,
  not_from_Decides _ (row_decided 9_999 refl (by_iso_week (pos 9_999) 52 Saturday) y10000-01-01) refl,
  not_from_Decides _ (row_decided 999_999 refl (by_iso_week (pos 9_999) 52 Saturday) y9999-12-31) refl,
)

-- and +999999-W52 ends after the last date of the wider range
pub saturday_after_999999 : IsDated 999_999 (iso_saturday (pos 999_999)) (Err (range (codes "weekday") true))
    × (IsDated 999_999 (iso_saturday (pos 999_999)) (Ok (date (pos 999_999) December 31 refl)) → ⊥)
unfolding IsDated
saturday_after_999999 = (
  (no_saturday_after_999999, weekday_refused (iso_weeks_in 999_999 (pos 999_999)) (iso_weeks_is 999_999 refl (pos 999_999))),
  not_from_Decides _ (row_decided 999_999 refl (by_iso_week (pos 999_999) 52 Saturday) (date (pos 999_999) December 31 refl)) refl,
)

-- a year past the narrower range has no date there
pub year_10000 : IsDated 999_999 (record empty { year = Some (pos 10_000); ordinal = Some 1 }) (Ok y10000-01-01)
    × (IsDated 9_999 (record empty { year = Some (pos 10_000); ordinal = Some 1 }) (Ok y10000-01-01) → ⊥)
unfolding IsDated
year_10000 = (
  (row_decided 999_999 refl (by_ordinal (pos 10_000) 1) y10000-01-01).0 refl,
  not_from_Decides _ (row_decided 9_999 refl (by_ordinal (pos 10_000) 1) y10000-01-01) refl,
)

-- ---- The time of a record

abbrev half_day : Bool → Record
half_day is_pm = record empty { hour_12 = Some 12; hour_12_is_pm = Some is_pm; minute = Some 5 }

-- 12:05 AM is five past midnight, 12:05 PM five past noon; an hour of 24 precedes one of a half day
pub times : IsTimed (half_day false) (Ok (time 0 5 0 0 refl)) × IsTimed (half_day true) (Ok (time 12 5 0 0 refl))
    × IsTimed (record (half_day true) { hour_24 = Some 3 }) (Ok (time 3 5 0 0 refl))
    × IsTimed (record empty { hour_24 = Some 3; second = Some 1 }) (Err insufficient)
    × IsTimed (record empty { hour_24 = Some 3; minute = Some 0; second = Some 60 }) (Err (range (codes "second") false))
unfolding IsTimed
times = ((refl, refl, refl, refl), (refl, refl, refl, refl), (refl, refl, refl, refl), refl, refl)

pub not_those_times : (IsTimed (half_day false) (Ok (time 12 5 0 0 refl)) → ⊥) × (IsTimed (half_day true) (Ok (time 0 5 0 0 refl)) → ⊥)
    × (IsTimed (record empty { hour_24 = Some 3; second = Some 1 }) (Ok (time 3 0 1 0 refl)) → ⊥)
unfolding IsTimed
not_those_times = (λ h. omega (arith, h.0), λ h. omega (arith, h.0), λ h. cc)

-- ---- The offset of a record

-- the record of a minus before 00:30, of -05:30, and of +05:30
abbrev signed : Bool → ℤ → Record
signed is_negative hour = record empty { offset_hour = Some hour; offset_minute = Some (pos 30); offset_is_negative = is_negative }

abbrev half_hour_behind : UtcOffset
half_hour_behind = offset (pos 0) (neg_ℤ (pos 30)) (pos 0) refl

abbrev half_hour_ahead : UtcOffset
half_hour_ahead = offset (pos 0) (pos 30) (pos 0) refl

-- the flag negates the minutes of an hour 0, and the sign of another hour counts for its minutes
pub offsets : IsOffset (signed true (pos 0)) (Ok half_hour_behind) × IsOffset (signed false (pos 0)) (Ok half_hour_ahead)
    × IsOffset (signed false (neg_ℤ (pos 5))) (Ok (offset (neg_ℤ (pos 5)) (neg_ℤ (pos 30)) (pos 0) refl))
    × IsOffset (record empty { offset_minute = Some (pos 30) }) (Err insufficient) × IsOffsetOrUtc empty (Ok utc)
unfolding IsOffset IsOffsetOrUtc
offsets = ((refl, refl, refl), (refl, refl, refl), (refl, refl, refl), refl, (refl, refl, refl))

pub not_those_offsets : (IsOffset (signed true (pos 0)) (Ok half_hour_ahead) → ⊥) × (IsOffset (signed false (pos 0)) (Ok half_hour_behind) → ⊥)
    × (IsOffset empty (Ok utc) → ⊥)
unfolding IsOffset
not_those_offsets = (λ h. omega (arith, ints, h.1), λ h. omega (arith, ints, h.1), λ h. cc)
