-- The calendar's definitions as tests that compute for numerals. `Y` is a greatest year such that 400 divides Y + 1.
use Rattle.std.specs.Int.{IsInRange}
use Rattle.std.specs.Int.Signed.{le_z}
use Rattle.std.proofs.Common.{◌≡◌, ℕ, ◌+◌, ◌-◌, ◌*◌, ◌/◌, ◌%◌, ◌<◌, ◌≤◌, Bool, ◌&&◌, nat_le, nat_lt, ◌==◌, IsTrue, Decides, refl, arith, [], ℤ, pos}
use Rattle.std.proofs.Common.{neg_ℤ, ◌+ℤ◌, ◌-ℤ◌, ◌*ℤ◌, eqb-true, eq-eqb, leb-true, le-leb}
use Rattle.std.proofs.lemmas.Bool.Decides.{Decides-and, Decides-ltb}
use Rattle.time_values.specs.declared.date.Date.{Date}
use Rattle.time_values.specs.declared.month.Month.{Month}
use Rattle.time_values.specs.declared.time.Time.{Time}
use Rattle.time_values.specs.declared.utc_offset.UtcOffset.{UtcOffset}
use Rattle.time_values.specs.Calendar.{greatest_year, IsBetween, IsYear, IsIsoWeek, day_limit, iso_weeks_in, month_length, thursday_of, weekday_of}
use Rattle.time_values.specs.Calendar.{weekdays_in, year_length, year_start, years_before}
use Rattle.time_values.specs.Dates.{HasIsoWeek, IsIsoDate, IsIsoDay, day_number, ordinal, weekdays_so_far}
use Rattle.time_values.specs.Instants.{IsInstant, clock_nanos, first_instant, instant, last_instant, nanos_per_day}
use Rattle.time_values.specs.Names.{month_number}
use Rattle.time_values.specs.Offsets.{offset_seconds}
use Rattle.time_values.specs.Sign.{same_sign}
use Rattle.time_values.specs.Times.{nanos_of_day}
use Rattle.time_values.proofs.YearLemmas.{days_of_months_closed, days_of_years_closed, leaps, months_closed, signed-one, weekdays_in_closed}
use Rattle.time_values.proofs.NumberLemmas.{month_number_in}
use Rattle.time_values.proofs.InstantLemmas.{between_tested}

pub decide_le : (a b : ℕ) → Decides (nat_le a b) (a ≤ b)
decide_le a b = (leb-true a b, le-leb a b)

pub decide_eq : (a b : ℕ) → Decides (a == b) (a ≡ b)
decide_eq a b = (eqb-true a b, eq-eqb a b)

-- three tests, and four
pub and3 : {A B C : Type 0} (a b c : Bool) → Decides a A → Decides b B → Decides c C → Decides (a && (b && c)) (A × B × C)
and3 a b c p q r =
    let all = Decides-and a (b && c) p (Decides-and b c q r) in
    (λ e. let h = all.0 e in (h.0, h.1.0, h.1.1), λ h. all.1 (h.0, (h.1, h.2)))

pub and4 : {A B C D : Type 0} (a b c d : Bool) → Decides a A → Decides b B → Decides c C → Decides d D
    → Decides (a && (b && (c && d))) (A × B × C × D)
and4 a b c d p q r s =
    let all = Decides-and a (b && (c && d)) p (Decides-and b (c && d) q (Decides-and c d r s)) in
    (λ e. let h = all.0 e in (h.0, h.1.0, h.1.1.0, h.1.1.1), λ h. all.1 (h.0, (h.1, (h.2, h.3))))

-- ---- Values of known numbers

abbrev pub is_between : ℤ → ℤ → ℤ → Bool
is_between low high z = le_z low z && le_z z high

abbrev pub is_date : ℤ → Month → ℕ → Bool
is_date y m d =
    is_between (neg_ℤ (pos greatest_year)) (pos greatest_year) y && (nat_le 1 d && nat_le d (month_length y (month_number m)))

pub date_in : (y : ℤ) (m : Month) (d : ℕ) → Decides (is_date y m d) (IsYear greatest_year y × IsInRange 1 (month_length y (month_number m)) d)
date_in y m d =
    Decides-and _ _ (between_tested (neg_ℤ (pos greatest_year)) (pos greatest_year) y)
    (Decides-and _ _ (decide_le 1 d) (decide_le d (month_length y (month_number m))))

-- the date of a year, month and day
abbrev pub date : (y : ℤ) (m : Month) (d : ℕ) → IsTrue (is_date y m d) → Date
date y m d is = record {
  year = y;
  month = m;
  day = d;
  aligned = record { words = []; no_words = refl };
  year_in = ((date_in y m d).0 is).0;
  day_in = ((date_in y m d).0 is).1;
}

abbrev pub is_time : ℕ → ℕ → ℕ → ℕ → Bool
is_time h m s n = (nat_lt h 24 && nat_lt m 60) && (nat_lt s 60 && nat_lt n 1_000_000_000)

pub time_in : (h m s n : ℕ) → Decides (is_time h m s n) (((h < 24) × (m < 60)) × ((s < 60) × (n < 1_000_000_000)))
time_in h m s n =
    Decides-and _ _ (Decides-and _ _ (Decides-ltb h 24) (Decides-ltb m 60)) (Decides-and _ _ (Decides-ltb s 60) (Decides-ltb n 1_000_000_000))

-- the time of an hour, minute, second and nanosecond
abbrev pub time : (h m s n : ℕ) → IsTrue (is_time h m s n) → Time
time h m s n is = record {
  hour = h;
  minute = m;
  second = s;
  nanosecond = n;
  aligned = record { words = []; no_words = refl };
  hour_in = ((time_in h m s n).0 is).0.0;
  minute_in = ((time_in h m s n).0 is).0.1;
  second_in = ((time_in h m s n).0 is).1.0;
  nanosecond_in = ((time_in h m s n).0 is).1.1;
}

abbrev pub is_offset : ℤ → ℤ → ℤ → Bool
is_offset h m s =
    is_between (neg_ℤ (pos 25)) (pos 25) h
    && (is_between (neg_ℤ (pos 59)) (pos 59) (same_sign h m)
    && is_between (neg_ℤ (pos 59)) (pos 59) (same_sign h (same_sign m s)))

pub offset_in : (h m s : ℤ) → Decides (is_offset h m s) (IsBetween (neg_ℤ (pos 25)) (pos 25) h
    × (IsBetween (neg_ℤ (pos 59)) (pos 59) (same_sign h m) × IsBetween (neg_ℤ (pos 59)) (pos 59) (same_sign h (same_sign m s))))
offset_in h m s =
    Decides-and _ _ (between_tested (neg_ℤ (pos 25)) (pos 25) h)
    (Decides-and _ _ (between_tested (neg_ℤ (pos 59)) (pos 59) (same_sign h m))
    (between_tested (neg_ℤ (pos 59)) (pos 59) (same_sign h (same_sign m s))))

-- the offset of hours, minutes and seconds
abbrev pub offset : (h m s : ℤ) → IsTrue (is_offset h m s) → UtcOffset
offset h m s is = record {
  hours = h;
  minutes = same_sign h m;
  seconds = same_sign h (same_sign m s);
  hours_in = ((offset_in h m s).0 is).0;
  minutes_in = ((offset_in h m s).0 is).1.0;
  seconds_in = ((offset_in h m s).0 is).1.1;
  one_sign = signed-one h m s h (same_sign h m) (same_sign h (same_sign m s)) refl refl refl;
}

-- ---- Closed forms

-- the day number of a year's first day, the day of the year of a date, and its day number
abbrev pub start : ℕ → ℤ → ℕ
start Y y = 365 * years_before Y y + leaps (years_before Y y)

abbrev pub place : Date → ℕ
place d = months_closed d.year (month_number d.month - 1) + d.day

abbrev pub day : ℕ → Date → ℕ
day Y d = start Y d.year + (place d - 1)

-- the number of n days from a first one that have a weekday
abbrev pub count : ℕ → ℕ → ℕ → ℕ
count w first n = (first + n + 6 - w) / 7 - (first + 6 - w) / 7

weekdays_counted : (w first n : ℕ) → w < 7 → weekdays_in w first n ≡ count w first n
weekdays_counted w first n small = omega (arith, weekdays_in_closed w first n small)

pub place_is : (d : Date) → ordinal d ≡ place d
place_is d =
    rw (days_of_months_closed d.year (month_number d.month - 1) (omega (arith, month_number_in d.month))) refl

module _ (Y : ℕ) (whole : (Y + 1) % 400 ≡ 0) where
  pub start_is : (y : ℤ) → year_start Y y ≡ start Y y
  start_is y = days_of_years_closed Y (years_before Y y) whole

  pub limit_is : day_limit Y ≡ 365 * (2 * Y + 1) + leaps (2 * Y + 1)
  limit_is = days_of_years_closed Y (2 * Y + 1) whole

  pub day_is : (d : Date) → day_number Y d ≡ day Y d
  day_is d = rw (start_is d.year, place_is d) refl

  pub weekdays_is : (w : ℕ) (d : Date) → w < 7 → weekdays_so_far Y w d ≡ count w (start Y d.year) (place d)
  weekdays_is w d small = rw (start_is d.year, place_is d) (weekdays_counted w (start Y d.year) (place d) small)

  pub iso_weeks_is : (y : ℤ) → iso_weeks_in Y y ≡ count 3 (start Y y) (year_length y)
  iso_weeks_is y = rw (start_is y) (weekdays_counted 3 (start Y y) (year_length y) (omega arith))

  pub clock_is : (d : Date) (t : Time)
      → clock_nanos Y d t ≡ (pos (day Y d) -ℤ pos (start Y (pos 1970))) *ℤ pos nanos_per_day +ℤ pos (nanos_of_day t)
  unfolding clock_nanos
  clock_is d t = rw (day_is d, start_is (pos 1970)) refl

  pub moment_is : (d : Date) (t : Time) (o : UtcOffset) → instant Y d t o
      ≡ ((pos (day Y d) -ℤ pos (start Y (pos 1970))) *ℤ pos nanos_per_day +ℤ pos (nanos_of_day t)) -ℤ offset_seconds o *ℤ pos 1_000_000_000
  unfolding instant
  moment_is d t o = rw (clock_is d t) refl

  pub first_is : first_instant Y ≡ neg_ℤ (pos (start Y (pos 1970) * nanos_per_day))
  unfolding first_instant
  first_is = rw (start_is (pos 1970)) refl

  pub last_is : last_instant Y ≡ pos ((365 * (2 * Y + 1) + leaps (2 * Y + 1) - start Y (pos 1970)) * nanos_per_day) -ℤ pos 1
  unfolding last_instant
  last_is = rw (limit_is, start_is (pos 1970)) refl

-- ---- Tests

abbrev pub is_iso_week : ℕ → ℕ → ℤ → ℕ → Bool
is_iso_week Y n y week =
    is_between (neg_ℤ (pos Y)) (pos Y) y
    && (nat_le (start Y y) (thursday_of n)
    && (nat_lt (thursday_of n) (start Y y + year_length y)
    && (week == count 3 (start Y y) (thursday_of n + 1 - start Y y))))

abbrev pub is_iso_day : ℕ → ℤ → ℕ → ℕ → ℕ → Bool
is_iso_day Y y week w n = is_iso_week Y n y week && (weekday_of n == w)

abbrev pub has_iso_week : ℕ → ℤ → ℕ → Bool
has_iso_week Y y week =
    is_between (neg_ℤ (pos Y)) (pos Y) y && (nat_le 1 week && nat_le week (count 3 (start Y y) (year_length y)))

abbrev pub is_iso_date : ℕ → ℤ → ℕ → ℕ → Date → Bool
is_iso_date Y y week w d =
    has_iso_week Y y week && (is_iso_day Y y week w (day Y d) && is_between (neg_ℤ (pos Y)) (pos Y) d.year)

module _ (Y : ℕ) (whole : (Y + 1) % 400 ≡ 0) where
  pub year_decided : (y : ℤ) → Decides (is_between (neg_ℤ (pos Y)) (pos Y) y) (IsYear Y y)
  year_decided y = between_tested (neg_ℤ (pos Y)) (pos Y) y

  pub iso_week_decided : (n : ℕ) (y : ℤ) (week : ℕ) → Decides (is_iso_week Y n y week) (IsIsoWeek Y n y week)
  iso_week_decided n y week =
      let from = start Y y in
      let counted = weekdays_counted 3 from (thursday_of n + 1 - from) (omega arith) in
      rw (start_is Y whole y, counted) (and4 _ _ _ _ (year_decided y) (decide_le from (thursday_of n))
      (Decides-ltb (thursday_of n) (from + year_length y)) (decide_eq week (count 3 from (thursday_of n + 1 - from))))

  pub iso_day_decided : (y : ℤ) (week w n : ℕ) → Decides (is_iso_day Y y week w n) (IsIsoDay Y y week w n)
  iso_day_decided y week w n = Decides-and _ _ (iso_week_decided n y week) (decide_eq (weekday_of n) w)

  pub has_iso_week_decided : (y : ℤ) (week : ℕ) → Decides (has_iso_week Y y week) (HasIsoWeek Y y week)
  has_iso_week_decided y week =
      rw (iso_weeks_is Y whole y)
      (Decides-and _ _ (year_decided y) (Decides-and _ _ (decide_le 1 week) (decide_le week (count 3 (start Y y) (year_length y)))))

  pub iso_date_decided : (y : ℤ) (week w : ℕ) (d : Date) → Decides (is_iso_date Y y week w d) (IsIsoDate Y y week w d)
  iso_date_decided y week w d =
      rw (day_is Y whole d) (and3 _ _ _ (has_iso_week_decided y week) (iso_day_decided y week w (day Y d)) (year_decided d.year))

  pub instant_decided : (n : ℤ) → Decides (is_between (neg_ℤ (pos (start Y (pos 1970) * nanos_per_day)))
      (pos ((365 * (2 * Y + 1) + leaps (2 * Y + 1) - start Y (pos 1970)) * nanos_per_day) -ℤ pos 1) n) (IsInstant Y n)
  instant_decided n =
      rw (first_is Y whole, last_is Y whole)
      (between_tested (neg_ℤ (pos (start Y (pos 1970) * nanos_per_day)))
      (pos ((365 * (2 * Y + 1) + leaps (2 * Y + 1) - start Y (pos 1970)) * nanos_per_day) -ℤ pos 1) n)
