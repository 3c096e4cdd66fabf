-- Converting a record to values, by a fixed precedence of its components. `Y` is the greatest year.
use Rattle.std.specs.Prelude.{◌≡◌, ℕ, ℤ, pos, ◌+ℤ◌, ◌-ℤ◌, ◌*ℤ◌, Bool, true, false, if◌then◌else◌, Option, Some, None, Result, MatchResult, codes, ◌+◌, ◌%◌, ◌==◌, ◌&&◌, IsTrue, unwrap_or, Ok, Err, MatchOption, IsOkAnd, ◌⊎◌}
use Rattle.std.specs.Option.{option_or, option_map, option_map_or, option_and_then}
use Rattle.time_values.specs.declared.date.Date.{Date}
use Rattle.time_values.specs.declared.month.Month.{Month}
use Rattle.time_values.specs.declared.weekday.Weekday.{Weekday}
use Rattle.time_values.specs.Calendar.{iso_weeks_in}
use Rattle.time_values.specs.Dates.{IsIsoDate, IsDateWithin, is_within, HasParts, ordinal, weekday, weekdays_so_far}
use Rattle.time_values.specs.Dates as Dates
use Rattle.time_values.specs.Refusal.{Refusal, range, insufficient, refusal_of_parsed}
use Rattle.time_values.specs.Names.{days_from_monday}
use Rattle.time_values.specs.declared.time.Time.{Time}
use Rattle.time_values.specs.declared.utc_offset.UtcOffset.{UtcOffset}
use Rattle.time_values.specs.declared.timestamp.Timestamp.{Timestamp}
use Rattle.time_values.specs.declared.utc_date_time.UtcDateTime.{UtcDateTime}
use Rattle.time_values.specs.declared.plain_date_time.PlainDateTime.{PlainDateTime}
use Rattle.time_values.specs.declared.offset_date_time.OffsetDateTime.{OffsetDateTime}
use Rattle.time_values.specs.declared.error.TryFromParsed.{TryFromParsed}
use Rattle.time_values.specs.Instants.{clock_nanos, instant, IsInstant, IsLeapSecondMoment, IsLastNanosecondOfMonth}
use Rattle.time_values.specs.Offsets.{HasOffset, IsUtc, offset_refusal}
use Rattle.time_values.specs.Moments.{plain_date, plain_time, offset_date, offset_time, offset_of, utc_date, utc_time, utc_instant, nanoseconds}
use Rattle.time_values.specs.Times as Times
use Rattle.time_values.specs.Times.{HasClock, HasSecond, time_refusal}
use Rattle.time_values.specs.Sign.{signed_by}
use Rattle.time_record.specs.Record.{Record}

-- ---- The date of a record's components. `Y` is the greatest year.

-- the year; or, if it is missing, that of a century and its last two digits, which count away from 0; none if one of
-- these is missing. The flag is the century's sign: -0 and 50 is -50.
abbrev pub year_of : Option ℤ → Option ℤ → Bool → Option ℕ → Option ℤ
year_of (Some y) century is_negative last_two = Some y
year_of None (Some c) true (Some n) = Some (pos 100 *ℤ c -ℤ pos n)
year_of None (Some c) false (Some n) = Some (pos 100 *ℤ c +ℤ pos n)
year_of None (Some c) is_negative None = None
year_of None None is_negative last_two = None

-- the calendar year of a record, from that year or its century and last two digits, if they are known
abbrev pub full_year : Record → Option ℤ
full_year r = year_of r.year r.year_century r.year_century_is_negative r.year_last_two

-- the ISO 8601 week-based year of a record, from that year or its century and last two digits, if they are known
abbrev pub full_iso_year : Record → Option ℤ
full_iso_year r =
    year_of r.iso_year r.iso_year_century r.iso_year_century_is_negative r.iso_year_last_two

-- numbers that determine one day: a year and the day of the year; a year, month and day; or a year, a week, as ISO 8601
-- counts them or from Sundays or Mondays, and a weekday
pub data Row : Type 0 where
  by_ordinal : ℤ → ℕ → Row
  by_month_and_day : ℤ → Month → ℕ → Row
  by_iso_week : ℤ → ℕ → Weekday → Row
  by_sunday_week : ℤ → ℕ → Weekday → Row
  by_monday_week : ℤ → ℕ → Weekday → Row

-- a row of two numbers, if both are known
abbrev pub row_of_two : {A B : Type 0} → (A → B → Row) → Option A → Option B → Option Row
row_of_two row (Some a) (Some b) = Some (row a b)
row_of_two row (Some a) None = None
row_of_two row None b = None

-- a row of three numbers, if all are known
abbrev pub row_of_three :
    {A B C : Type 0} → (A → B → C → Row) → Option A → Option B → Option C → Option Row
row_of_three row (Some a) (Some b) (Some c) = Some (row a b c)
row_of_three row (Some a) (Some b) None = None
row_of_three row (Some a) None c = None
row_of_three row None b c = None

-- the first of the five rows, in the order of `Row`, whose numbers are all known; none if no row is complete
abbrev pub first_row : Record → Option Row
first_row r =
    option_or (row_of_two by_ordinal (full_year r) r.ordinal)
    (option_or (row_of_three by_month_and_day (full_year r) r.month r.day)
    (option_or (row_of_three by_iso_week (full_iso_year r) r.iso_week_number r.weekday)
    (option_or (row_of_three by_sunday_week (full_year r) r.sunday_week_number r.weekday)
    (row_of_three by_monday_week (full_year r) r.monday_week_number r.weekday))))

-- the date lies in that year and week and has the weekday w, if weeks begin on the weekday `start`, and the days before
-- the first such weekday are week 0; a weekday is 0 for Monday to 6 for Sunday
abbrev pub IsWeekDate : ℕ → ℕ → ℤ → ℕ → ℕ → Date → Type 0
IsWeekDate Y start year week w d =
    (Dates.year d ≡ year) × (weekdays_so_far Y start d ≡ week) × (weekday Y d ≡ w) × IsDateWithin Y d

-- the date has the numbers of the row, and lies in the years -Y to Y
abbrev pub HasRow : ℕ → Row → Date → Type 0
HasRow Y (by_ordinal year n) d = (Dates.year d ≡ year) × (ordinal d ≡ n) × IsDateWithin Y d
HasRow Y (by_month_and_day year month day) d = HasParts year month day d × IsDateWithin Y d
HasRow Y (by_iso_week year week w) d = IsIsoDate Y year week (days_from_monday w) d
HasRow Y (by_sunday_week year week w) d = IsWeekDate Y 6 year week (days_from_monday w) d
HasRow Y (by_monday_week year week w) d = IsWeekDate Y 0 year week (days_from_monday w) d

-- the error if no date has the numbers of the row; of an ISO week it names the week if the year has no such week, and
-- else the weekday
abbrev pub row_refusal : ℕ → Row → Refusal
row_refusal Y (by_ordinal year n) = range (codes "ordinal") true
row_refusal Y (by_month_and_day year month day) = range (codes "day") true
row_refusal Y (by_iso_week year week w) =
    if is_within 1 (iso_weeks_in Y year) week then range (codes "weekday") true
    else range (codes "week") true
row_refusal Y (by_sunday_week year week w) = range (codes "ordinal") true
row_refusal Y (by_monday_week year week w) = range (codes "ordinal") true

-- the date of a row, or the row's error if no date has its numbers
abbrev pub IsRowDate : ℕ → Row → Result Date Refusal → Type 0
IsRowDate Y row result = MatchResult result (HasRow Y row)
    (λ e. ((d : Date) → HasRow Y row d → ⊥) × (e ≡ row_refusal Y row))

-- a conversion's result, where an error is replaced by its content, a `Refusal`
abbrev pub erased_conversion : {V : Type 0} → Result V TryFromParsed → Result V Refusal
erased_conversion (Ok v) = Ok v
erased_conversion (Err e) = Err (refusal_of_parsed e)

-- the given error, or, if none is given, a value with P
abbrev pub IsConstructed : {V : Type 0} → Option Refusal → (V → Type 0) → Result V Refusal → Type 0
IsConstructed None P (Ok v) = P v
IsConstructed None P (Err e) = ⊥
IsConstructed (Some r) P (Ok v) = ⊥
IsConstructed (Some r) P (Err e) = e ≡ r

-- one step and then the next: the error of the first, or the result of the next for the first one's value
abbrev pub Then : {A B : Type 0} →
    (Result A Refusal → Type 0) → (A → Result B Refusal → Type 0) → Result B Refusal → Type 0
Then {A} First Next result =
    ((e : Refusal) × First (Err e) × (result ≡ Err e)) ⊎ ((a : A) × First (Ok a) × Next a result)

-- the date of a record: that of its first row; without a row the error is insufficient information
unfoldable pub IsDated : ℕ → Record → Result Date Refusal → Type 0
IsDated Y r result =
    MatchOption (first_row r) (result ≡ Err insufficient) (λ row. IsRowDate Y row result)

-- the hour of the day, 0 to 23, from the hour of a half day, where 12 comes before 1, and whether it is PM; none if one
-- is missing
abbrev pub hour_of_half : Option ℕ → Option Bool → Option ℕ
hour_of_half (Some h) (Some is_pm) = Some (if is_pm then h % 12 + 12 else h % 12)
hour_of_half (Some h) None = None
hour_of_half None is_pm = None

-- the numbers of a time; those of a record within its ranges are in range for a time, except for a second of 60
pub record Clock : Type 0 where
  pub hour : ℕ
  pub minute : ℕ
  pub second : ℕ
  pub nanosecond : ℕ

-- a time of that hour, minute, second and nanosecond, where missing ones are 0; none if a second has no minute, or a
-- subsecond no second
abbrev pub clock_at : ℕ → Option ℕ → Option ℕ → Option ℕ → Option Clock
clock_at h None None None = Some (record { hour = h; minute = 0; second = 0; nanosecond = 0 })
clock_at h (Some m) None None = Some (record { hour = h; minute = m; second = 0; nanosecond = 0 })
clock_at h (Some m) (Some s) None = Some (record { hour = h; minute = m; second = s; nanosecond = 0 })
clock_at h (Some m) (Some s) (Some n) = Some (record { hour = h; minute = m; second = s; nanosecond = n })
clock_at h m s n = None

-- the hour of a record's time: its `hour_24`, or, if that is missing, `hour_of_half` of its `hour_12` and half
abbrev pub hour_of : Record → Option ℕ
hour_of r = option_or r.hour_24 (hour_of_half r.hour_12 r.hour_12_is_pm)

-- the numbers of a record's time, if they are sufficient
abbrev pub clock_of : Record → Option Clock
clock_of r = option_and_then (λ h. clock_at h r.minute r.second r.subsecond) (hour_of r)

-- the time of a record; without sufficient numbers the error is insufficient information, and for a number out of range
-- (of a record within its ranges only a second of 60) that of `time_refusal`
unfoldable pub IsTimed : Record → Result Time Refusal → Type 0
IsTimed r result = MatchOption (clock_of r) (result ≡ Err insufficient)
    (λ c. IsConstructed (time_refusal c.hour c.minute c.second c.nanosecond)
    (HasClock c.hour c.minute c.second c.nanosecond) result)

-- an offset's stored minutes or seconds, of either sign; negated if `offset_is_negative` is set, and 0 if missing
abbrev pub offset_part : Record → Option ℤ → ℤ
offset_part r part = unwrap_or (option_map (signed_by r.offset_is_negative) part) (pos 0)

-- an offset's seconds, of either sign; negated if `offset_is_negative` is set, and 0 if they or its minutes are missing
abbrev pub offset_seconds_of : Record → ℤ
offset_seconds_of r = option_map_or (λ _. offset_part r r.offset_second) r.offset_minute (pos 0)

-- the offset of a record's `offset_hour`, minutes and seconds; without an `offset_hour`, the result satisfies `Missing`
abbrev pub IsOffsetOr : (Result UtcOffset Refusal → Type 0) → Record → Result UtcOffset Refusal → Type 0
IsOffsetOr Missing r result = MatchOption r.offset_hour (Missing result)
    (λ h. let m = offset_part r r.offset_minute in let s = offset_seconds_of r in
    IsConstructed (offset_refusal h m s) (HasOffset h m s) result)

-- the offset of a record; without an `offset_hour` the error is insufficient information
unfoldable pub IsOffset : Record → Result UtcOffset Refusal → Type 0
IsOffset r = IsOffsetOr (λ result. result ≡ Err insufficient) r

-- the offset of a record; without an `offset_hour` it is UTC
unfoldable pub IsOffsetOrUtc : Record → Result UtcOffset Refusal → Type 0
IsOffsetOrUtc r = IsOffsetOr (λ result. IsOkAnd result IsUtc) r

-- the date and the time of a record, or the first error of the two, the date's first
unfoldable pub IsPlain : ℕ → Record → Result PlainDateTime Refusal → Type 0
IsPlain Y r = Then (IsDated Y r) (λ d. Then (IsTimed r)
    (λ t result. IsOkAnd result (λ p. (plain_date p ≡ d) × (plain_time p ≡ t))))

-- the date and time in UTC at n nanoseconds since 1970-01-01T00:00:00Z, with the given subsecond, if there is one, in
-- place of its own
abbrev pub IsStamped : ℕ → ℤ → Option ℕ → Date → Time → Type 0
IsStamped Y n subsecond date time =
    (t : Time) × (clock_nanos Y date t ≡ n)
    × HasSecond t (unwrap_or subsecond (Times.nanosecond t)) time × IsDateWithin Y date

-- whether the record's second is 60 and leap seconds are allowed
abbrev pub is_leap_second : Record → Bool
is_leap_second r = r.leap_second_allowed && option_map_or (λ s. s == 60) r.second false

-- the record, where a second of 60, if the record's flag allows it, is replaced by the last nanosecond before it
abbrev pub replace_leap_second : Record → Record
replace_leap_second r =
    if is_leap_second r then record r { second = Some 59; subsecond = Some 999_999_999 } else r

-- a value with P, if `leap` is false or `AtEnd` holds; or else the error of a leap second that isn't at a month's end
abbrev pub Judged : {V : Type 0} → Bool → Type 0 → (V → Type 0) → Result V Refusal → Type 0
Judged leap AtEnd P (Ok v) = P v × (IsTrue leap → AtEnd)
Judged leap AtEnd P (Err e) = IsTrue leap × (AtEnd → ⊥) × (e ≡ range (codes "second") true)

-- the moment of a record's date, time and offset, or their first error, in that order; a leap second that is allowed
-- counts as the last nanosecond before it, or gives an error if that nanosecond isn't the last of a month in UTC
unfoldable pub IsMomentOfParts : ℕ → Record → Result OffsetDateTime Refusal → Type 0
IsMomentOfParts Y r = Then (IsDated Y r) (λ d. Then (IsTimed (replace_leap_second r)) (λ t. Then (IsOffset r)
    (λ o. Judged (is_leap_second r) (IsLeapSecondMoment Y (instant Y d t o))
    (λ v. (offset_date v ≡ d) × (offset_time v ≡ t) × (offset_of v ≡ o)))))

-- the moment of a record with its offset: that of its timestamp, in UTC, with the record's subsecond if there is one;
-- without a timestamp, that of its parts
unfoldable pub IsMoment : ℕ → Record → Result OffsetDateTime Refusal → Type 0
IsMoment Y r result = MatchOption r.unix_timestamp_nanos (IsMomentOfParts Y r result)
    (λ n. IsOkAnd result
    (λ v. IsStamped Y n r.subsecond (offset_date v) (offset_time v) × IsUtc (offset_of v)))

-- the date and time in UTC of an instant, or, if it lies outside the range of dates, an error that names `year`
abbrev pub IsInUtc : ℕ → ℤ → Result UtcDateTime Refusal → Type 0
IsInUtc Y n (Ok u) = (utc_instant Y u ≡ n) × IsDateWithin Y (utc_date u)
IsInUtc Y n (Err e) = (IsInstant Y n → ⊥) × (e ≡ range (codes "year") true)

-- the moment in UTC of a record's date, time and offset (UTC if its hour is missing), or their first error, in that
-- order, and then the error of a moment without a date in UTC; a leap second that is allowed counts as the last
-- nanosecond before it, or gives an error if that nanosecond isn't the last of a month in UTC
unfoldable pub IsUtcMomentOfParts : ℕ → Record → Result UtcDateTime Refusal → Type 0
IsUtcMomentOfParts Y r = Then (IsDated Y r) (λ d. Then (IsTimed (replace_leap_second r)) (λ t. Then (IsOffsetOrUtc r)
    (λ o. Then (IsInUtc Y (instant Y d t o))
    (λ u. Judged (is_leap_second r) (IsLastNanosecondOfMonth (utc_date u) (utc_time u))
    (λ v. (utc_date v ≡ utc_date u) × (utc_time v ≡ utc_time u))))))

-- the moment of a record in UTC: that of its timestamp, with the record's subsecond if there is one; without a
-- timestamp, that of its parts
unfoldable pub IsUtcMoment : ℕ → Record → Result UtcDateTime Refusal → Type 0
IsUtcMoment Y r result = MatchOption r.unix_timestamp_nanos (IsUtcMomentOfParts Y r result)
    (λ n. IsOkAnd result (λ v. IsStamped Y n r.subsecond (utc_date v) (utc_time v)))

-- the instant of the moment of `IsUtcMomentOfParts`; each of its errors is replaced by insufficient information
unfoldable pub IsInstantOfParts : ℕ → Record → Result Timestamp Refusal → Type 0
IsInstantOfParts Y r (Ok v) =
    (u : UtcDateTime) × IsUtcMomentOfParts Y r (Ok u) × (nanoseconds v ≡ utc_instant Y u)
IsInstantOfParts Y r (Err e) =
    ((refused : Refusal) × IsUtcMomentOfParts Y r (Err refused)) × (e ≡ insufficient)

-- the instant of a record: its timestamp, without regard to the subsecond, or else that of its parts
unfoldable pub IsTimestamp : ℕ → Record → Result Timestamp Refusal → Type 0
IsTimestamp Y r result = MatchOption r.unix_timestamp_nanos (IsInstantOfParts Y r result)
    (λ n. IsOkAnd result (λ v. (nanoseconds v ≡ n) × IsInstant Y (nanoseconds v)))
