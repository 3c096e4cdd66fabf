-- Texts of moments by RFC 3339, section 5.6, by RFC 2822, section 3.3, and by ISO 8601.
use Rattle.std.specs.Prelude.{◌≡◌, ℕ, min, pos, neg_ℤ, int_lt, unsigned_abs, List, ◌∷◌, ◌++◌, codes, take, Bool, ◌||◌, ◌&&◌, if◌then◌else◌, Option, None, Some, Result, Err, IsOkAnd, MatchOption}
use Rattle.std.specs.Ordering.{int_eq}
use Rattle.std.specs.Fmt.{signed_decimal}
use Rattle.time_values.specs.Dates as Dates
use Rattle.time_values.specs.Moments.{offset_date, offset_time, offset_of, nanoseconds}
use Rattle.time_values.specs.Names.{month_number, month_name, weekday_name, days_from_monday}
use Rattle.time_values.specs.Offsets as Offsets
use Rattle.time_values.specs.DisplayTexts.{Items, fixed, significant, fraction_display}
use Rattle.time_values.specs.Times as Times
use Rattle.time_values.specs.Calendar.{greatest_year}
use Rattle.time_values.specs.declared.date.Date.{Date}
use Rattle.time_values.specs.declared.month.Month.{Month}
use Rattle.time_values.specs.declared.weekday.Weekday.{Weekday}
use Rattle.time_values.specs.declared.time.Time.{Time}
use Rattle.time_values.specs.declared.utc_offset.UtcOffset.{UtcOffset}
use Rattle.time_values.specs.declared.offset_date_time.OffsetDateTime.{OffsetDateTime}
use Rattle.time_values.specs.declared.timestamp.Timestamp.{Timestamp}
use Rattle.time_formatting.specs.declared.parts.FractionDigits.{FractionDigits}
use Rattle.time_formatting.specs.declared.parts.FractionDigits.TheVariants.{Auto, Exactly}
use Rattle.time_formatting.specs.declared.parts.Unwritable.{Unwritable}
use Rattle.time_formatting.specs.declared.parts.Unwritable.TheVariants.{Year, OffsetHour, OffsetSecond}

-- how many of the nine digits of n nanoseconds are written: for `Auto` those up to the last that isn't 0; else min k 9
abbrev pub count_of : FractionDigits → ℕ → ℕ
count_of Auto n = significant 9 n
count_of (Exactly k) n = min k 9

-- the date as `YYYY-MM-DD`, with the last four digits of its year, and without the sign of its year
abbrev pub date_text : Date → List ℕ
date_text d = fixed 4 (unsigned_abs (Dates.year d)) ++ codes "-" ++ fixed 2 (month_number (Dates.month d))
    ++ codes "-" ++ fixed 2 (Dates.day d)

-- the time as `HH:MM:SS`, without its fraction
abbrev pub clock_text : Time → List ℕ
clock_text t = fixed 2 (Times.hour t) ++ codes ":" ++ fixed 2 (Times.minute t) ++ codes ":" ++ fixed 2 (Times.second t)

-- whether the hours or the minutes of the offset are below 0, whatever its seconds are
abbrev pub is_behind : UtcOffset → Bool
is_behind o = int_lt (Offsets.hours o) (pos 0) || int_lt (Offsets.minutes o) (pos 0)

-- `-` if the hours or the minutes of the offset are below 0, and otherwise `+`
abbrev pub offset_sign : UtcOffset → ℕ
offset_sign o = if is_behind o then 45 else 43

-- whether the hours and the minutes of the offset are 0, whatever its seconds are
abbrev pub is_none : UtcOffset → Bool
is_none o = int_eq (Offsets.hours o) (pos 0) && int_eq (Offsets.minutes o) (pos 0)

-- `+HH:MM` or `-HH:MM`, without the seconds of the offset
abbrev pub numeric_text : UtcOffset → List ℕ
numeric_text o =
    offset_sign o ∷ fixed 2 (unsigned_abs (Offsets.hours o)) ++ codes ":"
    ++ fixed 2 (unsigned_abs (Offsets.minutes o))

-- `Z` if the hours and the minutes of the offset are 0, and otherwise `+HH:MM` or `-HH:MM`
abbrev pub offset_text : UtcOffset → List ℕ
offset_text o = if is_none o then codes "Z" else numeric_text o

-- `YYYY-MM-DDTHH:MM:SS`, a point and k digits of the fraction unless k is 0, and the offset
abbrev pub moment_text : ℕ → OffsetDateTime → List ℕ
moment_text k v =
    date_text (offset_date v) ++ codes "T" ++ clock_text (offset_time v)
    ++ fraction_display k (Times.nanosecond (offset_time v)) ++ offset_text (offset_of v)

-- `+HHMM` or `-HHMM`, without the seconds of the offset
abbrev pub zone_text : UtcOffset → List ℕ
zone_text o = offset_sign o ∷ fixed 2 (unsigned_abs (Offsets.hours o)) ++ fixed 2 (unsigned_abs (Offsets.minutes o))

-- `Z` if the hours and the minutes of the offset are 0, and otherwise `+HHMM` or `-HHMM`
abbrev pub basic_offset_text : UtcOffset → List ℕ
basic_offset_text o = if is_none o then codes "Z" else zone_text o

-- `YYYYMMDDTHHMMSS` and the offset, without the fraction
abbrev pub basic_text : OffsetDateTime → List ℕ
basic_text v =
    fixed 4 (unsigned_abs (Dates.year (offset_date v))) ++ fixed 2 (month_number (Dates.month (offset_date v)))
    ++ fixed 2 (Dates.day (offset_date v)) ++ codes "T" ++ fixed 2 (Times.hour (offset_time v))
    ++ fixed 2 (Times.minute (offset_time v)) ++ fixed 2 (Times.second (offset_time v))
    ++ basic_offset_text (offset_of v)

-- the first error of a moment without a text of RFC 3339, and so of ISO 8601: the year is outside 0 to 9999, the hours
-- of the offset are outside -23 to 23, or its seconds aren't 0; none if it has a text
abbrev pub unwritable_3339 : OffsetDateTime → Option Unwritable
unwritable_3339 v =
    if int_lt (Dates.year (offset_date v)) (pos 0) || int_lt (pos 9999) (Dates.year (offset_date v)) then Some Year else
    if int_lt (Offsets.hours (offset_of v)) (neg_ℤ (pos 23)) || int_lt (pos 23) (Offsets.hours (offset_of v))
    then Some OffsetHour else
    if int_eq (Offsets.seconds (offset_of v)) (pos 0) then None else Some OffsetSecond

-- the first three letters of a weekday's English name
abbrev pub short_weekday : Weekday → List ℕ
short_weekday w = take 3 (weekday_name w)

-- the first three letters of a month's English name
abbrev pub short_month : Month → List ℕ
short_month m = take 3 (month_name m)

-- the moment's text by RFC 2822, such as `Sat, 02 Jan 2021 03:04:05 +0607`, but with the weekday w
abbrev pub mail_text : Weekday → OffsetDateTime → List ℕ
mail_text w v =
    short_weekday w ++ codes ", " ++ fixed 2 (Dates.day (offset_date v)) ++ codes " "
    ++ short_month (Dates.month (offset_date v)) ++ codes " "
    ++ fixed 4 (unsigned_abs (Dates.year (offset_date v))) ++ codes " "
    ++ clock_text (offset_time v) ++ codes " " ++ zone_text (offset_of v)

-- The bytes are the text of the moment by RFC 2822, with the weekday of its date.
abbrev pub IsMailText : OffsetDateTime → List ℕ → Type 0
IsMailText v bytes =
    (w : Weekday) × (days_from_monday w ≡ Dates.weekday greatest_year (offset_date v)) × (bytes ≡ mail_text w v)

-- the first error of a moment without a text of RFC 2822: the year is outside 1900 to 9999, or the seconds of the
-- offset aren't 0; none if it has a text
abbrev pub unwritable_2822 : OffsetDateTime → Option Unwritable
unwritable_2822 v =
    if int_lt (Dates.year (offset_date v)) (pos 1900) || int_lt (pos 9999) (Dates.year (offset_date v))
    then Some Year else
    if int_eq (Offsets.seconds (offset_of v)) (pos 0) then None else Some OffsetSecond

-- The result is that error; or, without an error, a text with the property.
abbrev pub WritesTextWith : Option Unwritable → (List ℕ → Type 0) → Result Items Unwritable → Type 0
WritesTextWith reason such result =
    MatchOption reason (IsOkAnd result (λ text. such text.items)) (λ why. result ≡ Err why)

-- The result is that error; or, without an error, a text of those bytes.
abbrev pub Writes : Option Unwritable → List ℕ → Result Items Unwritable → Type 0
Writes reason bytes result =
    MatchOption reason (IsOkAnd result (λ text. text.items ≡ bytes)) (λ why. result ≡ Err why)

-- ---- The printed texts of values

-- the nanoseconds since 1970 as a decimal number, with `-` if it is below 0
abbrev pub timestamp_display : Timestamp → List ℕ
timestamp_display t = signed_decimal (nanoseconds t)

-- values that print alike are equal
abbrev pub IsInjective : {V : Type 0} → (V → List ℕ) → Type 0
IsInjective {V} shown = (v w : V) → shown v ≡ shown w → v ≡ w

-- ---- Printed messages of errors

-- the name of the component that the error is about
abbrev unwritable_name : Unwritable → List ℕ
unwritable_name Year = codes "year"
unwritable_name OffsetHour = codes "offset_hour"
unwritable_name OffsetSecond = codes "offset_second"

-- the message that `Display` prints for the error
abbrev pub unwritable_text : Unwritable → List ℕ
unwritable_text e =
    codes "The " ++ unwritable_name e ++ codes " component cannot be formatted into the requested format."
