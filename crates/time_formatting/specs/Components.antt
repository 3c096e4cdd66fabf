-- The text of each component of a moment. `Y` is the greatest year.
use Rattle.std.specs.Prelude.{ℕ, ◌+◌, ◌%◌, max, unsigned_abs, List, [], ◌∷◌, ◌++◌, take, ◌==◌, nat_lt, if◌then◌else◌, Option, Some, None, Result, Ok, Err, ◌-◌, ◌*◌, ◌/◌, ◌^◌, ◌≤◌, ◌≡◌, ℤ, pos, ◌*ℤ◌, int_lt, Bool}
use Rattle.time_values.specs.Names.{month_name, weekday_name, month_number, days_from_monday, weekday_at}
use Rattle.time_values.specs.Dates as Dates
use Rattle.time_values.specs.Moments.{offset_date, offset_instant, offset_of, offset_time}
use Rattle.time_values.specs.Offsets as Offsets
use Rattle.time_values.specs.DisplayTexts.{fixed, is_behind, significant}
use Rattle.time_values.specs.Times as Times
use Rattle.time_values.specs.declared.offset_date_time.OffsetDateTime.{OffsetDateTime}
use Rattle.time_values.specs.declared.weekday.Weekday.{Weekday}
use Rattle.time_values.specs.Sign.{signed_by}
use Rattle.time_digits.specs.declared.Padding.{Padding}
use Rattle.time_digits.specs.Digits.{NoDigitFirst}
use Rattle.time_digits.specs.declared.Padding.TheVariants as padding
use Rattle.time_components.specs.Spelling.{period_name, days_from_sunday, first_digit, least_digits, Value, number, signed, flagged, month, weekday, period, nothing, positive}
use Rattle.time_components.specs.declared.format_description.Component.{Component}
use Rattle.time_components.specs.declared.format_description.Component.TheVariants as component
use Rattle.time_components.specs.declared.format_description.Period.{Period}
use Rattle.time_components.specs.declared.format_description.Period.TheVariants.{Am, Pm}
use Rattle.time_components.specs.declared.modifier.SubsecondDigits.{SubsecondDigits}
use Rattle.time_components.specs.declared.modifier.SubsecondDigits.TheVariants.{OneOrMore}
use Rattle.time_formatting.specs.Numbers.{count_text, padded, sign_text, century, full_year, in_standard_range, iso_week, iso_year, whole, year_sign}
use Rattle.time_formatting.specs.declared.walk.Unformattable.{Unformattable}
use Rattle.time_formatting.specs.declared.walk.Unformattable.TheVariants as why

-- the hour on a clock of 12 hours, for an hour h of the day: 12 for 0 and for 12
abbrev pub hour_12 : ℕ → ℕ
hour_12 h = if h % 12 == 0 then 12 else h % 12

-- the half of the day: `Am` for an hour below 12, and otherwise `Pm`
abbrev pub half_of : ℕ → Period
half_of h = if nat_lt h 12 then Am else Pm

-- the weekday of the moment's date; `Y` is the greatest year
unfoldable pub weekday_of : ℕ → OffsetDateTime → Weekday
weekday_of Y v = weekday_at (Dates.weekday Y (offset_date v))

-- how many of the nine digits of n nanoseconds are written: the fixed number, or for `OneOrMore` those up to the last
-- that isn't 0, but at least one
abbrev pub count_of : SubsecondDigits → ℕ → ℕ
count_of OneOrMore n = max (significant 9 n) 1
count_of digits n = least_digits digits

-- the padding and the number of a component that is a number without a sign, padded to two digits; otherwise `None`
abbrev pub number_of : ℕ → OffsetDateTime → Component → Option (Padding × ℕ)
number_of Y v (component.Day m) = Some (m.padding, Dates.day (offset_date v))
number_of Y v (component.MonthNumerical m) = Some (m.padding, month_number (Dates.month (offset_date v)))
number_of Y v (component.WeekNumberIso m) = Some (m.padding, iso_week Y (offset_date v))
number_of Y v (component.WeekNumberSunday m) = Some (m.padding, Dates.weekdays_so_far Y 6 (offset_date v))
number_of Y v (component.WeekNumberMonday m) = Some (m.padding, Dates.weekdays_so_far Y 0 (offset_date v))
number_of Y v (component.CalendarYearLastTwo m) = Some (m.padding, unsigned_abs (Dates.year (offset_date v)) % 100)
number_of Y v (component.IsoYearLastTwo m) = Some (m.padding, unsigned_abs (iso_year Y (offset_date v)) % 100)
number_of Y v (component.Hour12 m) = Some (m.padding, hour_12 (Times.hour (offset_time v)))
number_of Y v (component.Hour24 m) = Some (m.padding, Times.hour (offset_time v))
number_of Y v (component.Minute m) = Some (m.padding, Times.minute (offset_time v))
number_of Y v (component.Second m) = Some (m.padding, Times.second (offset_time v))
number_of Y v (component.OffsetMinute m) = Some (m.padding, unsigned_abs (Offsets.minutes (offset_of v)))
number_of Y v (component.OffsetSecond m) = Some (m.padding, unsigned_abs (Offsets.seconds (offset_of v)))
number_of Y v _ = None

-- the text of a component that is a name, whole or short, of a month, a weekday or a half of the day; otherwise `None`
abbrev pub name_of : ℕ → OffsetDateTime → Component → Option (List ℕ)
name_of Y v (component.MonthShort m) = Some (take 3 (month_name (Dates.month (offset_date v))))
name_of Y v (component.MonthLong m) = Some (month_name (Dates.month (offset_date v)))
name_of Y v (component.WeekdayShort m) = Some (take 3 (weekday_name (weekday_of Y v)))
name_of Y v (component.WeekdayLong m) = Some (weekday_name (weekday_of Y v))
name_of Y v (component.Period m) = Some (period_name m.is_uppercase (half_of (Times.hour (offset_time v))))
name_of Y v _ = None

-- the text, or the error `Year`, of a component that is a whole year; `None` for any other component
abbrev pub year_of : ℕ → OffsetDateTime → Component → Option (Result (List ℕ) Unformattable)
year_of Y v (component.CalendarYearFullExtendedRange m) =
    Some (Ok (full_year m.sign_is_mandatory m.padding (Dates.year (offset_date v))))
year_of Y v (component.CalendarYearFullStandardRange m) =
    let y = Dates.year (offset_date v) in Some (in_standard_range y (full_year m.sign_is_mandatory m.padding y))
year_of Y v (component.IsoYearFullExtendedRange m) =
    Some (Ok (full_year m.sign_is_mandatory m.padding (iso_year Y (offset_date v))))
year_of Y v (component.IsoYearFullStandardRange m) =
    let y = iso_year Y (offset_date v) in Some (in_standard_range y (full_year m.sign_is_mandatory m.padding y))
year_of Y v _ = None

-- the text, or the error `Year`, of a component that is a year without its last two digits; `None` for any other
-- component
abbrev pub century_of : ℕ → OffsetDateTime → Component → Option (Result (List ℕ) Unformattable)
century_of Y v (component.CalendarYearCenturyExtendedRange m) =
    Some (Ok (century m.sign_is_mandatory m.padding (Dates.year (offset_date v))))
century_of Y v (component.CalendarYearCenturyStandardRange m) =
    let y = Dates.year (offset_date v) in Some (in_standard_range y (century m.sign_is_mandatory m.padding y))
century_of Y v (component.IsoYearCenturyExtendedRange m) =
    Some (Ok (century m.sign_is_mandatory m.padding (iso_year Y (offset_date v))))
century_of Y v (component.IsoYearCenturyStandardRange m) =
    let y = iso_year Y (offset_date v) in Some (in_standard_range y (century m.sign_is_mandatory m.padding y))
century_of Y v _ = None

-- the text of a component with `None` in the four tables above; the error `Ignore` for one in them, and for an `Ignore`
abbrev pub other_of : ℕ → OffsetDateTime → Component → Result (List ℕ) Unformattable
other_of Y v (component.Ordinal m) = Ok (padded m.padding 3 (Dates.ordinal (offset_date v)))
other_of Y v (component.WeekdaySunday m) = Ok ((first_digit m.one_indexed + days_from_sunday (weekday_of Y v)) ∷ [])
other_of Y v (component.WeekdayMonday m) = Ok ((first_digit m.one_indexed + days_from_monday (weekday_of Y v)) ∷ [])
other_of Y v (component.Subsecond m) =
    let n = Times.nanosecond (offset_time v) in Ok (take (count_of m.digits n) (fixed 9 n))
other_of Y v (component.OffsetHour m) =
    Ok (sign_text (is_behind (offset_of v)) m.sign_is_mandatory
    ++ padded m.padding 2 (unsigned_abs (Offsets.hours (offset_of v))))
other_of Y v (component.UnixTimestampSecond m) =
    Ok (count_text 1_000_000_000 m.sign_is_mandatory (offset_instant Y v))
other_of Y v (component.UnixTimestampMillisecond m) =
    Ok (count_text 1_000_000 m.sign_is_mandatory (offset_instant Y v))
other_of Y v (component.UnixTimestampMicrosecond m) = Ok (count_text 1000 m.sign_is_mandatory (offset_instant Y v))
other_of Y v (component.UnixTimestampNanosecond m) = Ok (count_text 1 m.sign_is_mandatory (offset_instant Y v))
other_of Y v (component.End m) = Ok []
other_of Y v _ = Err why.Ignore

-- the text of the number, padded to two digits, if there is a number, or else the other result
abbrev pub or_number : Option (Padding × ℕ) → Result (List ℕ) Unformattable → Result (List ℕ) Unformattable
or_number (Some x) other = Ok (padded x.0 2 x.1)
or_number None other = other

-- the name, if there is one, or else the other result
abbrev pub or_name : Option (List ℕ) → Result (List ℕ) Unformattable → Result (List ℕ) Unformattable
or_name (Some name) other = Ok name
or_name None other = other

-- the text or the error of a year, if there is a year, or else the other result
abbrev pub or_year : Option (Result (List ℕ) Unformattable) → Result (List ℕ) Unformattable
    → Result (List ℕ) Unformattable
or_year (Some text) other = text
or_year None other = other

-- the text of a component for the moment, or the error `Year` or `Ignore`; each component is in one of the five tables
abbrev pub component_text : ℕ → OffsetDateTime → Component → Result (List ℕ) Unformattable
component_text Y v c =
    or_number (number_of Y v c)
    (or_name (name_of Y v c) (or_year (year_of Y v c) (or_year (century_of Y v c) (other_of Y v c))))

-- ---- The values that components have for a moment, and what may follow their texts. `Y` is the greatest year.

-- n nanoseconds, with 0 in place of each of their nine digits after the first k
abbrev pub kept : ℕ → ℕ → ℕ
kept k n = n / 10 ^ (9 - k) * 10 ^ (9 - k)

-- the last two digits of a year, without its sign
abbrev pub last_two : ℤ → ℕ
last_two y = unsigned_abs y % 100

-- the value of a century: the year without its last two digits, and whether it has a minus, which may precede 0
abbrev pub century_value : ℤ → Value
century_value y = flagged (signed_by (int_lt y (pos 0)) (pos (unsigned_abs y / 100))) (int_lt y (pos 0))

-- the value of n nanoseconds, rounded down to a multiple of `unit` nanoseconds, also below 0
abbrev pub units_value : ℕ → ℤ → Value
units_value unit n = signed (whole unit n *ℤ pos unit)

-- the value that a component has for the moment; `Y` is the greatest year
abbrev pub value_of : ℕ → OffsetDateTime → Component → Value
value_of Y v (component.Day m) = number (Dates.day (offset_date v))
value_of Y v (component.MonthShort m) = month (Dates.month (offset_date v))
value_of Y v (component.MonthLong m) = month (Dates.month (offset_date v))
value_of Y v (component.MonthNumerical m) = month (Dates.month (offset_date v))
value_of Y v (component.Ordinal m) = number (Dates.ordinal (offset_date v))
value_of Y v (component.WeekdayShort m) = weekday (weekday_of Y v)
value_of Y v (component.WeekdayLong m) = weekday (weekday_of Y v)
value_of Y v (component.WeekdaySunday m) = weekday (weekday_of Y v)
value_of Y v (component.WeekdayMonday m) = weekday (weekday_of Y v)
value_of Y v (component.WeekNumberIso m) = number (iso_week Y (offset_date v))
value_of Y v (component.WeekNumberSunday m) = number (Dates.weekdays_so_far Y 6 (offset_date v))
value_of Y v (component.WeekNumberMonday m) = number (Dates.weekdays_so_far Y 0 (offset_date v))
value_of Y v (component.CalendarYearFullExtendedRange m) = signed (Dates.year (offset_date v))
value_of Y v (component.CalendarYearFullStandardRange m) = signed (Dates.year (offset_date v))
value_of Y v (component.IsoYearFullExtendedRange m) = signed (iso_year Y (offset_date v))
value_of Y v (component.IsoYearFullStandardRange m) = signed (iso_year Y (offset_date v))
value_of Y v (component.CalendarYearCenturyExtendedRange m) = century_value (Dates.year (offset_date v))
value_of Y v (component.CalendarYearCenturyStandardRange m) = century_value (Dates.year (offset_date v))
value_of Y v (component.IsoYearCenturyExtendedRange m) = century_value (iso_year Y (offset_date v))
value_of Y v (component.IsoYearCenturyStandardRange m) = century_value (iso_year Y (offset_date v))
value_of Y v (component.CalendarYearLastTwo m) = number (last_two (Dates.year (offset_date v)))
value_of Y v (component.IsoYearLastTwo m) = number (last_two (iso_year Y (offset_date v)))
value_of Y v (component.Hour12 m) = number (hour_12 (Times.hour (offset_time v)))
value_of Y v (component.Hour24 m) = number (Times.hour (offset_time v))
value_of Y v (component.Minute m) = number (Times.minute (offset_time v))
value_of Y v (component.Period m) = period (half_of (Times.hour (offset_time v)))
value_of Y v (component.Second m) = number (Times.second (offset_time v))
value_of Y v (component.Subsecond m) =
    let n = Times.nanosecond (offset_time v) in number (kept (count_of m.digits n) n)
value_of Y v (component.OffsetHour m) = flagged (Offsets.hours (offset_of v)) (is_behind (offset_of v))
value_of Y v (component.OffsetMinute m) = positive (unsigned_abs (Offsets.minutes (offset_of v)))
value_of Y v (component.OffsetSecond m) = positive (unsigned_abs (Offsets.seconds (offset_of v)))
value_of Y v (component.Ignore m) = nothing
value_of Y v (component.UnixTimestampSecond m) = units_value 1_000_000_000 (offset_instant Y v)
value_of Y v (component.UnixTimestampMillisecond m) = units_value 1_000_000 (offset_instant Y v)
value_of Y v (component.UnixTimestampMicrosecond m) = units_value 1000 (offset_instant Y v)
value_of Y v (component.UnixTimestampNanosecond m) = units_value 1 (offset_instant Y v)
value_of Y v (component.End m) = nothing

-- The rest may follow a number with that padding: for `None` it doesn't begin with a digit; else it may be any rest.
abbrev pub PaddedStops : Padding → List ℕ → Type 0
PaddedStops padding.None rest = NoDigitFirst rest
PaddedStops p rest = Unit {0}

-- The rest may follow a century n without a sign: for `Space` n is at least 10, and the rest is any; for `None` the
-- rest doesn't begin with a digit; for `Zero` it is any.
abbrev pub BareStops : Padding → ℕ → List ℕ → Type 0
BareStops padding.Space n rest = 10 ≤ n
BareStops p n rest = PaddedStops p rest

-- The rest may follow a number: by the condition `behind` if the number has a sign, and otherwise by `alone`.
abbrev pub SignedStops : List ℕ → (List ℕ → Type 0) → (List ℕ → Type 0) → List ℕ → Type 0
SignedStops [] behind alone = alone
SignedStops (c ∷ sign) behind alone = behind

-- The rest may follow a year of the extended range: if that has a sign or no padding, no digit begins the rest.
abbrev pub YearStops : Bool → Padding → ℤ → List ℕ → Type 0
YearStops sign_is_mandatory p y = SignedStops (year_sign sign_is_mandatory y) NoDigitFirst (PaddedStops p)

-- The rest may follow a century: by the condition `behind` if it has a sign, and otherwise by `BareStops`.
abbrev pub CenturyStops : (List ℕ → Type 0) → Bool → Padding → ℤ → List ℕ → Type 0
CenturyStops behind sign_is_mandatory p y =
    SignedStops (year_sign sign_is_mandatory y) behind (BareStops p (unsigned_abs y / 100))

-- The rest may follow a fraction: for `OneOrMore` it doesn't begin with a digit; otherwise it may be any rest.
abbrev pub FractionStops : SubsecondDigits → List ℕ → Type 0
FractionStops OneOrMore rest = NoDigitFirst rest
FractionStops digits rest = Unit {0}

-- The rest may follow the component's text: a parser then reads all of that text, as the component's value for the
-- moment. Only an empty rest may follow an `End`, and any rest may follow a component that isn't listed below.
abbrev pub Stops : ℕ → OffsetDateTime → Component → List ℕ → Type 0
Stops Y v (component.Day m) = PaddedStops m.padding
Stops Y v (component.MonthNumerical m) = PaddedStops m.padding
Stops Y v (component.Ordinal m) = PaddedStops m.padding
Stops Y v (component.WeekNumberIso m) = PaddedStops m.padding
Stops Y v (component.WeekNumberSunday m) = PaddedStops m.padding
Stops Y v (component.WeekNumberMonday m) = PaddedStops m.padding
Stops Y v (component.CalendarYearFullExtendedRange m) =
    YearStops m.sign_is_mandatory m.padding (Dates.year (offset_date v))
Stops Y v (component.CalendarYearFullStandardRange m) = PaddedStops m.padding
Stops Y v (component.IsoYearFullExtendedRange m) =
    YearStops m.sign_is_mandatory m.padding (iso_year Y (offset_date v))
Stops Y v (component.IsoYearFullStandardRange m) = PaddedStops m.padding
Stops Y v (component.CalendarYearCenturyExtendedRange m) =
    CenturyStops NoDigitFirst m.sign_is_mandatory m.padding (Dates.year (offset_date v))
Stops Y v (component.CalendarYearCenturyStandardRange m) =
    CenturyStops (PaddedStops m.padding) m.sign_is_mandatory m.padding (Dates.year (offset_date v))
Stops Y v (component.IsoYearCenturyExtendedRange m) =
    CenturyStops NoDigitFirst m.sign_is_mandatory m.padding (iso_year Y (offset_date v))
Stops Y v (component.IsoYearCenturyStandardRange m) =
    CenturyStops (PaddedStops m.padding) m.sign_is_mandatory m.padding (iso_year Y (offset_date v))
Stops Y v (component.CalendarYearLastTwo m) = PaddedStops m.padding
Stops Y v (component.IsoYearLastTwo m) = PaddedStops m.padding
Stops Y v (component.Hour12 m) = PaddedStops m.padding
Stops Y v (component.Hour24 m) = PaddedStops m.padding
Stops Y v (component.Minute m) = PaddedStops m.padding
Stops Y v (component.Second m) = PaddedStops m.padding
Stops Y v (component.Subsecond m) = FractionStops m.digits
Stops Y v (component.OffsetHour m) = PaddedStops m.padding
Stops Y v (component.OffsetMinute m) = PaddedStops m.padding
Stops Y v (component.OffsetSecond m) = PaddedStops m.padding
Stops Y v (component.UnixTimestampSecond m) = NoDigitFirst
Stops Y v (component.UnixTimestampMillisecond m) = NoDigitFirst
Stops Y v (component.UnixTimestampMicrosecond m) = NoDigitFirst
Stops Y v (component.UnixTimestampNanosecond m) = NoDigitFirst
Stops Y v (component.End m) = λ rest. rest ≡ []
Stops Y v _ = λ rest. Unit {0}
