-- The record after storing a component's value, and a component's error. `Y` is the greatest year.
use Rattle.std.specs.Prelude.{ℕ, ℤ, Bool, true, false, Option, Some, None, codes}
use Rattle.std.specs.Option.{option_map}
use Rattle.time_values.specs.Refusal.{Refusal, component as of_component, trailing}
use Rattle.time_components.specs.declared.format_description.Component.{Component}
use Rattle.time_components.specs.declared.format_description.Component.TheVariants as component
use Rattle.time_components.specs.declared.format_description.Period.{Period}
use Rattle.time_components.specs.declared.format_description.Period.TheVariants.{Am, Pm}
use Rattle.time_components.specs.Spelling.{Value, number, signed, flagged, month, weekday, period}
use Rattle.time_record.specs.Record.{Record, Entry, put, year_is, year_century_is, year_last_two_is, iso_year_is, iso_year_century_is, iso_year_last_two_is, month_is, sunday_week_number_is, monday_week_number_is, iso_week_number_is, weekday_is, ordinal_is, day_is, hour_24_is, hour_12_is, hour_12_is_pm_is, minute_is, second_is, subsecond_is, offset_hour_is, offset_minute_is, offset_second_is, unix_timestamp_nanos_is}

-- whether the half of the day is PM, the second
abbrev pub is_pm : Period → Bool
is_pm Am = false
is_pm Pm = true

-- the record with a number stored as that entry, or none if it is out of range or the value is no unsigned number
abbrev pub put_number : ℕ → (ℕ → Entry) → Value → Record → Option Record
put_number Y entry (number n) r = put Y (entry n) r
put_number Y entry value r = None

-- the record with a signed number stored as that entry, or none if it is out of range or the value is no signed number
abbrev pub put_signed : ℕ → (ℤ → Entry) → Value → Record → Option Record
put_signed Y entry (signed n) r = put Y (entry n) r
put_signed Y entry value r = None

-- the record with a century stored as that entry, and whether it is negative (by `century_sign`), or none if it is out
-- of range or the value is no number with a minus flag
abbrev pub put_century : ℕ → (ℤ → Bool → Entry) → Value → Record → Option Record
put_century Y entry (flagged n minus) r = put Y (entry n minus) r
put_century Y entry value r = None

-- the record with the flag of a negative offset set or cleared
abbrev pub with_offset_sign : Bool → Record → Record
with_offset_sign minus r = record r { offset_is_negative = minus }

-- the record with an offset's hour stored, and whether it has a minus, or none if it is out of range or the value is no
-- number with a minus flag
abbrev pub put_offset_hour : ℕ → Value → Record → Option Record
put_offset_hour Y (flagged n minus) r =
    option_map (with_offset_sign minus) (put Y (offset_hour_is n) r)
put_offset_hour Y value r = None

-- the record with a month stored, or none if the value is no month
abbrev pub put_month : ℕ → Value → Record → Option Record
put_month Y (month m) r = put Y (month_is m) r
put_month Y value r = None

-- the record with a weekday stored, or none if the value is no weekday
abbrev pub put_weekday : ℕ → Value → Record → Option Record
put_weekday Y (weekday w) r = put Y (weekday_is w) r
put_weekday Y value r = None

-- the record with a half of the day stored, or none if the value is no half of the day
abbrev pub put_period : ℕ → Value → Record → Option Record
put_period Y (period p) r = put Y (hour_12_is_pm_is (is_pm p)) r
put_period Y value r = None

-- the record with a component's value stored, or none if the value is out of range or not of the component's kind; an
-- `Ignore` and an `End` leave the record unchanged, whatever the value
abbrev pub put_value : ℕ → Component → Value → Record → Option Record
put_value Y (component.Day m) value r = put_number Y day_is value r
put_value Y (component.MonthShort m) value r = put_month Y value r
put_value Y (component.MonthLong m) value r = put_month Y value r
put_value Y (component.MonthNumerical m) value r = put_month Y value r
put_value Y (component.Ordinal m) value r = put_number Y ordinal_is value r
put_value Y (component.WeekdayShort m) value r = put_weekday Y value r
put_value Y (component.WeekdayLong m) value r = put_weekday Y value r
put_value Y (component.WeekdaySunday m) value r = put_weekday Y value r
put_value Y (component.WeekdayMonday m) value r = put_weekday Y value r
put_value Y (component.WeekNumberIso m) value r = put_number Y iso_week_number_is value r
put_value Y (component.WeekNumberSunday m) value r = put_number Y sunday_week_number_is value r
put_value Y (component.WeekNumberMonday m) value r = put_number Y monday_week_number_is value r
put_value Y (component.CalendarYearFullExtendedRange m) value r = put_signed Y year_is value r
put_value Y (component.CalendarYearFullStandardRange m) value r = put_signed Y year_is value r
put_value Y (component.IsoYearFullExtendedRange m) value r = put_signed Y iso_year_is value r
put_value Y (component.IsoYearFullStandardRange m) value r = put_signed Y iso_year_is value r
put_value Y (component.CalendarYearCenturyExtendedRange m) value r = put_century Y year_century_is value r
put_value Y (component.CalendarYearCenturyStandardRange m) value r = put_century Y year_century_is value r
put_value Y (component.IsoYearCenturyExtendedRange m) value r = put_century Y iso_year_century_is value r
put_value Y (component.IsoYearCenturyStandardRange m) value r = put_century Y iso_year_century_is value r
put_value Y (component.CalendarYearLastTwo m) value r = put_number Y year_last_two_is value r
put_value Y (component.IsoYearLastTwo m) value r = put_number Y iso_year_last_two_is value r
put_value Y (component.Hour12 m) value r = put_number Y hour_12_is value r
put_value Y (component.Hour24 m) value r = put_number Y hour_24_is value r
put_value Y (component.Minute m) value r = put_number Y minute_is value r
put_value Y (component.Period m) value r = put_period Y value r
put_value Y (component.Second m) value r = put_number Y second_is value r
put_value Y (component.Subsecond m) value r = put_number Y subsecond_is value r
put_value Y (component.OffsetHour m) value r = put_offset_hour Y value r
put_value Y (component.OffsetMinute m) value r = put_signed Y offset_minute_is value r
put_value Y (component.OffsetSecond m) value r = put_signed Y offset_second_is value r
put_value Y (component.Ignore m) value r = Some r
put_value Y (component.UnixTimestampSecond m) value r = put_signed Y unix_timestamp_nanos_is value r
put_value Y (component.UnixTimestampMillisecond m) value r = put_signed Y unix_timestamp_nanos_is value r
put_value Y (component.UnixTimestampMicrosecond m) value r = put_signed Y unix_timestamp_nanos_is value r
put_value Y (component.UnixTimestampNanosecond m) value r = put_signed Y unix_timestamp_nanos_is value r
put_value Y (component.End m) value r = Some r

-- the error of a component that doesn't match, or whose value is out of range: for an `End` trailing characters, and
-- else invalid component, with a name that related components share, as "year"
abbrev pub component_fault : Component → Refusal
component_fault (component.Day m) = of_component (codes "day")
component_fault (component.MonthShort m) = of_component (codes "month")
component_fault (component.MonthLong m) = of_component (codes "month")
component_fault (component.MonthNumerical m) = of_component (codes "month")
component_fault (component.Ordinal m) = of_component (codes "ordinal")
component_fault (component.WeekdayShort m) = of_component (codes "weekday")
component_fault (component.WeekdayLong m) = of_component (codes "weekday")
component_fault (component.WeekdaySunday m) = of_component (codes "weekday")
component_fault (component.WeekdayMonday m) = of_component (codes "weekday")
component_fault (component.WeekNumberIso m) = of_component (codes "week number")
component_fault (component.WeekNumberSunday m) = of_component (codes "week number")
component_fault (component.WeekNumberMonday m) = of_component (codes "week number")
component_fault (component.CalendarYearFullExtendedRange m) = of_component (codes "year")
component_fault (component.CalendarYearFullStandardRange m) = of_component (codes "year")
component_fault (component.IsoYearFullExtendedRange m) = of_component (codes "year")
component_fault (component.IsoYearFullStandardRange m) = of_component (codes "year")
component_fault (component.CalendarYearCenturyExtendedRange m) = of_component (codes "year")
component_fault (component.CalendarYearCenturyStandardRange m) = of_component (codes "year")
component_fault (component.IsoYearCenturyExtendedRange m) = of_component (codes "year")
component_fault (component.IsoYearCenturyStandardRange m) = of_component (codes "year")
component_fault (component.CalendarYearLastTwo m) = of_component (codes "year")
component_fault (component.IsoYearLastTwo m) = of_component (codes "year")
component_fault (component.Hour12 m) = of_component (codes "hour")
component_fault (component.Hour24 m) = of_component (codes "hour")
component_fault (component.Minute m) = of_component (codes "minute")
component_fault (component.Period m) = of_component (codes "period")
component_fault (component.Second m) = of_component (codes "second")
component_fault (component.Subsecond m) = of_component (codes "subsecond")
component_fault (component.OffsetHour m) = of_component (codes "offset hour")
component_fault (component.OffsetMinute m) = of_component (codes "offset minute")
component_fault (component.OffsetSecond m) = of_component (codes "offset second")
component_fault (component.Ignore m) = of_component (codes "ignore")
component_fault (component.UnixTimestampSecond m) = of_component (codes "unix_timestamp")
component_fault (component.UnixTimestampMillisecond m) = of_component (codes "unix_timestamp")
component_fault (component.UnixTimestampMicrosecond m) = of_component (codes "unix_timestamp")
component_fault (component.UnixTimestampNanosecond m) = of_component (codes "unix_timestamp")
component_fault (component.End m) = trailing
