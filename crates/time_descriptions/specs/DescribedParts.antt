-- No public contract rests on this file.
--
-- The parts of the text of a component, between its brackets: its name with the modifiers that select its form, its
-- padding, another modifier, and the digits of its count.
use Rattle.std.specs.Prelude.{ℕ, List, [], ◌++◌, codes, if◌then◌else◌, ◌≡◌, ◌+◌, ◌<◌, length, Result, Ok, Err}
use Rattle.std.specs.Fmt.{decimal}
use Rattle.time_components.specs.declared.format_description.Component.{Component}
use Rattle.time_components.specs.declared.format_description.Component.TheVariants as component
use Rattle.time_components.specs.Tree.{Tree}
use Rattle.time_descriptions.specs.Writing.{padding_text, sign_text, case_sensitive_text, one_indexed_text, digits_text, trailing_input_text, tree_text}

-- the component's name, and its modifiers `repr`, `range`, `base`, `precision` and `case` unless they have their
-- defaults; for `Ignore`, the key of its count follows
abbrev pub name_part : Component → List ℕ
name_part (component.Day m) = codes "day"
name_part (component.MonthShort m) = codes "month repr:short"
name_part (component.MonthLong m) = codes "month repr:long"
name_part (component.MonthNumerical m) = codes "month"
name_part (component.Ordinal m) = codes "ordinal"
name_part (component.WeekdayShort m) = codes "weekday repr:short"
name_part (component.WeekdayLong m) = codes "weekday"
name_part (component.WeekdaySunday m) = codes "weekday repr:sunday"
name_part (component.WeekdayMonday m) = codes "weekday repr:monday"
name_part (component.WeekNumberIso m) = codes "week_number"
name_part (component.WeekNumberSunday m) = codes "week_number repr:sunday"
name_part (component.WeekNumberMonday m) = codes "week_number repr:monday"
name_part (component.CalendarYearFullExtendedRange m) = codes "year"
name_part (component.CalendarYearFullStandardRange m) = codes "year range:standard"
name_part (component.IsoYearFullExtendedRange m) = codes "year base:iso_week"
name_part (component.IsoYearFullStandardRange m) = codes "year base:iso_week range:standard"
name_part (component.CalendarYearCenturyExtendedRange m) = codes "year repr:century"
name_part (component.CalendarYearCenturyStandardRange m) = codes "year repr:century range:standard"
name_part (component.IsoYearCenturyExtendedRange m) = codes "year repr:century base:iso_week"
name_part (component.IsoYearCenturyStandardRange m) = codes "year repr:century base:iso_week range:standard"
name_part (component.CalendarYearLastTwo m) = codes "year repr:last_two"
name_part (component.IsoYearLastTwo m) = codes "year repr:last_two base:iso_week"
name_part (component.Hour12 m) = codes "hour repr:12"
name_part (component.Hour24 m) = codes "hour"
name_part (component.Minute m) = codes "minute"
name_part (component.Period m) = if m.is_uppercase then codes "period" else codes "period case:lower"
name_part (component.Second m) = codes "second"
name_part (component.Subsecond m) = codes "subsecond"
name_part (component.OffsetHour m) = codes "offset_hour"
name_part (component.OffsetMinute m) = codes "offset_minute"
name_part (component.OffsetSecond m) = codes "offset_second"
name_part (component.Ignore m) = codes "ignore count:"
name_part (component.UnixTimestampSecond m) = codes "unix_timestamp"
name_part (component.UnixTimestampMillisecond m) = codes "unix_timestamp precision:millisecond"
name_part (component.UnixTimestampMicrosecond m) = codes "unix_timestamp precision:microsecond"
name_part (component.UnixTimestampNanosecond m) = codes "unix_timestamp precision:nanosecond"
name_part (component.End m) = codes "end"

-- a space and the component's modifier `padding`; empty if that is the default, zeros, or if the component has none
abbrev pub padding_part : Component → List ℕ
padding_part (component.Day m) = padding_text m.padding
padding_part (component.MonthNumerical m) = padding_text m.padding
padding_part (component.Ordinal m) = padding_text m.padding
padding_part (component.WeekNumberIso m) = padding_text m.padding
padding_part (component.WeekNumberSunday m) = padding_text m.padding
padding_part (component.WeekNumberMonday m) = padding_text m.padding
padding_part (component.CalendarYearFullExtendedRange m) = padding_text m.padding
padding_part (component.CalendarYearFullStandardRange m) = padding_text m.padding
padding_part (component.IsoYearFullExtendedRange m) = padding_text m.padding
padding_part (component.IsoYearFullStandardRange m) = padding_text m.padding
padding_part (component.CalendarYearCenturyExtendedRange m) = padding_text m.padding
padding_part (component.CalendarYearCenturyStandardRange m) = padding_text m.padding
padding_part (component.IsoYearCenturyExtendedRange m) = padding_text m.padding
padding_part (component.IsoYearCenturyStandardRange m) = padding_text m.padding
padding_part (component.CalendarYearLastTwo m) = padding_text m.padding
padding_part (component.IsoYearLastTwo m) = padding_text m.padding
padding_part (component.Hour12 m) = padding_text m.padding
padding_part (component.Hour24 m) = padding_text m.padding
padding_part (component.Minute m) = padding_text m.padding
padding_part (component.Second m) = padding_text m.padding
padding_part (component.OffsetHour m) = padding_text m.padding
padding_part (component.OffsetMinute m) = padding_text m.padding
padding_part (component.OffsetSecond m) = padding_text m.padding
padding_part _ = []

-- a space and the component's modifier `case_sensitive`, `one_indexed`, `sign`, `digits` or `trailing_input`; empty if
-- it has the default, or if the component has none of these
abbrev pub modifier_part : Component → List ℕ
modifier_part (component.MonthShort m) = case_sensitive_text m.case_sensitive
modifier_part (component.MonthLong m) = case_sensitive_text m.case_sensitive
modifier_part (component.WeekdayShort m) = case_sensitive_text m.case_sensitive
modifier_part (component.WeekdayLong m) = case_sensitive_text m.case_sensitive
modifier_part (component.WeekdaySunday m) = one_indexed_text m.one_indexed
modifier_part (component.WeekdayMonday m) = one_indexed_text m.one_indexed
modifier_part (component.CalendarYearFullExtendedRange m) = sign_text m.sign_is_mandatory
modifier_part (component.CalendarYearFullStandardRange m) = sign_text m.sign_is_mandatory
modifier_part (component.IsoYearFullExtendedRange m) = sign_text m.sign_is_mandatory
modifier_part (component.IsoYearFullStandardRange m) = sign_text m.sign_is_mandatory
modifier_part (component.CalendarYearCenturyExtendedRange m) = sign_text m.sign_is_mandatory
modifier_part (component.CalendarYearCenturyStandardRange m) = sign_text m.sign_is_mandatory
modifier_part (component.IsoYearCenturyExtendedRange m) = sign_text m.sign_is_mandatory
modifier_part (component.IsoYearCenturyStandardRange m) = sign_text m.sign_is_mandatory
modifier_part (component.Period m) = case_sensitive_text m.case_sensitive
modifier_part (component.Subsecond m) = digits_text m.digits
modifier_part (component.OffsetHour m) = sign_text m.sign_is_mandatory
modifier_part (component.UnixTimestampSecond m) = sign_text m.sign_is_mandatory
modifier_part (component.UnixTimestampMillisecond m) = sign_text m.sign_is_mandatory
modifier_part (component.UnixTimestampMicrosecond m) = sign_text m.sign_is_mandatory
modifier_part (component.UnixTimestampNanosecond m) = sign_text m.sign_is_mandatory
modifier_part (component.End m) = trailing_input_text m.trailing_input
modifier_part _ = []

-- the decimal count of an `Ignore`, or nothing for another component
abbrev pub count_part : Component → List ℕ
count_part (component.Ignore m) = decimal m.count.value
count_part _ = []

-- the text between the brackets of a component: its name, its padding, its other modifier and its count, in order
abbrev pub parts_of : Component → List ℕ
parts_of c = name_part c ++ (padding_part c ++ (modifier_part c ++ count_part c))

-- ---- The effect of a writer on the bytes written so far

-- After `Ok`, the new bytes are the old ones followed by `bytes`. An error means that these are more than n bytes, and
-- then the new ones are unspecified.
abbrev pub Puts : {A E : Type 0} → ℕ → List ℕ → List ℕ → Result A E → List ℕ → Type 0
Puts n bytes old (Ok x) new = new ≡ old ++ bytes
Puts n bytes old (Err e) new = n < length old + length bytes

-- the text of a list of a choice: its text in brackets, after a space
abbrev pub list_text : Tree → List ℕ
list_text t = codes " [" ++ (tree_text t ++ codes "]")
