-- The values of a component's modifiers, and the component that they select.
use Rattle.std.specs.Prelude.{Bool, true, false, Option, Some, None}
use Rattle.std.specs.Option.{option_map}
use Rattle.time_digits.specs.declared.Padding.TheVariants as padding
use Rattle.time_components.specs.declared.format_description.Component.{Component}
use Rattle.time_components.specs.declared.format_description.Component.TheVariants as component
use Rattle.time_components.specs.declared.modifier.SubsecondDigits.TheVariants as digits
use Rattle.time_components.specs.declared.modifier.TrailingInput.TheVariants as trailing
use Rattle.time_descriptions.specs.declared.modifiers.Modifiers.{Modifiers}
use Rattle.time_descriptions.specs.declared.names.ComponentName.{ComponentName}
use Rattle.time_descriptions.specs.declared.names.ComponentName.TheVariants as name
use Rattle.time_descriptions.specs.declared.values.Modifier.{Modifier}
use Rattle.time_descriptions.specs.declared.values.Modifier.TheVariants as modifier
use Rattle.time_descriptions.specs.declared.values.Precision.{Precision}
use Rattle.time_descriptions.specs.declared.values.Precision.TheVariants as precision
use Rattle.time_descriptions.specs.declared.values.Representation.{Representation}
use Rattle.time_descriptions.specs.declared.values.Representation.TheVariants as form

-- the values of a component in whose brackets no modifier is written
abbrev pub default : Modifiers
default =
    record {
      is_iso_week = false;
      is_uppercase = true;
      case_sensitive = true;
      count = None;
      digits = digits.OneOrMore;
      one_indexed = true;
      padding = padding.Zero;
      precision = precision.Second;
      is_extended = true;
      representation = form.Default;
      sign_is_mandatory = false;
      trailing_input = trailing.Prohibit;
    }

-- the values with one more modifier, which replaces an earlier value of its key; all other values are unchanged
abbrev pub with_modifier : Modifiers → Modifier → Modifiers
with_modifier m (modifier.Base value) = record m { is_iso_week = value }
with_modifier m (modifier.Case value) = record m { is_uppercase = value }
with_modifier m (modifier.CaseSensitive value) = record m { case_sensitive = value }
with_modifier m (modifier.Count value) = record m { count = Some value }
with_modifier m (modifier.Digits value) = record m { digits = value }
with_modifier m (modifier.OneIndexed value) = record m { one_indexed = value }
with_modifier m (modifier.Padding value) = record m { padding = value }
with_modifier m (modifier.Precision value) = record m { precision = value }
with_modifier m (modifier.Range value) = record m { is_extended = value }
with_modifier m (modifier.Representation value) = record m { representation = value }
with_modifier m (modifier.Sign value) = record m { sign_is_mandatory = value }
with_modifier m (modifier.TrailingInput value) = record m { trailing_input = value }

-- a full year with the padding and the sign of the values, given whether it is of an ISO week date, and whether its
-- range is extended
abbrev pub full_year : Bool → Bool → Modifiers → Component
full_year false true m =
    component.CalendarYearFullExtendedRange (record { padding = m.padding; sign_is_mandatory = m.sign_is_mandatory })
full_year false false m =
    component.CalendarYearFullStandardRange (record { padding = m.padding; sign_is_mandatory = m.sign_is_mandatory })
full_year true true m =
    component.IsoYearFullExtendedRange (record { padding = m.padding; sign_is_mandatory = m.sign_is_mandatory })
full_year true false m =
    component.IsoYearFullStandardRange (record { padding = m.padding; sign_is_mandatory = m.sign_is_mandatory })

-- a year without its last two digits, with the padding and the sign of the values, given whether it is of an ISO week
-- date, and whether its range is extended
abbrev pub century : Bool → Bool → Modifiers → Component
century false true m =
    component.CalendarYearCenturyExtendedRange (record {
      padding = m.padding;
      sign_is_mandatory =
          m.sign_is_mandatory;
    })
century false false m =
    component.CalendarYearCenturyStandardRange (record {
      padding = m.padding;
      sign_is_mandatory =
          m.sign_is_mandatory;
    })
century true true m =
    component.IsoYearCenturyExtendedRange (record { padding = m.padding; sign_is_mandatory = m.sign_is_mandatory })
century true false m =
    component.IsoYearCenturyStandardRange (record { padding = m.padding; sign_is_mandatory = m.sign_is_mandatory })

-- the last two digits of a year with the padding of the values, given whether it is of an ISO week date
abbrev pub last_two : Bool → Modifiers → Component
last_two false m = component.CalendarYearLastTwo (record { padding = m.padding })
last_two true m = component.IsoYearLastTwo (record { padding = m.padding })

-- the year that the representation and the values select: a century, the last two digits, or otherwise the full year
abbrev pub year_as : Representation → Modifiers → Component
year_as form.Century m = century m.is_iso_week m.is_extended m
year_as form.LastTwo m = last_two m.is_iso_week m
year_as _ m = full_year m.is_iso_week m.is_extended m

-- the year that the values select, by their own representation
abbrev pub year : Modifiers → Component
year m = year_as m.representation m

-- the month that the representation selects: its long or short name, or else its number, with the padding of the values
abbrev pub month_as : Representation → Modifiers → Component
month_as form.Long m = component.MonthLong (record { case_sensitive = m.case_sensitive })
month_as form.Short m = component.MonthShort (record { case_sensitive = m.case_sensitive })
month_as _ m = component.MonthNumerical (record { padding = m.padding })

-- the month that the values select, by their own representation
abbrev pub month : Modifiers → Component
month m = month_as m.representation m

-- the weekday that the representation selects: its short name, its number from Sunday or Monday, or else its long name
abbrev pub weekday_as : Representation → Modifiers → Component
weekday_as form.Short m = component.WeekdayShort (record { case_sensitive = m.case_sensitive })
weekday_as form.Sunday m = component.WeekdaySunday (record { one_indexed = m.one_indexed })
weekday_as form.Monday m = component.WeekdayMonday (record { one_indexed = m.one_indexed })
weekday_as _ m = component.WeekdayLong (record { case_sensitive = m.case_sensitive })

-- the weekday that the values select, by their own representation
abbrev pub weekday : Modifiers → Component
weekday m = weekday_as m.representation m

-- the week number that the representation selects: of weeks from Sunday or from Monday, or else of ISO weeks; with the
-- padding of the values
abbrev pub week_number_as : Representation → Modifiers → Component
week_number_as form.Sunday m = component.WeekNumberSunday (record { padding = m.padding })
week_number_as form.Monday m = component.WeekNumberMonday (record { padding = m.padding })
week_number_as _ m = component.WeekNumberIso (record { padding = m.padding })

-- the week number that the values select, by their own representation
abbrev pub week_number : Modifiers → Component
week_number m = week_number_as m.representation m

-- the hour that the representation selects: of a 12-hour clock, or else of a 24-hour clock; with the padding of the
-- values
abbrev pub hour_as : Representation → Modifiers → Component
hour_as form.Twelve m = component.Hour12 (record { padding = m.padding })
hour_as _ m = component.Hour24 (record { padding = m.padding })

-- the hour that the values select, by their own representation
abbrev pub hour : Modifiers → Component
hour m = hour_as m.representation m

-- the Unix timestamp in the unit of the precision, with the sign of the values
abbrev pub unix_timestamp_as : Precision → Modifiers → Component
unix_timestamp_as precision.Second m = component.UnixTimestampSecond (record {
  sign_is_mandatory =
      m.sign_is_mandatory;
})
unix_timestamp_as precision.Millisecond m =
    component.UnixTimestampMillisecond (record { sign_is_mandatory = m.sign_is_mandatory })
unix_timestamp_as precision.Microsecond m =
    component.UnixTimestampMicrosecond (record { sign_is_mandatory = m.sign_is_mandatory })
unix_timestamp_as precision.Nanosecond m =
    component.UnixTimestampNanosecond (record { sign_is_mandatory = m.sign_is_mandatory })

-- the Unix timestamp that the values select, in the unit of their own precision
abbrev pub unix_timestamp : Modifiers → Component
unix_timestamp m = unix_timestamp_as m.precision m

-- the component with that name that the values select; `None` only for `ignore` without a count; values of modifiers
-- that the component doesn't have are ignored
unfoldable pub component_of : ComponentName → Modifiers → Option Component
component_of name.Day m = Some (component.Day (record { padding = m.padding }))
component_of name.End m = Some (component.End (record { trailing_input = m.trailing_input }))
component_of name.Hour m = Some (hour m)
component_of name.Ignore m = option_map component.Ignore m.count
component_of name.Minute m = Some (component.Minute (record { padding = m.padding }))
component_of name.Month m = Some (month m)
component_of name.OffsetHour m =
    Some (component.OffsetHour (record { padding = m.padding; sign_is_mandatory = m.sign_is_mandatory }))
component_of name.OffsetMinute m = Some (component.OffsetMinute (record { padding = m.padding }))
component_of name.OffsetSecond m = Some (component.OffsetSecond (record { padding = m.padding }))
component_of name.Ordinal m = Some (component.Ordinal (record { padding = m.padding }))
component_of name.Period m =
    Some (component.Period (record { is_uppercase = m.is_uppercase; case_sensitive = m.case_sensitive }))
component_of name.Second m = Some (component.Second (record { padding = m.padding }))
component_of name.Subsecond m = Some (component.Subsecond (record { digits = m.digits }))
component_of name.UnixTimestamp m = Some (unix_timestamp m)
component_of name.Weekday m = Some (weekday m)
component_of name.WeekNumber m = Some (week_number m)
component_of name.Year m = Some (year m)
