-- The names that most definitions and proofs cite, passed on from one place. Declares nothing.
pub use Rattle.std.specs.Prelude.{◌≡◌, ◌==◌, ℕ, zero, suc, ◌+◌, ◌-◌, ◌/◌, ◌%◌, ◌≤◌, ℤ, pos, neg_ℤ, ◌+ℤ◌, ◌-ℤ◌, ◌≤ℤ◌}
pub use Rattle.std.specs.Prelude.{int_lt, unsigned_abs, nat_eq, nat_lt, Bool, true, false, not, ◌&&◌, ◌||◌, ◌⊎◌}
pub use Rattle.std.specs.Prelude.{if◌then◌else◌, MatchBool, List, [], ◌∷◌, ◌++◌, length, take, drop, codes, slice_index}
pub use Rattle.std.specs.Prelude.{Option, None, Some, MatchOption, IfSome, is_some, option_and_then, unwrap_or, Result}
pub use Rattle.std.specs.Prelude.{Ok, Err, MatchResult, IfOk, IsOkAnd}
pub use Rattle.jiff_core.specs.Timestamp.{IsTimestampNanos}
pub use Rattle.jiff_tz.specs.declared.timezone.TimeZone.{TimeZone}
pub use Rattle.time_values.specs.Moments.{offset_date, offset_instant, offset_of, offset_time, plain_date, plain_time}
pub use Rattle.time_values.specs.Moments.{local_time_at, nanoseconds}
pub use Rattle.time_values.specs.Refusal.{Refusal, insufficient, refusal_of, trailing}
pub use Rattle.time_values.specs.{Calendar.greatest_year, Instants.IsInstant, Instants.IsWhole, Offsets.IsUtc}
pub use Rattle.time_values.specs.{Offsets.offset_seconds, DisplayTexts.Items}
pub use Rattle.time_values.specs.{DisplayTexts.is_behind, declared.date.Date.Date}
pub use Rattle.time_values.specs.{declared.error.Parse.Parse, declared.offset_date_time.OffsetDateTime.OffsetDateTime}
pub use Rattle.time_values.specs.{declared.plain_date_time.PlainDateTime.PlainDateTime, declared.time.Time.Time}
pub use Rattle.time_values.specs.{declared.utc_offset.UtcOffset.UtcOffset}
unfoldable pub use Rattle.time_values.specs.DisplayTexts.{fixed}
pub use Rattle.time_components.specs.Tree.{Tree, Trees, literal, component, sequence, optional, first_of, none, more}
pub use Rattle.time_components.specs.Tree.{further, steps_shape}
pub use Rattle.time_components.specs.{declared.format_description.Component.Component, declared.inspect.Step.Step}
pub use Rattle.time_descriptions.specs.Description.{shape, version_of}
pub use Rattle.time_descriptions.specs.declared.description.Description.{Description}
unfoldable pub use Rattle.time_descriptions.specs.{Grammar.Describes, Strftime.DescribesStrftime}
pub use Rattle.time_formatting.specs.Components.{component_text, value_of, hour_12}
pub use Rattle.time_formatting.specs.WellKnown.{IsMailText, WritesTextWith}
pub use Rattle.time_formatting.specs.WellKnown.{moment_text, unwritable_2822, unwritable_3339}
pub use Rattle.time_formatting.specs.{Texts.text_of, declared.parts.FractionDigits.FractionDigits}
pub use Rattle.time_formatting.specs.{declared.parts.Unwritable.Unwritable, declared.walk.Unformattable.Unformattable}
pub use Rattle.time_readers.specs.Direct.{RefusesRfc2822}
pub use Rattle.time_parsing.specs.Rfc3339Strict.{RefusesDirectly}
pub use Rattle.time_record.specs.Resolution.{by_month_and_day, by_ordinal, full_iso_year, full_year, is_leap_second}
pub use Rattle.time_record.specs.Resolution.{row_of_three, row_of_two, replace_leap_second}
pub use Rattle.time_record.specs.{Components.put_value, Record.Record, Record.empty, Record.put, Record.year_is}
unfoldable pub use Rattle.time_record.specs.Reading.{Reads, ReadsSome}
unfoldable pub use Rattle.time_record.specs.Resolution.{IsMoment, IsMomentOfParts, IsOffset, IsPlain, IsTimed}
pub use Rattle.time_parsing.specs.Outcome.{IsFront, IsOutcome, Path, Refusing, direct, over_record}
pub use Rattle.time_zones.specs.Finding.{IsZoneIfAny, zone_named}
pub use Rattle.time_zones.specs.Suffix.{Checked, AgreesWith, AgreesWithNamed}
pub use Rattle.time_zones.specs.Suffix.{AgreesWithZone, IsLongest, IsNameIn, IsSuffix}
pub use Rattle.time_zones.specs.Suffix.{IsZoneText, Tag, Zone, ZoneTag, bracketed, critical_key, named}
pub use Rattle.time_zones.specs.{declared.finding.NamedZone.NamedZone, declared.zones.Zones.Zones}
pub use Rattle.restamp_formats.specs.declared.form.Unit.TheVariants.{Seconds, Milliseconds, Microseconds, Nanoseconds}
pub use Rattle.restamp_formats.specs.declared.{clock.Clock.Clock, form.Form.Form, form.Named.Named}
pub use Rattle.restamp_formats.specs.declared.{form.Writing.Writing, local.Clocks.Clocks, missing_field.Kind.Kind}
pub use Rattle.restamp_formats.specs.declared.{missing_field.MissingField.MissingField, missing_field.Part.Part}
pub use Rattle.restamp_formats.specs.declared.{reading.Defaults.Defaults, reading.Match.Match, reading.Reading.Reading}
pub use Rattle.restamp_formats.specs.declared.{reading.TheConstants.MOST_STEPS, reason.TwoOffsets.TwoOffsets}
