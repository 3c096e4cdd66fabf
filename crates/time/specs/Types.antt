-- The types that callers' contracts name, from the crates below.
pub use Rattle.time_components.specs.declared.format_description.Component.{Component}
pub use Rattle.time_components.specs.declared.inspect.Step.{Step}
pub use Rattle.time_descriptions.specs.declared.description.Description.{Description}
pub use Rattle.time_descriptions.specs.declared.error.InvalidFormatDescription.{InvalidFormatDescription}
pub use Rattle.time_descriptions.specs.declared.leaf.Version.{Version}
pub use Rattle.time_descriptions.specs.declared.leaf.Version.TheVariants.{One as VersionOne, Two as VersionTwo}
pub use Rattle.time_locating.specs.declared.located.Expected.{Expected}
pub use Rattle.time_locating.specs.declared.located.Expected.TheVariants.{Literal as ExpectedLiteral}
pub use Rattle.time_locating.specs.declared.located.Expected.TheVariants.{Component as ExpectedComponent}
pub use Rattle.time_locating.specs.declared.located.Expected.TheVariants.{End as ExpectedEnd}
pub use Rattle.time_locating.specs.declared.located.Located.{Located}
pub use Rattle.time_preparing.specs.declared.items.Unprepared.{Unprepared}
pub use Rattle.time_values.specs.declared.date.Date.{Date}
pub use Rattle.time_values.specs.declared.duration.Duration.{Duration}
pub use Rattle.time_values.specs.declared.error.ComponentRange.{ComponentRange}
pub use Rattle.time_values.specs.declared.error.DifferentVariant.{DifferentVariant}
pub use Rattle.time_values.specs.declared.error.Error.{Error}
pub use Rattle.time_values.specs.declared.error.Parse.{Parse}
pub use Rattle.time_values.specs.declared.error.ParseFromDescription.{ParseFromDescription}
pub use Rattle.time_values.specs.declared.error.ParseFromDescription.TheVariants.{InvalidLiteral, InvalidComponent}
pub use Rattle.time_values.specs.declared.error.ParseFromDescription.TheVariants.{UnexpectedTrailingCharacters}
pub use Rattle.time_values.specs.declared.error.TryFromParsed.{TryFromParsed}
pub use Rattle.time_values.specs.declared.month.Month.{Month}
pub use Rattle.time_values.specs.declared.month.Month.TheVariants.{January, February, March, April, May, June, July}
pub use Rattle.time_values.specs.declared.month.Month.TheVariants.{August, September, October, November, December}
pub use Rattle.time_values.specs.declared.offset_date_time.OffsetDateTime.{OffsetDateTime}
pub use Rattle.time_values.specs.declared.plain_date_time.PlainDateTime.{PlainDateTime}
pub use Rattle.time_values.specs.declared.time.Time.{Time}
pub use Rattle.time_values.specs.declared.timestamp.Timestamp.{Timestamp}
pub use Rattle.time_values.specs.declared.utc_date_time.UtcDateTime.{UtcDateTime}
pub use Rattle.time_values.specs.declared.utc_offset.UtcOffset.{UtcOffset}
pub use Rattle.time_values.specs.declared.weekday.Weekday.{Weekday}
pub use Rattle.time_values.specs.declared.weekday.Weekday.TheVariants.{Monday, Tuesday, Wednesday, Thursday, Friday}
pub use Rattle.time_values.specs.declared.weekday.Weekday.TheVariants.{Saturday, Sunday}
pub use Rattle.time_formatting.specs.declared.parts.FractionDigits.{FractionDigits}
pub use Rattle.time_formatting.specs.declared.parts.FractionDigits.TheVariants.{Auto, Exactly}
pub use Rattle.time_formatting.specs.declared.parts.Unwritable.{Unwritable}
pub use Rattle.time_zones.specs.declared.clocks.NotOne.{NotOne}
pub use Rattle.time_zones.specs.declared.suffix.Suffixed.{Suffixed}
