-- Definitions that callers' contracts use, from the crates below. Contracts pass `greatest_year` as the parameter `Y`.
pub use Rattle.time_components.specs.Tree.{Tree, borrowed_shape, owned_shape, v3_shape, steps_shape}
pub use Rattle.time_descriptions.specs.Description.{shape, version_of, IsRefused}
unfoldable pub use Rattle.time_descriptions.specs.Grammar.{Describes}
pub use Rattle.time_descriptions.specs.Grammar.{StartsAtMost, StartsMoreThan}
pub use Rattle.time_descriptions.specs.Strftime.{DescribesStrftime, IsRefusedStrftime}
pub use Rattle.time_locating.specs.Located.{IsLocated, IsMarked, IsErrorAt}
pub use Rattle.time_parsing.specs.Outcome.{Reading, Refusing, Path, direct}
pub use Rattle.time_parsing.specs.Outcome.{over_record, begun, seen, erased_prefix_result}
pub use Rattle.time_parsing.specs.Outcome.{ParsesInto, IsWhole, IsOutcome, IsFront, IsMomentOutcome, OneOutcome}
pub use Rattle.time_parsing.specs.Outcome.{OneFront, OneMomentOutcome}
pub use Rattle.time_readers.specs.Direct.{RefusesRfc3339, RefusesRfc2822}
pub use Rattle.time_record.specs.Record.{Record, Entry, empty, put, put_all, year_is, month_is, day_is, ordinal_is}
pub use Rattle.time_record.specs.Record.{hour_24_is, minute_is, second_is, subsecond_is, offset_hour_is}
pub use Rattle.time_record.specs.Record.{offset_minute_is, offset_second_is}
unfoldable pub use Rattle.time_record.specs.Resolution.{IsDated, IsTimed, IsOffset, IsPlain, IsUtcMoment, IsMoment}
unfoldable pub use Rattle.time_record.specs.Resolution.{IsTimestamp}
pub use Rattle.time_values.specs.Calendar.{greatest_year, IsBetween}
pub use Rattle.time_values.specs.Moments.{plain_date, plain_time, offset_date, offset_time, offset_of, utc_date}
pub use Rattle.time_values.specs.Moments.{utc_time, plain_instant, offset_instant, utc_instant, nanoseconds}
pub use Rattle.time_values.specs.Refusal.{Refusal, refusal_of, refusal_of_range, refusal_of_description}
pub use Rattle.time_values.specs.Refusal.{refusal_of_parsed, trailing}
pub use Rattle.time_formatting.specs.WellKnown.{count_of, moment_text, basic_text}
pub use Rattle.time_formatting.specs.WellKnown.{mail_text, IsMailText, unwritable_3339}
pub use Rattle.time_formatting.specs.WellKnown.{unwritable_2822, Writes, WritesTextWith}
