-- The values of a moment that components give, and when these determine it.
use Rattle.time_values.specs.Calendar.{greatest_year}
use Rattle.std.specs.Prelude.{◌≡◌, ◌∷◌, ◌++◌}
use Rattle.time_values.specs.Sign.{signed_by}
use Rattle.time_formatting.specs.Components.{Stops, count_of, half_of, weekday_of, kept}
use Rattle.time_record.specs.{Components.is_pm, Resolution.Clock, Resolution.clock_of, Resolution.offset_part, Resolution.offset_seconds_of}
use Rattle.time_values.specs.Dates as Dates
use Rattle.time_values.specs.Offsets as Offsets
use Rattle.time_values.specs.Times as Times
use Rattle.restamp_formats.specs.Common.{ℕ, List, [], false, Option, None, Some, option_and_then, Result, Ok, Err, pos, unsigned_abs, MatchOption, OffsetDateTime, offset_date, offset_of, offset_time, is_behind, Date, Time, UtcOffset, Component, Tree, Trees, literal, component, sequence, optional, first_of, none, more, steps_shape, component_text, value_of, hour_12, Unformattable, put_value, Record, empty, full_year, Defaults, Reading}
use Rattle.restamp_formats.specs.Reading.{IsCompleted, is_negative_fraction}

-- ---- The text of a moment by a tree, and when it parses back.

-- a text, or the empty text for an error
abbrev pub or_nothing : Result (List ℕ) Unformattable → List ℕ
or_nothing (Ok text) = text
or_nothing (Err why) = []

-- a piece of what a tree writes: literal bytes, or a component
pub data Piece : Type 0 where
  verbatim : List ℕ → Piece
  part : Component → Piece

abbrev mutual
  -- the pieces that a tree writes, in order: all optional items, and of a choice the first alternative
  pub pieces : Tree → List Piece
  pieces (literal text) = verbatim text ∷ []
  pieces (component whole c) = part c ∷ []
  pieces (sequence ts) = all_pieces ts
  pieces (optional t) = pieces t
  pieces (first_of ts) = first_pieces ts

  -- the pieces of each of the trees, in order
  pub all_pieces : Trees → List Piece
  all_pieces none = []
  all_pieces (more t ts) = pieces t ++ all_pieces ts

  -- the pieces of the first of the trees; none without trees
  pub first_pieces : Trees → List Piece
  first_pieces none = []
  first_pieces (more t ts) = pieces t

-- the text of the pieces for a moment, however long it is; a component without a text adds no bytes
abbrev pub whole_text : OffsetDateTime → List Piece → List ℕ
whole_text v [] = []
whole_text v (verbatim text ∷ ps) = text ++ whole_text v ps
whole_text v (part c ∷ ps) = or_nothing (component_text greatest_year v c) ++ whole_text v ps

-- Each component's text, if it has one, is followed by bytes, or by the end of the text, at which the component's
-- parse stops, so that exactly this text is parsed.
abbrev pub AllStop : OffsetDateTime → List Piece → Type 0
AllStop v [] = Unit {0}
AllStop v (verbatim text ∷ ps) = AllStop v ps
AllStop v (part c ∷ ps) = Stops greatest_year v c (whole_text v ps) × AllStop v ps

-- the record with each component's value of the moment set in turn; `None` if a value is out of range
abbrev pub put_values : OffsetDateTime → List Piece → Record → Option Record
put_values v [] r = Some r
put_values v (verbatim text ∷ ps) r = put_values v ps r
put_values v (part c ∷ ps) r =
    option_and_then (put_values v ps) (put_value greatest_year c (value_of greatest_year v c) r)

-- The text of the moment by the tree determines the moment, if each component has a text: each text is parsed whole,
-- and the values of the components make a record that resolves to the moment, with the defaults.
pub record DeterminesMoment (tree : Tree) (defaults : Defaults) (v : OffsetDateTime) : Type 0 where
  pub stops : AllStop v (pieces tree)
  pub after : Record
  pub puts : put_values v (pieces tree) empty ≡ Some after
  pub is : IsCompleted defaults after (Ok v)

-- no defaults
abbrev pub no_defaults : Defaults
no_defaults = record { year = None; offset = None; clocks = None; latest = None }

-- The format is `Described`, `Complete` or `Counted` with that tree, and the text of the moment by the tree determines
-- the moment, for `Complete` without defaults. For `Counted` that text has no fraction after a minus.
abbrev pub ReadsTree : Reading → Defaults → Tree → OffsetDateTime → Type 0
ReadsTree (Reading.Described d) defaults tree v = (steps_shape d ≡ tree) × DeterminesMoment tree defaults v
ReadsTree (Reading.Complete d) defaults tree v = (steps_shape d ≡ tree) × DeterminesMoment tree no_defaults v
ReadsTree (Reading.Counted d) defaults tree v =
    (steps_shape d ≡ tree) × DeterminesMoment tree defaults v
    × (is_negative_fraction (whole_text v (pieces tree)) ≡ false)
ReadsTree format defaults tree v = ⊥

-- The record with the component's value set, for an offset's minute or second its magnitude; unchanged for `end`;
-- `None` for a year's century or last two digits, an ISO year or week, a week number, a count from 1970, `ignore`.
abbrev pub with_value_of : OffsetDateTime → Component → Record → Option Record
with_value_of v (Component.Day m) r = Some (record r { day = Some (Dates.day (offset_date v)) })
with_value_of v (Component.MonthShort m) r = Some (record r { month = Some (Dates.month (offset_date v)) })
with_value_of v (Component.MonthLong m) r = Some (record r { month = Some (Dates.month (offset_date v)) })
with_value_of v (Component.MonthNumerical m) r = Some (record r { month = Some (Dates.month (offset_date v)) })
with_value_of v (Component.Ordinal m) r = Some (record r { ordinal = Some (Dates.ordinal (offset_date v)) })
with_value_of v (Component.WeekdayShort m) r = Some (record r { weekday = Some (weekday_of greatest_year v) })
with_value_of v (Component.WeekdayLong m) r = Some (record r { weekday = Some (weekday_of greatest_year v) })
with_value_of v (Component.WeekdaySunday m) r = Some (record r { weekday = Some (weekday_of greatest_year v) })
with_value_of v (Component.WeekdayMonday m) r = Some (record r { weekday = Some (weekday_of greatest_year v) })
with_value_of v (Component.CalendarYearFullExtendedRange m) r =
    Some (record r { year = Some (Dates.year (offset_date v)) })
with_value_of v (Component.CalendarYearFullStandardRange m) r =
    Some (record r { year = Some (Dates.year (offset_date v)) })
with_value_of v (Component.Hour12 m) r = Some (record r { hour_12 = Some (hour_12 (Times.hour (offset_time v))) })
with_value_of v (Component.Hour24 m) r = Some (record r { hour_24 = Some (Times.hour (offset_time v)) })
with_value_of v (Component.Minute m) r = Some (record r { minute = Some (Times.minute (offset_time v)) })
with_value_of v (Component.Period m) r =
    Some (record r { hour_12_is_pm = Some (is_pm (half_of (Times.hour (offset_time v)))) })
with_value_of v (Component.Second m) r = Some (record r { second = Some (Times.second (offset_time v)) })
with_value_of v (Component.Subsecond m) r =
    let n = Times.nanosecond (offset_time v) in Some (record r { subsecond = Some (kept (count_of m.digits n) n) })
with_value_of v (Component.OffsetHour m) r =
    let o = offset_of v in
    Some (record r { offset_hour = Some (Offsets.hours o); offset_is_negative = is_behind o })
with_value_of v (Component.OffsetMinute m) r =
    Some (record r { offset_minute = Some (pos (unsigned_abs (Offsets.minutes (offset_of v)))) })
with_value_of v (Component.OffsetSecond m) r =
    Some (record r { offset_second = Some (pos (unsigned_abs (Offsets.seconds (offset_of v)))) })
with_value_of v (Component.End m) r = Some r
with_value_of v _ r = None

-- the record with the values of pieces set in turn, as `with_value_of` does; `None` if it is `None` for one of them
abbrev pub with_values_of : OffsetDateTime → List Piece → Record → Option Record
with_values_of v [] r = Some r
with_values_of v (verbatim text ∷ ps) r = with_values_of v ps r
with_values_of v (part c ∷ ps) r = option_and_then (with_values_of v ps) (with_value_of v c r)

-- The record has the year of the date, and its day of the year or, if that is absent, its month and day.
abbrev pub HasDate : Record → Date → Type 0
HasDate r d =
    (full_year r ≡ Some (Dates.year d))
    × MatchOption r.ordinal ((r.month ≡ Some (Dates.month d)) × (r.day ≡ Some (Dates.day d))) (λ n. n ≡ Dates.ordinal d)

-- the hour, minute, second and nanosecond of a time
abbrev pub clock : Time → Clock
clock t = record {
  hour = Times.hour t;
  minute = Times.minute t;
  second = Times.second t;
  nanosecond = Times.nanosecond t;
}

-- The record's hour is that of the offset. Its minute and second, negated if `offset_is_negative` is true, are those of
-- the offset: an absent one counts as 0, as does a second without a minute.
abbrev pub HasOffsetParts : Record → UtcOffset → Type 0
HasOffsetParts r o =
    (r.offset_hour ≡ Some (Offsets.hours o))
    × (offset_part r r.offset_minute ≡ Offsets.minutes o) × (offset_seconds_of r ≡ Offsets.seconds o)

-- The record has the date, the time and the offset of the moment, and no count from 1970.
pub record HasAll (r : Record) (v : OffsetDateTime) : Type 0 where
  pub date : HasDate r (offset_date v)
  pub time : clock_of r ≡ Some (clock (offset_time v))
  pub offset : HasOffsetParts r (offset_of v)
  pub no_count : r.unix_timestamp_nanos ≡ None

-- The minutes and the seconds of the offset are their magnitudes with the sign of the offset.
abbrev pub SignDetermines : UtcOffset → Type 0
SignDetermines o =
    (signed_by (is_behind o) (pos (unsigned_abs (Offsets.minutes o))) ≡ Offsets.minutes o)
    × (signed_by (is_behind o) (pos (unsigned_abs (Offsets.seconds o))) ≡ Offsets.seconds o)
