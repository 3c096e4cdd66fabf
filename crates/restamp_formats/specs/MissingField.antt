-- The parts that all texts of a description's tree omit, so that no text by it is a moment.
use Rattle.time_values.specs.Calendar.{greatest_year}
use Rattle.std.specs.Prelude.{◌&&◌, ◌||◌, if◌then◌else◌, ◌≡◌}
use Rattle.restamp_formats.specs.Common.{Bool, true, false, not, List, codes, ℕ, Option, None, Some, is_some, Result, Ok, Refusal, OffsetDateTime, steps_shape, Tree, Trees, literal, component, sequence, optional, first_of, none, more, Component, Reads, Record, empty, Kind, MissingField, Part, Reading, Defaults, Match}
use Rattle.restamp_formats.specs.{Reading.IsCompleted, Reading.IsDated, Reading.ParsesLocally, Reason.Reason}

-- the part of a moment that a component's text has; `Other` if a day, its year, an hour and an offset's hour don't need
-- it
abbrev pub kind_of : Component → Kind
kind_of (Component.CalendarYearFullExtendedRange m) = Kind.Year
kind_of (Component.CalendarYearFullStandardRange m) = Kind.Year
kind_of (Component.CalendarYearCenturyExtendedRange m) = Kind.YearCentury
kind_of (Component.CalendarYearCenturyStandardRange m) = Kind.YearCentury
kind_of (Component.CalendarYearLastTwo m) = Kind.YearLastTwo
kind_of (Component.IsoYearFullExtendedRange m) = Kind.IsoYear
kind_of (Component.IsoYearFullStandardRange m) = Kind.IsoYear
kind_of (Component.IsoYearCenturyExtendedRange m) = Kind.IsoYearCentury
kind_of (Component.IsoYearCenturyStandardRange m) = Kind.IsoYearCentury
kind_of (Component.IsoYearLastTwo m) = Kind.IsoYearLastTwo
kind_of (Component.MonthShort m) = Kind.Month
kind_of (Component.MonthLong m) = Kind.Month
kind_of (Component.MonthNumerical m) = Kind.Month
kind_of (Component.Day m) = Kind.Day
kind_of (Component.Ordinal m) = Kind.Ordinal
kind_of (Component.WeekdayShort m) = Kind.Weekday
kind_of (Component.WeekdayLong m) = Kind.Weekday
kind_of (Component.WeekdaySunday m) = Kind.Weekday
kind_of (Component.WeekdayMonday m) = Kind.Weekday
kind_of (Component.WeekNumberIso m) = Kind.IsoWeek
kind_of (Component.WeekNumberSunday m) = Kind.SundayWeek
kind_of (Component.WeekNumberMonday m) = Kind.MondayWeek
kind_of (Component.Hour24 m) = Kind.Hour
kind_of (Component.Hour12 m) = Kind.HourOfHalf
kind_of (Component.Period m) = Kind.Half
kind_of (Component.OffsetHour m) = Kind.OffsetHour
kind_of (Component.UnixTimestampSecond m) = Kind.Count
kind_of (Component.UnixTimestampMillisecond m) = Kind.Count
kind_of (Component.UnixTimestampMicrosecond m) = Kind.Count
kind_of (Component.UnixTimestampNanosecond m) = Kind.Count
kind_of c = Kind.Other

-- the two kinds are equal
abbrev pub same : Kind → Kind → Bool
same Kind.Year Kind.Year = true
same Kind.YearCentury Kind.YearCentury = true
same Kind.YearLastTwo Kind.YearLastTwo = true
same Kind.IsoYear Kind.IsoYear = true
same Kind.IsoYearCentury Kind.IsoYearCentury = true
same Kind.IsoYearLastTwo Kind.IsoYearLastTwo = true
same Kind.Month Kind.Month = true
same Kind.Day Kind.Day = true
same Kind.Ordinal Kind.Ordinal = true
same Kind.Weekday Kind.Weekday = true
same Kind.IsoWeek Kind.IsoWeek = true
same Kind.SundayWeek Kind.SundayWeek = true
same Kind.MondayWeek Kind.MondayWeek = true
same Kind.Hour Kind.Hour = true
same Kind.HourOfHalf Kind.HourOfHalf = true
same Kind.Half Kind.Half = true
same Kind.OffsetHour Kind.OffsetHour = true
same Kind.Count Kind.Count = true
same Kind.Other Kind.Other = true
same k j = false

abbrev mutual
  -- some component of the tree, even an optional one or one of a choice, is of that kind
  pub has_kind : Kind → Tree → Bool
  has_kind k (literal text) = false
  has_kind k (component whole c) = same (kind_of c) k
  has_kind k (sequence ts) = one_has k ts
  has_kind k (optional t) = has_kind k t
  has_kind k (first_of ts) = one_has k ts

  -- some component of one of the trees is of that kind
  pub one_has : Kind → Trees → Bool
  one_has k none = false
  one_has k (more t ts) = has_kind k t || one_has k ts

-- A text with a component of that kind has that part, one of two: `Year` is any part of a year, `Offset` is the hour
-- of an offset. A count from 1970 has both, since it is a moment in UTC.
abbrev pub is_of : Part → Kind → Bool
is_of Part.Year Kind.Year = true
is_of Part.Year Kind.YearCentury = true
is_of Part.Year Kind.YearLastTwo = true
is_of Part.Year Kind.IsoYear = true
is_of Part.Year Kind.IsoYearCentury = true
is_of Part.Year Kind.IsoYearLastTwo = true
is_of Part.Offset Kind.OffsetHour = true
is_of p Kind.Count = true
is_of p k = false

abbrev mutual
  -- each text of the tree has the part: a component that isn't optional has it, or each alternative of a choice does
  pub always : Part → Tree → Bool
  always p (literal text) = false
  always p (component whole c) = is_of p (kind_of c)
  always p (sequence ts) = one_always p ts
  always p (optional t) = false
  always p (first_of none) = false
  always p (first_of (more t ts)) = each_always p (more t ts)

  -- each text of these trees in sequence has the part: at least one tree always has it
  pub one_always : Part → Trees → Bool
  one_always p none = false
  one_always p (more t ts) = always p t || one_always p ts

  -- each text of every tree has the part; true without trees
  pub each_always : Part → Trees → Bool
  each_always p none = true
  each_always p (more t ts) = always p t && each_always p ts

-- the tree has the components, even optional ones, of a day of a year: the day of the year, or month and day, or a
-- weekday and the number of a week that starts on Sunday or Monday
abbrev pub has_day : Tree → Bool
has_day t =
    has_kind Kind.Ordinal t || (has_kind Kind.Month t && has_kind Kind.Day t)
    || (has_kind Kind.Weekday t && (has_kind Kind.SundayWeek t || has_kind Kind.MondayWeek t))

-- the tree has the components, even optional ones, of a day of an ISO 8601 week year: week and weekday
abbrev pub has_iso_day : Tree → Bool
has_iso_day t = has_kind Kind.IsoWeek t && has_kind Kind.Weekday t

-- the tree has the components, even optional ones, of a whole year: the year, or its century and its last two digits
abbrev pub has_whole_year : Tree → Bool
has_whole_year t = has_kind Kind.Year t || (has_kind Kind.YearCentury t && has_kind Kind.YearLastTwo t)

-- the tree has the components, even optional ones, of a whole ISO 8601 week year: it, or century and last two digits
abbrev pub has_whole_iso_year : Tree → Bool
has_whole_iso_year t = has_kind Kind.IsoYear t || (has_kind Kind.IsoYearCentury t && has_kind Kind.IsoYearLastTwo t)

-- The tree has the components of a day and its year. If the `Bool` is true, and some text may have no part of any
-- year, neither calendar year nor ISO 8601 week year, a default year counts as the whole calendar year.
abbrev pub has_full_date : Bool → Tree → Bool
has_full_date has_year t =
    (has_day t && (has_whole_year t || (has_year && not (always Part.Year t))))
    || (has_iso_day t && has_whole_iso_year t)

-- The first of a day, its year, an hour and its half for which the tree's components, even optional ones, don't
-- suffice, so that no text is a moment: `WholeYear` if no default can give the year, else `Year`. `None` if there is
-- none, or with a count from 1970. The `Bool`: there is a default year. Offsets, minutes and seconds aren't checked.
abbrev pub missing_field_of : Bool → Tree → Option MissingField
missing_field_of has_year t =
    if has_kind Kind.Count t then None else
    if not (has_day t || has_iso_day t) then Some MissingField.Day else
    if not (has_full_date true t) then Some MissingField.WholeYear else
    if not (has_full_date has_year t) then Some MissingField.Year else
    if not (has_kind Kind.Hour t || has_kind Kind.HourOfHalf t) then Some MissingField.Hour else
    if not (has_kind Kind.Hour t || has_kind Kind.Half t) then Some MissingField.Half else None

-- The part, by `missing_field_of`, that no text of a format has; `None` for RFC 3339, RFC 9557, RFC 2822 and ISO 8601.
-- The `Bool` is true if there is a default year or a latest moment; it counts even for `Complete`.
abbrev pub format_missing_field : Bool → Reading → Option MissingField
format_missing_field has_year (Reading.Described d) = missing_field_of has_year (steps_shape d)
format_missing_field has_year (Reading.Complete d) = missing_field_of has_year (steps_shape d)
format_missing_field has_year (Reading.Counted d) = missing_field_of has_year (steps_shape d)
format_missing_field has_year format = None

-- Whether the format uses a default for that part and some text may omit it; if false, the default has no effect.
-- RFC 3339, RFC 9557, RFC 2822 and `Complete` use no defaults, and a date of ISO 8601 has its year.
abbrev pub can_default : Part → Reading → Bool
can_default Part.Offset Reading.Iso8601 = true
can_default p (Reading.Described d) = not (always p (steps_shape d))
can_default p (Reading.Counted d) = not (always p (steps_shape d))
can_default p format = false

-- the printed text of a missing part
abbrev pub missing_field_text : MissingField → List ℕ
missing_field_text MissingField.Day = codes "missing day"
missing_field_text MissingField.Year = codes "missing year; --year or --latest gives one"
missing_field_text MissingField.WholeYear = codes "missing whole year"
missing_field_text MissingField.Hour = codes "missing hour"
missing_field_text MissingField.Half = codes "missing AM or PM"
missing_field_text MissingField.Minute = codes "missing minute"
missing_field_text MissingField.Second = codes "missing second"
missing_field_text MissingField.Offset = codes "missing offset"

-- ---- Laws of what all texts of a format omit.

-- the defaults have a year, or a latest moment, with which years are tried
abbrev pub has_default_year : Defaults → Bool
has_default_year defaults = is_some defaults.year || is_some defaults.latest

-- No text, and no prefix of one, parses as a moment by a format with a missing part, even as a local time in the zone
-- of the defaults or with the years that are tried.
abbrev pub ParsesNoMoment : Type 0
ParsesNoMoment =
    (format : Reading) (missing_field : MissingField) (is_prefix : Bool) (text : List ℕ) (defaults : Defaults)
    (said : Match)
    → format_missing_field (has_default_year defaults) format ≡ Some missing_field
    → ¬ IsDated format is_prefix text defaults (Ok said)

-- The offsets of both defaults are equal for the part `Year`, and their years for `Offset`. Nothing else is compared.
abbrev pub SameBut : Part → Defaults → Defaults → Type 0
SameBut Part.Year defaults others = defaults.offset ≡ others.offset
SameBut Part.Offset defaults others = defaults.year ≡ others.year

-- If each text of the tree has the part, the record of a text resolves to the same result with any other defaults, if
-- they have the same offset (for the part `Year`) or the same year (for the part `Offset`).
abbrev pub HasNoUse : Type 0
HasNoUse =
    (p : Part) (tree : Tree) (bytes rest : List ℕ) (r : Record) (defaults others : Defaults)
    (result : Result OffsetDateTime Refusal)
    → always p tree ≡ true → Reads greatest_year tree bytes empty rest r → SameBut p defaults others
    → IsCompleted defaults r result → IsCompleted others r result

-- If `can_default` is false for the offset of the format, each result of parsing a text with a zone for local times is
-- also its result without that zone.
abbrev pub ClocksHaveNoUse : Type 0
ClocksHaveNoUse =
    (format : Reading) (is_prefix : Bool) (text : List ℕ) (defaults : Defaults) (result : Result Match Reason)
    → can_default Part.Offset format ≡ false → ParsesLocally format is_prefix text defaults result
    → ParsesLocally format is_prefix text (record defaults { clocks = None }) result
