-- The steps of forms whose parts are at fixed places, and the records with their numbers.
use Rattle.std.specs.Prelude.{ℕ, List, [], ◌∷◌, ◌++◌, Option, None, Some, ◌≡◌, ◌≤◌, ◌<◌, length}
use Rattle.std.specs.Int.NonZero.{non_zero_u8_get}
use Rattle.time_components.specs.declared.format_description.Component.{Component}
use Rattle.time_components.specs.declared.format_description.Component.TheVariants.{CalendarYearFullExtendedRange, CalendarYearFullStandardRange, MonthNumerical, MonthShort, Day, Hour24, Minute, Second, OffsetHour, OffsetMinute, Subsecond}
use Rattle.time_components.specs.declared.inspect.Step.{Step}
use Rattle.time_components.specs.declared.inspect.Step.TheVariants as step
use Rattle.time_components.specs.Tree.{further}
use Rattle.time_components.specs.declared.inspect.Group.TheVariants.{Optional}
use Rattle.time_record.specs.Components.{is_pm}
use Rattle.time_record.specs.Record.{Record}
use Rattle.time_preparing.specs.declared.forms.Dated.{Dated}
use Rattle.time_preparing.specs.declared.forms.Dated.TheVariants.{YearFirst, StandardYearFirst, DayFirst}
use Rattle.time_preparing.specs.declared.forms.DateNumbers.{DateNumbers}
use Rattle.time_preparing.specs.declared.forms.ClockNumbers.{ClockNumbers}
use Rattle.time_preparing.specs.declared.forms.HalfNumbers.{HalfNumbers}
use Rattle.time_preparing.specs.declared.forms.OffsetNumbers.{OffsetNumbers}
use Rattle.time_preparing.specs.declared.forms.TheConstants.{YEAR, STANDARD_YEAR, MONTH, MONTH_NAME, DAY, HOUR, MINUTE, SECOND, OFFSET_HOUR, OFFSET_MINUTE, SPACED_DAY, SUBSECOND}
use Rattle.time_preparing.specs.declared.joined.Joined.{Joined}
use Rattle.time_preparing.specs.declared.joined.Joined.TheVariants as joined

-- the steps of a year by this component, a month's number and a day, with this byte between them
abbrev pub year_first_parts : Component → ℕ → List Step
year_first_parts year b =
    step.Component year ∷ step.Literal b ∷ step.Component (MonthNumerical MONTH) ∷ step.Literal b
    ∷ step.Component (Day DAY) ∷ []

-- the steps of a year of four digits, or of a sign and four to six, a month's number and a day, with this byte between
-- them
abbrev pub date_parts : ℕ → List Step
date_parts b = year_first_parts (CalendarYearFullExtendedRange YEAR) b

-- the steps of a year of four digits, with or without a sign, a month's number and a day, with this byte between them
abbrev pub standard_date_parts : ℕ → List Step
standard_date_parts b = year_first_parts (CalendarYearFullStandardRange STANDARD_YEAR) b

-- the steps of a day, the short name of a month and a year, with this byte between them
abbrev pub day_first_parts : ℕ → List Step
day_first_parts b =
    step.Component (Day DAY) ∷ step.Literal b
    ∷ step.Component (MonthShort MONTH_NAME) ∷ step.Literal b
    ∷ step.Component (CalendarYearFullExtendedRange YEAR) ∷ []

-- the steps of a date of this form
abbrev pub dated_parts : Dated → List Step
dated_parts (YearFirst b) = date_parts b
dated_parts (StandardYearFirst b) = standard_date_parts b
dated_parts (DayFirst b) = day_first_parts b

-- the steps of an hour of the 24-hour clock, a minute and a second, with this byte between them
abbrev pub time_parts : ℕ → List Step
time_parts b =
    step.Component (Hour24 HOUR) ∷ step.Literal b
    ∷ step.Component (Minute MINUTE) ∷ step.Literal b
    ∷ step.Component (Second SECOND) ∷ []

-- the list of an optional byte, empty without one
abbrev pub bytes_of : Option ℕ → List ℕ
bytes_of None = []
bytes_of (Some b) = b ∷ []

-- the steps of a literal of an optional byte, none without one
abbrev pub byte_parts : Option ℕ → List Step
byte_parts None = []
byte_parts (Some b) = step.Literal b ∷ []

-- the steps of an offset's hour with its sign, this byte if there is one, and the offset's minute
abbrev pub offset_parts : Option ℕ → List Step
offset_parts b =
    step.Component (OffsetHour OFFSET_HOUR) ∷ byte_parts b ++ step.Component (OffsetMinute OFFSET_MINUTE) ∷ []

-- the record with its year, month and day set to these
abbrev pub with_date : DateNumbers → Record → Record
with_date n r = record r { year = Some n.year; month = Some n.month; day = Some (non_zero_u8_get n.day) }

-- the record with its hour of the 24-hour clock, minute and second set to these
abbrev pub with_clock : ClockNumbers → Record → Record
with_clock n r = record r { hour_24 = Some n.hour; minute = Some n.minute; second = Some n.second }

-- the record with the offset's hour, its sign and its minute set to these
abbrev pub with_offset : OffsetNumbers → Record → Record
with_offset n r =
    record r { offset_hour = Some n.hour; offset_is_negative = n.is_negative; offset_minute = Some n.minute }

-- the record with these nanoseconds of the second, or unchanged without any
abbrev pub with_subsecond : Option ℕ → Record → Record
with_subsecond None r = r
with_subsecond (Some n) r = record r { subsecond = Some n }

-- the record with this second, and its nanoseconds if there are any; or unchanged without a second
abbrev pub with_second : Option (ℕ × Option ℕ) → Record → Record
with_second None r = r
with_second (Some (s, n)) r = with_subsecond n (record r { second = Some s })

-- the record with its hour of the 12-hour clock, minute, and AM or PM set to these, and its second and nanoseconds too,
-- as far as there are any
abbrev pub with_half : HalfNumbers → Record → Record
with_half n r =
    let hour = record r { hour_12 = Some n.hour; minute = Some n.minute } in
    record (with_second n.second hour) { hour_12_is_pm = Some (is_pm n.half) }

-- ---- Which steps of a description are joined

-- the steps of the short name of a month and a day (two digits, or a space and a digit), with this byte between them
abbrev pub month_day_parts : ℕ → List Step
month_day_parts b =
    step.Component (MonthShort MONTH_NAME) ∷ step.Literal b ∷ step.Component (Day SPACED_DAY) ∷ []

-- the steps of an optional group: this byte and a fraction of a second
abbrev pub fraction_parts : ℕ → List Step
fraction_parts p = step.Group Optional 2 ∷ step.Literal p ∷ step.Component (Subsecond SUBSECOND) ∷ []

-- the steps of an optional group: the first byte, a second, and optionally the other byte and a fraction
abbrev pub second_parts : ℕ → ℕ → List Step
second_parts b p = step.Group Optional 5 ∷ step.Literal b ∷ step.Component (Second SECOND) ∷ fraction_parts p

-- the steps that are parsed together as this `Joined`, none for `Nothing`
abbrev pub parts : Joined → List Step
parts joined.Nothing = []
parts (joined.Byte b) = step.Literal b ∷ []
parts (joined.Component c) = step.Component c ∷ []
parts (joined.Date b) = date_parts b
parts (joined.DayFirst b) = day_first_parts b
parts (joined.MonthDay b) = month_day_parts b
parts (joined.Time b) = time_parts b
parts (joined.Fraction p) = fraction_parts p
parts (joined.Seconds b p) = second_parts b p

-- The steps begin with those of `front`, and no further byte of a literal (`More`) directly follows these.
abbrev pub BeginsWith : List Step → List Step → Type 0
BeginsWith front steps = (after : List Step) × (steps ≡ front ++ after) × (further after ≡ [])

-- The steps begin with the joined ones, as in `BeginsWith`, unless none is joined or there are too few steps for them.
abbrev pub BeginsWithParts : Joined → List Step → Type 0
BeginsWithParts j steps = 0 < length (parts j) → length (parts j) ≤ length steps → BeginsWith (parts j) steps

-- at each index that both lists have, the steps from there on begin with those joined there, as in `BeginsWithParts`
abbrev pub Fits : List Joined → List Step → Type 0
Fits [] steps = Unit {0}
Fits (j ∷ js) [] = Unit {0}
Fits (j ∷ js) (s ∷ steps) = BeginsWithParts j (s ∷ steps) × Fits js steps
