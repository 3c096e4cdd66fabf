-- The formats and targets that a line may name.
use Rattle.std.specs.Prelude.{◌≡◌, ℕ, List, [], ◌∷◌, ◌++◌, codes, true, false, Option, None, Some, if◌then◌else◌}
use Rattle.std.specs.Str.{bytes_eq}
use Rattle.time_components.specs.Tree.{Tree, literal, component, sequence, optional, first_of, trees, steps_shape}
use Rattle.time_digits.specs.declared.Padding.TheVariants as padding
use Rattle.time_components.specs.declared.format_description.Component.{Component}
use Rattle.time_components.specs.declared.format_description.Component.TheVariants as kind
use Rattle.time_components.specs.declared.inspect.Step.{Step}
use Rattle.time_components.specs.declared.modifier.SubsecondDigits.TheVariants.{OneOrMore}
use Rattle.programs_answers.specs.declared.formats.Format.{Format}
use Rattle.programs_answers.specs.declared.formats.Format.TheVariants as format
use Rattle.programs_answers.specs.declared.formats.Target.{Target}
use Rattle.programs_answers.specs.declared.formats.Target.TheVariants as target

-- The format with this name, its variant's name in lower case; none for any other name.
abbrev pub format_named : List ℕ → Option Format
format_named name =
    if bytes_eq name (codes "rfc3339") then Some format.Rfc3339 else
    if bytes_eq name (codes "rfc2822") then Some format.Rfc2822 else
    if bytes_eq name (codes "iso8601") then Some format.Iso8601 else
    if bytes_eq name (codes "ymd") then Some format.Ymd else
    if bytes_eq name (codes "clock") then Some format.Clock else
    if bytes_eq name (codes "unix") then Some format.Unix else
    if bytes_eq name (codes "local") then Some format.Local else None

-- The target with this name, its variant's name in lower case; none for any other name.
abbrev pub target_named : List ℕ → Option Target
target_named name =
    if bytes_eq name (codes "date") then Some target.Date else
    if bytes_eq name (codes "time") then Some target.Time else
    if bytes_eq name (codes "offset") then Some target.Offset else
    if bytes_eq name (codes "plain") then Some target.Plain else
    if bytes_eq name (codes "utc") then Some target.Utc else
    if bytes_eq name (codes "datetime") then Some target.DateTime else
    if bytes_eq name (codes "staged") then Some target.Staged else
    if bytes_eq name (codes "timestamp") then Some target.Timestamp else None

-- A component, as in a description before version 3: an `Ignore` may end inside a UTF-8 character.
abbrev pub part : Component → Tree
part = component false

-- A year of four digits, with an optional sign.
abbrev pub year : Tree
year = part (kind.CalendarYearFullStandardRange (record { padding = padding.Zero; sign_is_mandatory = false }))

-- A minute of two digits.
abbrev pub minute : Tree
minute = part (kind.Minute (record { padding = padding.Zero }))

-- A second of two digits.
abbrev pub second : Tree
second = part (kind.Second (record { padding = padding.Zero }))

-- The parts of a date, as `2021-03-04`: the year as in `year`, and month and day with two digits each.
abbrev pub date_parts : List Tree
date_parts =
    year
    ∷ literal (codes "-")
    ∷ part (kind.MonthNumerical (record { padding = padding.Zero }))
    ∷ literal (codes "-")
    ∷ part (kind.Day (record { padding = padding.Zero }))
    ∷ []

-- The parts of a time on a clock of 24 hours, as `03:04:05`, each with two digits.
abbrev pub time_parts : List Tree
time_parts =
    part (kind.Hour24 (record { padding = padding.Zero }))
    ∷ literal (codes ":")
    ∷ minute
    ∷ literal (codes ":")
    ∷ second
    ∷ []

-- The parts of an offset's hour and minute with two digits each and a mandatory sign, as `-00:30`.
abbrev pub offset_parts : List Tree
offset_parts =
    part (kind.OffsetHour (record { padding = padding.Zero; sign_is_mandatory = true }))
    ∷ literal (codes ":")
    ∷ part (kind.OffsetMinute (record { padding = padding.Zero }))
    ∷ []

-- The parts of a date, time and offset, as `2021-01-02 03:04:05 -00:30`.
abbrev pub date_time_parts : List Tree
date_time_parts = date_parts ++ literal (codes " ") ∷ time_parts ++ literal (codes " ") ∷ offset_parts

-- The parts of a year and a day of the year with three digits, as `2020-366`.
abbrev pub ordinal_parts : List Tree
ordinal_parts = year ∷ literal (codes "-") ∷ part (kind.Ordinal (record { padding = padding.Zero })) ∷ []

-- The parts of a second's fraction, as `.25`: a dot and 1 to 32 digits. Those after the ninth don't change the value.
abbrev pub fraction_parts : List Tree
fraction_parts = literal (codes ".") ∷ part (kind.Subsecond (record { digits = OneOrMore })) ∷ []

-- A colon and a second of two digits, as `:09`, and then the given fraction, made optional.
abbrev pub second_parts : Tree → List Tree
second_parts fraction = literal (codes ":") ∷ second ∷ optional fraction ∷ []

-- The parts of a time, as `1:05 PM`, with the given seconds, made optional, before the space. The hour has one or two
-- digits, and the case of `PM` doesn't matter.
abbrev pub clock_parts : Tree → List Tree
clock_parts seconds =
    part (kind.Hour12 (record { padding = padding.None }))
    ∷ literal (codes ":")
    ∷ minute
    ∷ optional seconds
    ∷ literal (codes " ")
    ∷ part (kind.Period (record { is_uppercase = true; case_sensitive = false }))
    ∷ []

-- A date, as `2021-03-04`.
abbrev pub ymd : Tree
ymd = sequence (trees date_parts)

-- A time on a clock of 12 hours, as `1:05:09.25 PM`; the second and its fraction are optional.
abbrev pub clock : Tree
clock = sequence (trees (clock_parts (sequence (trees (second_parts (sequence (trees fraction_parts)))))))

-- Whole seconds since 1970-01-01T00:00:00Z with an optional sign, in a description of version 3.
abbrev pub unix : Tree
unix = component true (kind.UnixTimestampSecond (record { sign_is_mandatory = false }))

-- A date, time and offset, as `2021-01-02 03:04:05 -00:30`, or else a year and a day of the year, as `2020-366`.
abbrev pub local : Tree
local = first_of (trees (sequence (trees date_time_parts) ∷ sequence (trees ordinal_parts) ∷ []))

-- The steps of the prepared descriptions of the formats `Ymd`, `Clock` and `Local`.
pub record Descriptions : Type 0 where
  pub ymd : List Step
  pub clock : List Step
  pub local : List Step

-- The steps of each description have the tree of its format; that of `Local` is the only item of a sequence.
abbrev pub AreOfFormats : Descriptions → Type 0
AreOfFormats d =
    (steps_shape d.ymd ≡ ymd) × (steps_shape d.clock ≡ clock) × (steps_shape d.local ≡ sequence (trees (local ∷ [])))
