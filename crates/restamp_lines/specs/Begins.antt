-- No public contract rests on this file.
--
-- The bytes that the texts of a format may start with.
use Rattle.std.specs.Prelude.{◌≡◌, ℕ, ◌-◌, Bool, true, false, not, if◌then◌else◌, ◌&&◌, ◌||◌, ◌==◌, List, ◌∷◌, All, slice_index}
use Rattle.std.specs.Char.{is_ascii_digit}
use Rattle.time_digits.specs.declared.Padding.{Padding}
use Rattle.time_digits.specs.declared.Padding.TheVariants as padding
use Rattle.time_components.specs.declared.format_description.Component.{Component}
use Rattle.time_components.specs.declared.format_description.Component.TheVariants as component
use Rattle.time_components.specs.declared.inspect.Step.{Step}
use Rattle.time_components.specs.declared.inspect.Step.TheVariants as step
use Rattle.restamp_lines.specs.Job.{is_inside}
use Rattle.restamp_lines.specs.declared.anywhere.firsts.Firsts.{Firsts}
use Rattle.restamp_formats.specs.declared.reading.Reading.{Reading}
use Rattle.restamp_formats.specs.declared.reading.Reading.TheVariants as reading

-- a set of first bytes: ASCII digits
abbrev pub digits : Firsts
digits = record { signs = false; mail = false; others = false }

-- a set of first bytes: ASCII digits, `+` and `-`
abbrev pub numbers : Firsts
numbers = record { signs = true; mail = false; others = false }

-- a set of first bytes: those of a mail date, which are ASCII digits, white space, `(` and first letters of weekdays
abbrev pub mail : Firsts
mail = record { signs = false; mail = true; others = false }

-- a set of first bytes: all bytes
abbrev pub all : Firsts
all = record { signs = true; mail = false; others = true }

-- white space or a comment of a mail date may start with the byte: a space, a tab, CR or `(`
abbrev pub is_gap : ℕ → Bool
is_gap x = x == 32 || x == 9 || x == 13 || x == 40

-- the byte is that ASCII letter in lower or upper case; `letter` is given in lower case
abbrev pub is_letter : ℕ → ℕ → Bool
is_letter x letter = x == letter || x == letter - 32

-- the English name of a weekday may start with the byte, in either case
abbrev pub is_weekday : ℕ → Bool
is_weekday x = is_letter x 109 || is_letter x 116 || is_letter x 119 || is_letter x 102 || is_letter x 115

-- the byte may be the second letter of a weekday's English name, in either case
abbrev pub is_weekday_second : ℕ → Bool
is_weekday_second x =
    is_letter x 111 || is_letter x 117 || is_letter x 101 || is_letter x 104 || is_letter x 114 || is_letter x 97

-- the byte is in the set: a digit, or one of those that its fields add
abbrev pub is_in : Firsts → ℕ → Bool
is_in f x =
    is_ascii_digit x || (f.signs && (x == 43 || x == 45)) || (f.mail && (is_gap x || is_weekday x)) || f.others

-- the set, or all bytes if spaces pad the text
abbrev pub padded : Padding → Firsts → Firsts
padded padding.Space f = all
padded padding f = f

-- the bytes that a component's text may start with; all bytes for a component without a rule of its own
abbrev pub component_firsts : Component → Firsts
component_firsts (component.Day m) = padded m.padding digits
component_firsts (component.MonthNumerical m) = padded m.padding digits
component_firsts (component.Hour24 m) = padded m.padding digits
component_firsts (component.CalendarYearFullExtendedRange m) = padded m.padding numbers
component_firsts (component.CalendarYearFullStandardRange m) = padded m.padding numbers
component_firsts (component.UnixTimestampSecond m) = numbers
component_firsts (component.UnixTimestampMillisecond m) = numbers
component_firsts (component.UnixTimestampMicrosecond m) = numbers
component_firsts (component.UnixTimestampNanosecond m) = numbers
component_firsts _ = all

-- the bytes that a description's text may start with, by its first step; all bytes unless that is a component
abbrev pub steps_firsts : List Step → Firsts
steps_firsts (step.Component c ∷ steps) = component_firsts c
steps_firsts _ = all

-- the bytes that a format's text may start with
abbrev pub format_firsts : Reading → Firsts
format_firsts reading.Rfc3339 = digits
format_firsts (reading.Zoned zones) = digits
format_firsts reading.Rfc2822 = mail
format_firsts reading.Iso8601 = all
format_firsts (reading.Described d) = steps_firsts d
format_firsts (reading.Complete d) = steps_firsts d
format_firsts (reading.Counted d) = steps_firsts d

-- the byte isn't among the first bytes of the format's texts
abbrev pub IsNotIn : ℕ → Reading → Type 0
IsNotIn x format = is_in (format_firsts format) x ≡ false

-- the byte isn't among the first bytes of the texts of any of the formats
abbrev pub IsInNone : ℕ → List Reading → Type 0
IsInNone x = All (IsNotIn x)

-- a timestamp may start at index k of a line: its byte is in the set, and doesn't continue a word or a number
abbrev pub may_begin : Firsts → List ℕ → ℕ → Bool
may_begin f line k = not (is_inside line k) && is_in f (slice_index line k)

-- the bytes start with four ASCII digits
abbrev pub has_year : List ℕ → Bool
has_year bytes =
    is_ascii_digit (slice_index bytes 0) && is_ascii_digit (slice_index bytes 1) && is_ascii_digit (slice_index bytes 2)
    && is_ascii_digit (slice_index bytes 3)

-- a day or a weekday, a comment, or white space may start with the two bytes
abbrev pub begins_day : ℕ → ℕ → Bool
begins_day x y = is_ascii_digit x || is_gap x || (is_weekday x && is_weekday_second y)

-- the bytes may start with a mail date, judged by the first two, or by the two after a space
abbrev pub may_be_mail : List ℕ → Bool
may_be_mail bytes =
    if slice_index bytes 0 == 32 then begins_day (slice_index bytes 1) (slice_index bytes 2)
    else begins_day (slice_index bytes 0) (slice_index bytes 1)

-- the bytes may start with a text of the format, judged by at most the first four
abbrev pub may_be_of : Reading → List ℕ → Bool
may_be_of reading.Rfc3339 bytes = has_year bytes
may_be_of (reading.Zoned zones) bytes = has_year bytes
may_be_of reading.Rfc2822 bytes = may_be_mail bytes
may_be_of format bytes = is_in (format_firsts format) (slice_index bytes 0)
