-- The canonical text of a tree, in version 2. It has those modifiers of a component that differ from their defaults.
use Rattle.std.specs.Prelude.{ℕ, List, [], ◌∷◌, ◌++◌, Bool, true, false, ◌||◌, ◌==◌, codes, if◌then◌else◌}
use Rattle.std.specs.Fmt.{decimal}
use Rattle.time_digits.specs.declared.Padding.{Padding}
use Rattle.time_digits.specs.declared.Padding.TheVariants as padding
use Rattle.time_components.specs.declared.format_description.Component.{Component}
use Rattle.time_components.specs.declared.format_description.Component.TheVariants as component
use Rattle.time_components.specs.declared.modifier.SubsecondDigits.{SubsecondDigits}
use Rattle.time_components.specs.declared.modifier.SubsecondDigits.TheVariants as digits
use Rattle.time_components.specs.declared.modifier.TrailingInput.{TrailingInput}
use Rattle.time_components.specs.declared.modifier.TrailingInput.TheVariants as trailing
use Rattle.time_components.specs.Tree.{Tree, Trees, literal as literal_tree, component as component_tree, sequence, optional, first_of, none, more}

-- a space and the padding's modifier, or nothing for the default, zeros
abbrev pub padding_text : Padding → List ℕ
padding_text padding.Zero = []
padding_text padding.Space = codes " padding:space"
padding_text padding.None = codes " padding:none"

-- the modifier if the flag is true, and otherwise nothing
abbrev pub where_true : List ℕ → Bool → List ℕ
where_true modifier true = modifier
where_true modifier false = []

-- the modifier if the flag is false, and otherwise nothing
abbrev pub where_false : List ℕ → Bool → List ℕ
where_false modifier true = []
where_false modifier false = modifier

-- the sign's modifier if a sign is mandatory, and otherwise nothing
abbrev pub sign_text : Bool → List ℕ
sign_text = where_true (codes " sign:mandatory")

-- the modifier that ignores the case of letters, or nothing if the case matters
abbrev pub case_sensitive_text : Bool → List ℕ
case_sensitive_text = where_false (codes " case_sensitive:false")

-- the modifier that numbers weekdays from 0, or nothing if they are numbered from 1
abbrev pub one_indexed_text : Bool → List ℕ
one_indexed_text = where_false (codes " one_indexed:false")

-- the modifier for small letters if the flag is false, or nothing for capitals
abbrev pub case_text : Bool → List ℕ
case_text = where_false (codes " case:lower")

-- a space and the modifier of the number of digits, or nothing for the default, one or more
abbrev pub digits_text : SubsecondDigits → List ℕ
digits_text digits.One = codes " digits:1"
digits_text digits.Two = codes " digits:2"
digits_text digits.Three = codes " digits:3"
digits_text digits.Four = codes " digits:4"
digits_text digits.Five = codes " digits:5"
digits_text digits.Six = codes " digits:6"
digits_text digits.Seven = codes " digits:7"
digits_text digits.Eight = codes " digits:8"
digits_text digits.Nine = codes " digits:9"
digits_text digits.OneOrMore = []

-- a space and the modifier that discards trailing input, or nothing for the default, which rejects it
abbrev pub trailing_input_text : TrailingInput → List ℕ
trailing_input_text trailing.Prohibit = []
trailing_input_text trailing.Discard = codes " trailing_input:discard"

-- the text inside a component's brackets: its name, its modifiers that differ from their defaults, and the count of an
-- `Ignore`, which has no default
abbrev pub words_of : Component → List ℕ
words_of (component.Day m) = codes "day" ++ padding_text m.padding
words_of (component.MonthShort m) = codes "month repr:short" ++ case_sensitive_text m.case_sensitive
words_of (component.MonthLong m) = codes "month repr:long" ++ case_sensitive_text m.case_sensitive
words_of (component.MonthNumerical m) = codes "month" ++ padding_text m.padding
words_of (component.Ordinal m) = codes "ordinal" ++ padding_text m.padding
words_of (component.WeekdayShort m) = codes "weekday repr:short" ++ case_sensitive_text m.case_sensitive
words_of (component.WeekdayLong m) = codes "weekday" ++ case_sensitive_text m.case_sensitive
words_of (component.WeekdaySunday m) = codes "weekday repr:sunday" ++ one_indexed_text m.one_indexed
words_of (component.WeekdayMonday m) = codes "weekday repr:monday" ++ one_indexed_text m.one_indexed
words_of (component.WeekNumberIso m) = codes "week_number" ++ padding_text m.padding
words_of (component.WeekNumberSunday m) = codes "week_number repr:sunday" ++ padding_text m.padding
words_of (component.WeekNumberMonday m) = codes "week_number repr:monday" ++ padding_text m.padding
words_of (component.CalendarYearFullExtendedRange m) =
    codes "year" ++ (padding_text m.padding ++ sign_text m.sign_is_mandatory)
words_of (component.CalendarYearFullStandardRange m) =
    codes "year range:standard" ++ (padding_text m.padding ++ sign_text m.sign_is_mandatory)
words_of (component.IsoYearFullExtendedRange m) =
    codes "year base:iso_week" ++ (padding_text m.padding ++ sign_text m.sign_is_mandatory)
words_of (component.IsoYearFullStandardRange m) =
    codes "year base:iso_week range:standard" ++ (padding_text m.padding ++ sign_text m.sign_is_mandatory)
words_of (component.CalendarYearCenturyExtendedRange m) =
    codes "year repr:century" ++ (padding_text m.padding ++ sign_text m.sign_is_mandatory)
words_of (component.CalendarYearCenturyStandardRange m) =
    codes "year repr:century range:standard" ++ (padding_text m.padding ++ sign_text m.sign_is_mandatory)
words_of (component.IsoYearCenturyExtendedRange m) =
    codes "year repr:century base:iso_week" ++ (padding_text m.padding ++ sign_text m.sign_is_mandatory)
words_of (component.IsoYearCenturyStandardRange m) =
    codes "year repr:century base:iso_week range:standard" ++ (padding_text m.padding ++ sign_text m.sign_is_mandatory)
words_of (component.CalendarYearLastTwo m) = codes "year repr:last_two" ++ padding_text m.padding
words_of (component.IsoYearLastTwo m) = codes "year repr:last_two base:iso_week" ++ padding_text m.padding
words_of (component.Hour12 m) = codes "hour repr:12" ++ padding_text m.padding
words_of (component.Hour24 m) = codes "hour" ++ padding_text m.padding
words_of (component.Minute m) = codes "minute" ++ padding_text m.padding
words_of (component.Period m) = codes "period" ++ (case_text m.is_uppercase ++ case_sensitive_text m.case_sensitive)
words_of (component.Second m) = codes "second" ++ padding_text m.padding
words_of (component.Subsecond m) = codes "subsecond" ++ digits_text m.digits
words_of (component.OffsetHour m) = codes "offset_hour" ++ (padding_text m.padding ++ sign_text m.sign_is_mandatory)
words_of (component.OffsetMinute m) = codes "offset_minute" ++ padding_text m.padding
words_of (component.OffsetSecond m) = codes "offset_second" ++ padding_text m.padding
words_of (component.Ignore m) = codes "ignore count:" ++ decimal m.count.value
words_of (component.UnixTimestampSecond m) = codes "unix_timestamp" ++ sign_text m.sign_is_mandatory
words_of (component.UnixTimestampMillisecond m) =
    codes "unix_timestamp precision:millisecond" ++ sign_text m.sign_is_mandatory
words_of (component.UnixTimestampMicrosecond m) =
    codes "unix_timestamp precision:microsecond" ++ sign_text m.sign_is_mandatory
words_of (component.UnixTimestampNanosecond m) =
    codes "unix_timestamp precision:nanosecond" ++ sign_text m.sign_is_mandatory
words_of (component.End m) = codes "end" ++ trailing_input_text m.trailing_input

-- whether the byte is `[`, `\` or `]`, which is written after a backslash if it is a whole literal
abbrev pub is_escaped : ℕ → Bool
is_escaped b = b == 91 || b == 92 || b == 93

-- the text of a literal: its bytes, after a backslash if they are one bracket or one backslash; the bytes of another
-- literal are never escaped, even if their text then doesn't describe that literal
abbrev pub literal_text : List ℕ → List ℕ
literal_text (b ∷ []) = if is_escaped b then 92 ∷ b ∷ [] else b ∷ []
literal_text bytes = bytes

abbrev mutual
  -- the canonical text of a tree; it ignores the flag that an `Ignore` must end between UTF-8 characters
  pub tree_text : Tree → List ℕ
  tree_text (literal_tree bytes) = literal_text bytes
  tree_text (component_tree ends c) = codes "[" ++ (words_of c ++ codes "]")
  tree_text (sequence ts) = trees_text ts
  tree_text (optional t) = codes "[optional [" ++ (tree_text t ++ codes "]]")
  tree_text (first_of ts) = codes "[first" ++ (lists_text ts ++ codes "]")

  -- the texts of the trees in order, without anything between them; empty for no trees
  pub trees_text : Trees → List ℕ
  trees_text none = []
  trees_text (more t ts) = tree_text t ++ trees_text ts

  -- the texts of the lists of a choice in order, each in brackets after a space; empty for no lists
  pub lists_text : Trees → List ℕ
  lists_text none = []
  lists_text (more t ts) = codes " [" ++ (tree_text t ++ (codes "]" ++ lists_text ts))
