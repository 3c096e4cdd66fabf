-- How each component is spelled.
use Rattle.std.specs.Prelude.{◌≡◌, ℕ, List, Bool, true, false, codes, ◌+◌, ◌*◌, ◌%◌, ◌≤◌, ◌<◌, ◌⊎◌, ℤ, pos, [], ◌∷◌, length, take}
use Rattle.std.specs.Str.{str_to_ascii_lowercase}
use Rattle.time_values.specs.Names.{month_number, days_from_monday, month_name, weekday_name}
use Rattle.time_values.specs.Sign.{signed_by}
use Rattle.time_values.specs.declared.month.Month.{Month}
use Rattle.time_values.specs.declared.weekday.Weekday.{Weekday}
use Rattle.time_digits.specs.declared.Padding.{Padding}
use Rattle.time_digits.specs.declared.Sign.{Sign}
use Rattle.time_digits.specs.declared.Sign.TheVariants.{Positive}
use Rattle.time_digits.specs.Digits.{sign_byte, is_negative, Form, IsDigitRun, IsPaddedRun, digits_value, fraction_nanoseconds, AtMostOneCut}
use Rattle.time_components.specs.declared.format_description.Period.{Period}
use Rattle.time_components.specs.declared.format_description.Period.TheVariants.{Am, Pm}
use Rattle.time_components.specs.declared.format_description.Component.{Component}
use Rattle.time_components.specs.declared.format_description.Component.TheVariants as component
use Rattle.time_components.specs.declared.modifier.SubsecondDigits.{SubsecondDigits}
use Rattle.time_components.specs.declared.modifier.SubsecondDigits.TheVariants.{One, Two, Three, Four, Five, Six, Seven, Eight, Nine, OneOrMore}
use Rattle.time_components.specs.declared.modifier.TrailingInput.{TrailingInput}
use Rattle.time_components.specs.declared.modifier.TrailingInput.TheVariants.{Prohibit, Discard}

-- ---- The names of halves of the day, and texts of a name

-- the two letters of a half of the day, in capitals if the flag is true
abbrev pub period_name : Bool → Period → List ℕ
period_name true Am = codes "AM"
period_name true Pm = codes "PM"
period_name false Am = codes "am"
period_name false Pm = codes "pm"

-- The text is the whole name: exactly so if the case matters (the flag is true), and otherwise in any ASCII case.
abbrev pub IsNamed : Bool → List ℕ → List ℕ → Type 0
IsNamed true name text = text ≡ name
IsNamed false name text = str_to_ascii_lowercase text ≡ str_to_ascii_lowercase name

-- The value that a component's text spells, `nothing` for `Ignore` and `End`. Fractions of a second and timestamps are
-- in nanoseconds.
pub data Value : Type 0 where
  number : ℕ → Value
  signed : ℤ → Value
  -- a number, and whether it has a minus, even if it is 0
  flagged : ℤ → Bool → Value
  month : Month → Value
  weekday : Weekday → Value
  period : Period → Value
  nothing : Value

-- the value of a sign and a number: the number with that sign
abbrev pub signed_value : Sign × ℕ → Value
signed_value v = signed (signed_by (is_negative v.0) (pos v.1))

-- the value of a sign and a number: the number with that sign, and whether the sign is `-`
abbrev pub flagged_value : Sign × ℕ → Value
flagged_value v = flagged (signed_by (is_negative v.0) (pos v.1)) (is_negative v.0)

-- the value of a sign and a number: the number times `unit`, with that sign
abbrev pub scaled_value : ℕ → Sign × ℕ → Value
scaled_value unit v = signed (signed_by (is_negative v.0) (pos (v.1 * unit)))

-- a number without a sign, for a component with signed numbers
abbrev pub positive : ℕ → Value
positive n = signed (pos n)

-- The text spells some `a` of type `A` by the relation `S`, and the value is `says a`.
abbrev pub HasMappedValue : {A : Type 0} → (A → Value) → Form A → Form Value
HasMappedValue {A} says S text rest value = (a : A) × (value ≡ says a) × S text rest a

-- The text is a sign and a text of the form `behind`, or, unless a sign is mandatory, a text of the form `alone`.
abbrev pub IsSigned : Bool → Form ℕ → Form ℕ → Form (Sign × ℕ)
IsSigned mandatory behind alone text rest v =
    ((tail : List ℕ) × (text ≡ sign_byte v.0 ∷ tail) × behind tail rest v.1)
    ⊎ ((mandatory ≡ false) × (v.0 ≡ Positive) × alone text rest v.1)

-- The text is a sign and a year in four to `most` places, or, if no sign is mandatory, a year in four places. Spaces of
-- the padding count as places. Without padding, one digit is enough. The value is the number, negative after `-`.
abbrev pub SpellsYear : Bool → Padding → ℕ → Form Value
SpellsYear mandatory padding most =
    HasMappedValue signed_value (IsSigned mandatory (IsPaddedRun padding 4 most) (IsPaddedRun padding 4 4))

-- The text is a sign and a century in 2 to `most` places with the padding, as for a year; or, if no sign is mandatory,
-- 1 or 2 digits, whatever the padding. The value is the number, negative after `-`, and whether the sign is `-`.
abbrev pub SpellsCentury : Bool → Padding → ℕ → Form Value
SpellsCentury mandatory padding most =
    HasMappedValue flagged_value (IsSigned mandatory (IsPaddedRun padding 2 most) (IsDigitRun 1 2))

-- The text is a number in two places with the padding (one or two digits without padding), after a sign, or alone if no
-- sign is mandatory. The value is the number, negative after `-`, and whether the sign is `-`.
abbrev pub SpellsOffsetHour : Bool → Padding → Form Value
SpellsOffsetHour mandatory padding =
    HasMappedValue flagged_value (IsSigned mandatory (IsPaddedRun padding 2 2) (IsPaddedRun padding 2 2))

-- The text is 1 to `most` digits, after a sign, or alone if no sign is mandatory. They count units of `unit`
-- nanoseconds. The value is in nanoseconds: the number times `unit`, negative after `-`.
abbrev pub SpellsTimestamp : ℕ → Bool → ℕ → Form Value
SpellsTimestamp unit mandatory most =
    HasMappedValue (scaled_value unit) (IsSigned mandatory (IsDigitRun 1 most) (IsDigitRun 1 most))

-- The text is a number in `places` places with the padding (1 to `places` digits without padding). It isn't 0.
abbrev pub IsPositiveRun : Padding → ℕ → Form ℕ
IsPositiveRun padding places text rest n = IsPaddedRun padding places places text rest n × (0 < n)

-- The text is the whole name of the value, in any ASCII case unless the case matters.
abbrev pub IsNameOf : {A : Type 0} → Bool → (A → List ℕ) → Form A
IsNameOf case_sensitive name text rest a = IsNamed case_sensitive (name a) text

-- The text is the first three letters of the value's name, in any ASCII case unless the case matters.
abbrev pub IsShortOf : {A : Type 0} → Bool → (A → List ℕ) → Form A
IsShortOf case_sensitive name text rest a = IsNamed case_sensitive (take 3 (name a)) text

-- The text is the number of the value, in two places with the padding (one or two digits without padding).
abbrev pub IsNumberOf : {A : Type 0} → Padding → (A → ℕ) → Form A
IsNumberOf padding number_of text rest a = IsPaddedRun padding 2 2 text rest (number_of a)

-- the byte of the digit for the number 0: `1` if numbers are one-indexed, and otherwise `0`
abbrev pub first_digit : Bool → ℕ
first_digit true = 49
first_digit false = 48

-- The text is one digit: the number of the value, plus 1 if numbers are one-indexed.
abbrev pub IsDigitOf : {A : Type 0} → Bool → (A → ℕ) → Form A
IsDigitOf one_indexed number_of text rest a = text ≡ (first_digit one_indexed + number_of a) ∷ []

-- the number of days from Sunday to the weekday, 0 to 6
abbrev pub days_from_sunday : Weekday → ℕ
days_from_sunday day = (days_from_monday day + 1) % 7

-- the least number of digits of a fraction of a second
abbrev pub least_digits : SubsecondDigits → ℕ
least_digits One = 1
least_digits Two = 2
least_digits Three = 3
least_digits Four = 4
least_digits Five = 5
least_digits Six = 6
least_digits Seven = 7
least_digits Eight = 8
least_digits Nine = 9
least_digits OneOrMore = 1

-- the greatest number of digits of a fraction of a second
abbrev pub most_digits : SubsecondDigits → ℕ
most_digits One = 1
most_digits Two = 2
most_digits Three = 3
most_digits Four = 4
most_digits Five = 5
most_digits Six = 6
most_digits Seven = 7
most_digits Eight = 8
most_digits Nine = 9
most_digits OneOrMore = 32

-- The text is all leading digits of the input up to `most`, at least `least`, and n is the nanoseconds of that
-- fraction of a second, rounded down.
abbrev pub IsFractionRun : ℕ → ℕ → Form ℕ
IsFractionRun least most text rest n =
    IsDigitRun least most text rest (digits_value text) × (n ≡ fraction_nanoseconds text)

-- The text is allowed as trailing input: only the empty text if it is prohibited, and any if it is discarded.
abbrev pub EndsBy : TrailingInput → List ℕ → Type 0
EndsBy Prohibit text = text ≡ []
EndsBy Discard text = Unit {0}

-- The text is the whole remaining input, it is allowed as trailing input, and the value is `nothing`.
abbrev pub IsEnd : TrailingInput → Form Value
IsEnd trailing_input text rest value = (value ≡ nothing) × (rest ≡ []) × EndsBy trailing_input text

-- The first byte, if there is one, isn't a UTF-8 continuation byte, 128 to 191 (RFC 3629, section 3).
abbrev pub BeginsCharacter : List ℕ → Type 0
BeginsCharacter [] = Unit {0}
BeginsCharacter (c ∷ cs) = (c < 128) ⊎ (192 ≤ c)

-- the fact p if whole characters are required (the flag), and otherwise a fact that always holds
abbrev pub OnWhole : Bool → Type 0 → Type 0
OnWhole true p = p
OnWhole false p = Unit {0}

-- The text is any `count` bytes, the value is `nothing`, and if `whole` is true no continuation byte begins the rest.
abbrev pub IsIgnored : Bool → ℕ → Form Value
IsIgnored whole count text rest value =
    (value ≡ nothing) × (length text ≡ count) × OnWhole whole (BeginsCharacter rest)

-- The text, followed by that rest, spells that value of the component, by its modifiers. If `whole` is true, no UTF-8
-- continuation byte follows the text of an `Ignore`.
abbrev pub Spells : Bool → Component → Form Value
Spells whole (component.Day m) = HasMappedValue number (IsPositiveRun m.padding 2)
Spells whole (component.MonthShort m) = HasMappedValue month (IsShortOf m.case_sensitive month_name)
Spells whole (component.MonthLong m) = HasMappedValue month (IsNameOf m.case_sensitive month_name)
Spells whole (component.MonthNumerical m) = HasMappedValue month (IsNumberOf m.padding month_number)
Spells whole (component.Ordinal m) = HasMappedValue number (IsPositiveRun m.padding 3)
Spells whole (component.WeekdayShort m) = HasMappedValue weekday (IsShortOf m.case_sensitive weekday_name)
Spells whole (component.WeekdayLong m) = HasMappedValue weekday (IsNameOf m.case_sensitive weekday_name)
Spells whole (component.WeekdaySunday m) = HasMappedValue weekday (IsDigitOf m.one_indexed days_from_sunday)
Spells whole (component.WeekdayMonday m) = HasMappedValue weekday (IsDigitOf m.one_indexed days_from_monday)
Spells whole (component.WeekNumberIso m) = HasMappedValue number (IsPaddedRun m.padding 2 2)
Spells whole (component.WeekNumberSunday m) = HasMappedValue number (IsPaddedRun m.padding 2 2)
Spells whole (component.WeekNumberMonday m) = HasMappedValue number (IsPaddedRun m.padding 2 2)
Spells whole (component.CalendarYearFullExtendedRange m) = SpellsYear m.sign_is_mandatory m.padding 6
Spells whole (component.CalendarYearFullStandardRange m) = SpellsYear m.sign_is_mandatory m.padding 4
Spells whole (component.IsoYearFullExtendedRange m) = SpellsYear m.sign_is_mandatory m.padding 6
Spells whole (component.IsoYearFullStandardRange m) = SpellsYear m.sign_is_mandatory m.padding 4
Spells whole (component.CalendarYearCenturyExtendedRange m) = SpellsCentury m.sign_is_mandatory m.padding 4
Spells whole (component.CalendarYearCenturyStandardRange m) = SpellsCentury m.sign_is_mandatory m.padding 2
Spells whole (component.IsoYearCenturyExtendedRange m) = SpellsCentury m.sign_is_mandatory m.padding 4
Spells whole (component.IsoYearCenturyStandardRange m) = SpellsCentury m.sign_is_mandatory m.padding 2
Spells whole (component.CalendarYearLastTwo m) = HasMappedValue number (IsPaddedRun m.padding 2 2)
Spells whole (component.IsoYearLastTwo m) = HasMappedValue number (IsPaddedRun m.padding 2 2)
Spells whole (component.Hour12 m) = HasMappedValue number (IsPaddedRun m.padding 2 2)
Spells whole (component.Hour24 m) = HasMappedValue number (IsPaddedRun m.padding 2 2)
Spells whole (component.Minute m) = HasMappedValue number (IsPaddedRun m.padding 2 2)
Spells whole (component.Period m) = HasMappedValue period (IsNameOf m.case_sensitive (period_name m.is_uppercase))
Spells whole (component.Second m) = HasMappedValue number (IsPaddedRun m.padding 2 2)
Spells whole (component.Subsecond m) =
    HasMappedValue number (IsFractionRun (least_digits m.digits) (most_digits m.digits))
Spells whole (component.OffsetHour m) = SpellsOffsetHour m.sign_is_mandatory m.padding
Spells whole (component.OffsetMinute m) = HasMappedValue positive (IsPaddedRun m.padding 2 2)
Spells whole (component.OffsetSecond m) = HasMappedValue positive (IsPaddedRun m.padding 2 2)
Spells whole (component.Ignore m) = IsIgnored whole m.count.value
Spells whole (component.UnixTimestampSecond m) = SpellsTimestamp 1000000000 m.sign_is_mandatory 14
Spells whole (component.UnixTimestampMillisecond m) = SpellsTimestamp 1000000 m.sign_is_mandatory 17
Spells whole (component.UnixTimestampMicrosecond m) = SpellsTimestamp 1000 m.sign_is_mandatory 20
Spells whole (component.UnixTimestampNanosecond m) = SpellsTimestamp 1 m.sign_is_mandatory 23
Spells whole (component.End m) = IsEnd m.trailing_input

-- ---- Laws of the definitions, each the contract of a function of module `laws`, which proves it

-- For each component, whether or not whole characters are required, at most one prefix of an input spells a value, and
-- only one value.
abbrev pub OneSpelling : Type 0
OneSpelling = (whole : Bool) (c : Component) → AtMostOneCut (Spells whole c)
