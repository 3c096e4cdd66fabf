-- The values that a modifier may have, each with its meaning.
use Rattle.std.specs.Prelude.{ℕ, zero, suc, List, [], ◌∷◌, Bool, not, ◌&&◌, ◌==◌, ◌+◌, ◌*◌, ◌-◌, nat_lt, Option, Some, None, if◌then◌else◌, true, false, codes}
use Rattle.std.specs.Char.{is_ascii_whitespace, is_ascii_digit}
use Rattle.std.specs.Str.{str_eq_ignore_ascii_case}
use Rattle.std.specs.Option.{option_map}
use Rattle.std.proofs.Math.Nat.{zero-lt-suc}
use Rattle.time_digits.specs.declared.Padding.{Padding}
use Rattle.time_digits.specs.declared.Padding.TheVariants as padding
use Rattle.time_components.specs.declared.modifier.Ignore.{Ignore}
use Rattle.time_components.specs.declared.modifier.SubsecondDigits.{SubsecondDigits}
use Rattle.time_components.specs.declared.modifier.SubsecondDigits.TheVariants as digits_
use Rattle.time_components.specs.declared.modifier.TrailingInput.{TrailingInput}
use Rattle.time_components.specs.declared.modifier.TrailingInput.TheVariants as trailing
use Rattle.time_descriptions.specs.declared.names.ComponentName.{ComponentName}
use Rattle.time_descriptions.specs.declared.names.ComponentName.TheVariants as name
use Rattle.time_descriptions.specs.declared.names.ModifierKey.{ModifierKey}
use Rattle.time_descriptions.specs.declared.names.ModifierKey.TheVariants as key
use Rattle.time_descriptions.specs.declared.values.Representation.{Representation}
use Rattle.time_descriptions.specs.declared.values.Representation.TheVariants as form
use Rattle.time_descriptions.specs.declared.values.Precision.{Precision}
use Rattle.time_descriptions.specs.declared.values.Precision.TheVariants as precision
use Rattle.time_descriptions.specs.declared.values.Modifier.{Modifier}
use Rattle.time_descriptions.specs.declared.values.Modifier.TheVariants as modifier

-- ---- White space and words inside brackets, and tables of words

-- whether the byte is white space: a space, TAB, LF, FF or CR
abbrev pub is_space : ℕ → Bool
is_space b = is_ascii_whitespace b

-- whether the byte can be in a word: it is neither white space nor `[` nor `]`
abbrev pub is_of_word : ℕ → Bool
is_of_word b = not (is_ascii_whitespace b) && not (b == 91) && not (b == 93)

-- a table: names as bytes, each with its meaning
abbrev pub Rows : Type 0 → Type 0
Rows V = List (List ℕ × V)

-- the value of the first row with that name, ignoring the case of ASCII letters; `None` if there is no such row
unfoldable pub look_up : {V : Type 0} → Rows V → List ℕ → Option V
look_up [] name = None
look_up (r ∷ rows) name = if str_eq_ignore_ascii_case r.0 name then Some r.1 else look_up rows name

-- the `Ignore` that skips n bytes, or `None` if n is 0
abbrev pub ignored : ℕ → Option Ignore
ignored zero = None
ignored (suc n) = Some (record { count = record { value = suc n; ok = zero-lt-suc n } })

-- the `Ignore` whose count is n followed by these decimal digits (n itself for no digits); `None` if a byte isn't an
-- ASCII digit, if a digit makes the count exceed 65535, or if the count is 0
abbrev pub count_on : ℕ → List ℕ → Option Ignore
count_on n [] = ignored n
count_on n (b ∷ bytes) =
    if is_ascii_digit b
    then (if nat_lt 65535 (n * 10 + (b - 48)) then None else count_on (n * 10 + (b - 48)) bytes)
    else None

-- the `Ignore` whose count has these ASCII digits, which may begin with zeros; `None` if there are no digits, if
-- another byte occurs, or if the count isn't 1 to 65535
abbrev pub ignore_count : List ℕ → Option Ignore
ignore_count = count_on 0

-- the values of `repr` for the component, each with its meaning; empty for a component without `repr`
unfoldable pub representations : ComponentName → Rows Representation
representations name.Hour = (codes "24", form.Default) ∷ (codes "12", form.Twelve) ∷ []
representations name.Month = (codes "numerical", form.Default) ∷ (codes "long", form.Long) ∷
    (codes "short", form.Short) ∷ []
representations name.Weekday =
    (codes "long", form.Default) ∷ (codes "short", form.Short)
    ∷ (codes "sunday", form.Sunday) ∷ (codes "monday", form.Monday) ∷ []
representations name.WeekNumber = (codes "iso", form.Default) ∷ (codes "sunday", form.Sunday) ∷
    (codes "monday", form.Monday) ∷ []
representations name.Year = (codes "full", form.Default) ∷ (codes "century", form.Century) ∷
    (codes "last_two", form.LastTwo) ∷ []
representations _ = []

-- the values of `base`: whether a year is that of an ISO week date
unfoldable pub bases : Rows Bool
bases = (codes "calendar", false) ∷ (codes "iso_week", true) ∷ []

-- the values of `case`: whether the letters of a period (AM or PM) are capitals
unfoldable pub cases : Rows Bool
cases = (codes "lower", false) ∷ (codes "upper", true) ∷ []

-- the values of `case_sensitive` and of `one_indexed`
unfoldable pub bools : Rows Bool
bools = (codes "false", false) ∷ (codes "true", true) ∷ []

-- the values of `range`: whether a year can have more than four digits, after a sign
unfoldable pub ranges : Rows Bool
ranges = (codes "standard", false) ∷ (codes "extended", true) ∷ []

-- the values of `sign`: whether a sign is required
unfoldable pub signs : Rows Bool
signs = (codes "automatic", false) ∷ (codes "mandatory", true) ∷ []

-- the values of `padding`: what fills a number up to its width
unfoldable pub paddings : Rows Padding
paddings = (codes "zero", padding.Zero) ∷ (codes "space", padding.Space) ∷ (codes "none", padding.None) ∷ []

-- the values of `precision`: the unit of a timestamp
unfoldable pub precisions : Rows Precision
precisions =
    (codes "second", precision.Second)
    ∷ (codes "millisecond", precision.Millisecond)
    ∷ (codes "microsecond", precision.Microsecond)
    ∷ (codes "nanosecond", precision.Nanosecond)
    ∷ []

-- the values of `trailing_input`: whether `end` rejects or discards the remaining input
unfoldable pub trailing_inputs : Rows TrailingInput
trailing_inputs = (codes "prohibit", trailing.Prohibit) ∷ (codes "discard", trailing.Discard) ∷ []

-- the values of `digits`: how many digits a fraction of a second has, where `1+` is one or more
unfoldable pub digits : Rows SubsecondDigits
digits =
    (codes "1+", digits_.OneOrMore)
    ∷ (codes "1", digits_.One)
    ∷ (codes "2", digits_.Two)
    ∷ (codes "3", digits_.Three)
    ∷ (codes "4", digits_.Four)
    ∷ (codes "5", digits_.Five)
    ∷ (codes "6", digits_.Six)
    ∷ (codes "7", digits_.Seven)
    ∷ (codes "8", digits_.Eight)
    ∷ (codes "9", digits_.Nine)
    ∷ []

-- the modifier with that key and that value (the bytes after the colon), or `None` if the key has no such value; only
-- the values of `repr` depend on the component
abbrev pub modifier_value : ComponentName → ModifierKey → List ℕ → Option Modifier
modifier_value n key.Base value = option_map modifier.Base (look_up bases value)
modifier_value n key.Case value = option_map modifier.Case (look_up cases value)
modifier_value n key.CaseSensitive value = option_map modifier.CaseSensitive (look_up bools value)
modifier_value n key.Count value = option_map modifier.Count (ignore_count value)
modifier_value n key.Digits value = option_map modifier.Digits (look_up digits value)
modifier_value n key.OneIndexed value = option_map modifier.OneIndexed (look_up bools value)
modifier_value n key.Padding value = option_map modifier.Padding (look_up paddings value)
modifier_value n key.Precision value = option_map modifier.Precision (look_up precisions value)
modifier_value n key.Range value = option_map modifier.Range (look_up ranges value)
modifier_value n key.Representation value = option_map modifier.Representation (look_up (representations n) value)
modifier_value n key.Sign value = option_map modifier.Sign (look_up signs value)
modifier_value n key.TrailingInput value = option_map modifier.TrailingInput (look_up trailing_inputs value)

-- ---- The names of components, and the keys of their modifiers

-- the names of all components
unfoldable pub component_names : Rows ComponentName
component_names =
    (codes "year", name.Year)
    ∷ (codes "month", name.Month)
    ∷ (codes "day", name.Day)
    ∷ (codes "hour", name.Hour)
    ∷ (codes "minute", name.Minute)
    ∷ (codes "second", name.Second)
    ∷ (codes "subsecond", name.Subsecond)
    ∷ (codes "offset_hour", name.OffsetHour)
    ∷ (codes "offset_minute", name.OffsetMinute)
    ∷ (codes "offset_second", name.OffsetSecond)
    ∷ (codes "weekday", name.Weekday)
    ∷ (codes "week_number", name.WeekNumber)
    ∷ (codes "ordinal", name.Ordinal)
    ∷ (codes "period", name.Period)
    ∷ (codes "unix_timestamp", name.UnixTimestamp)
    ∷ (codes "ignore", name.Ignore)
    ∷ (codes "end", name.End)
    ∷ []

-- the row of the key `padding`
abbrev pub padding_key : List ℕ × ModifierKey
padding_key = (codes "padding", key.Padding)

-- the row of the key `repr`
abbrev pub repr_key : List ℕ × ModifierKey
repr_key = (codes "repr", key.Representation)

-- the row of the key `sign`
abbrev pub sign_key : List ℕ × ModifierKey
sign_key = (codes "sign", key.Sign)

-- the row of the key `case_sensitive`
abbrev pub case_sensitive_key : List ℕ × ModifierKey
case_sensitive_key = (codes "case_sensitive", key.CaseSensitive)

-- the keys of the modifiers that the component can have
unfoldable pub modifier_keys : ComponentName → Rows ModifierKey
modifier_keys name.Day = padding_key ∷ []
modifier_keys name.End = (codes "trailing_input", key.TrailingInput) ∷ []
modifier_keys name.Hour = padding_key ∷ repr_key ∷ []
modifier_keys name.Ignore = (codes "count", key.Count) ∷ []
modifier_keys name.Minute = padding_key ∷ []
modifier_keys name.Month = padding_key ∷ repr_key ∷ case_sensitive_key ∷ []
modifier_keys name.OffsetHour = padding_key ∷ sign_key ∷ []
modifier_keys name.OffsetMinute = padding_key ∷ []
modifier_keys name.OffsetSecond = padding_key ∷ []
modifier_keys name.Ordinal = padding_key ∷ []
modifier_keys name.Period = (codes "case", key.Case) ∷ case_sensitive_key ∷ []
modifier_keys name.Second = padding_key ∷ []
modifier_keys name.Subsecond = (codes "digits", key.Digits) ∷ []
modifier_keys name.UnixTimestamp = (codes "precision", key.Precision) ∷ sign_key ∷ []
modifier_keys name.Weekday = repr_key ∷ (codes "one_indexed", key.OneIndexed) ∷ case_sensitive_key ∷ []
modifier_keys name.WeekNumber = padding_key ∷ repr_key ∷ []
modifier_keys name.Year =
    padding_key ∷ repr_key ∷ (codes "range", key.Range) ∷ (codes "base", key.Base) ∷ sign_key ∷ []
