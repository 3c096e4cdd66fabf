-- Descriptions in strftime's syntax. Bytes are read from the left, and the first fault counts.
--     description = { byte | conversion }                   to the end of the text
--     byte        = any byte but "%"
--     conversion  = "%" , [ flag ] , letter
--     flag        = "-" for no padding | "_" for spaces | "0" for zeros    before a letter with a padding
--                 | "3" | "6" | "9" for that many digits                    before "f"
--                 | "." for a point and the digits, or nothing              before "f"
--                 | ":" for a colon between hours and minutes               before "z"
use Rattle.std.specs.Prelude.{ℕ, List, [], ◌∷◌, true, false, map, codes, ◌==◌, Option, Some, None, if◌then◌else◌, ◌≡◌, ◌⊎◌, ◌+◌, ◌<◌, ◌≤◌, ◌++◌, Bool, ◌||◌, length, option_and_then, Result, Ok, Err}
use Rattle.std.specs.Option.{option_map}
use Rattle.time_digits.specs.declared.Padding.TheVariants as padding
use Rattle.time_digits.specs.declared.Padding.{Padding}
use Rattle.time_components.specs.declared.format_description.Component.{Component}
use Rattle.time_components.specs.declared.format_description.Component.TheVariants as component
use Rattle.time_components.specs.declared.modifier.SubsecondDigits.TheVariants as digits
use Rattle.time_components.specs.declared.inspect.Group.TheVariants as groups
use Rattle.time_components.specs.declared.inspect.Step.{Step}
use Rattle.time_components.specs.declared.inspect.Step.TheVariants as step
use Rattle.time_components.specs.Tree.{Tree, sequence}
use Rattle.time_descriptions.specs.Grammar.{by_option}
use Rattle.time_descriptions.specs.Items.{Item, literal, component as component_item, group, flat, items_of, trees_of}
use Rattle.time_descriptions.specs.declared.letters.Flag.{Flag}
use Rattle.time_descriptions.specs.declared.letters.Flag.TheVariants as flag
use Rattle.time_descriptions.specs.declared.error.Fault.{Fault}
use Rattle.time_descriptions.specs.declared.error.Fault.TheVariants as fault
use Rattle.time_descriptions.specs.declared.error.Unsupported.TheVariants as unsupported
use Rattle.time_descriptions.specs.Components.{◌>>=◌, or_fault}
use Rattle.time_descriptions.specs.Refusal.{Refusal, refusal_at, too_long}

-- ---- The letters of strftime, with their meanings

-- a table: letters as ASCII codes, each with a value
abbrev pub Rows : Type 0 → Type 0
Rows V = List (ℕ × V)

-- the value of the first row with that letter, or `None` if there is no such row
unfoldable pub row_of : {V : Type 0} → Rows V → ℕ → Option V
row_of [] letter = None
row_of (r ∷ rows) letter = if r.0 == letter then Some r.1 else row_of rows letter

-- the letters that mean one component each: a A b h B C g G y Y d e j H k I l m M S f N p P s u w U V W
unfoldable pub components : Rows Component
components =
    (97, component.WeekdayShort (record { case_sensitive = true }))
    ∷ (65, component.WeekdayLong (record { case_sensitive = true }))
    ∷ (98, component.MonthShort (record { case_sensitive = true }))
    ∷ (104, component.MonthShort (record { case_sensitive = true }))
    ∷ (66, component.MonthLong (record { case_sensitive = true }))
    ∷ (67, component.CalendarYearCenturyExtendedRange (record { padding = padding.Zero; sign_is_mandatory = false }))
    ∷ (103, component.IsoYearLastTwo (record { padding = padding.Zero }))
    ∷ (71, component.IsoYearFullExtendedRange (record { padding = padding.Zero; sign_is_mandatory = false }))
    ∷ (121, component.CalendarYearLastTwo (record { padding = padding.Zero }))
    ∷ (89, component.CalendarYearFullExtendedRange (record { padding = padding.Zero; sign_is_mandatory = false }))
    ∷ (100, component.Day (record { padding = padding.Zero }))
    ∷ (101, component.Day (record { padding = padding.Space }))
    ∷ (106, component.Ordinal (record { padding = padding.Zero }))
    ∷ (72, component.Hour24 (record { padding = padding.Zero }))
    ∷ (107, component.Hour24 (record { padding = padding.Space }))
    ∷ (73, component.Hour12 (record { padding = padding.Zero }))
    ∷ (108, component.Hour12 (record { padding = padding.Space }))
    ∷ (109, component.MonthNumerical (record { padding = padding.Zero }))
    ∷ (77, component.Minute (record { padding = padding.Zero }))
    ∷ (83, component.Second (record { padding = padding.Zero }))
    ∷ (102, component.Subsecond (record { digits = digits.OneOrMore }))
    ∷ (78, component.Subsecond (record { digits = digits.Nine }))
    ∷ (112, component.Period (record { is_uppercase = true; case_sensitive = true }))
    ∷ (80, component.Period (record { is_uppercase = false; case_sensitive = true }))
    ∷ (115, component.UnixTimestampSecond (record { sign_is_mandatory = false }))
    ∷ (117, component.WeekdayMonday (record { one_indexed = true }))
    ∷ (119, component.WeekdaySunday (record { one_indexed = false }))
    ∷ (85, component.WeekNumberSunday (record { padding = padding.Zero }))
    ∷ (86, component.WeekNumberIso (record { padding = padding.Zero }))
    ∷ (87, component.WeekNumberMonday (record { padding = padding.Zero }))
    ∷ []

-- the letters, except "z", that have a meaning but aren't in `components`, with the bytes that they abbreviate:
-- D x F R T X r c n t %; a byte that is a letter of `components` abbreviates its component, and another byte is literal
unfoldable pub shorthands : Rows (List ℕ)
shorthands =
    (68, codes "m/d/y")
    ∷ (120, codes "m/d/y")
    ∷ (70, codes "Y-m-d")
    ∷ (82, codes "H:M")
    ∷ (84, codes "H:M:S")
    ∷ (88, codes "H:M:S")
    ∷ (114, codes "I:M:S p")
    ∷ (99, codes "a b e H:M:S Y")
    ∷ (110, 10 ∷ [])
    ∷ (116, 9 ∷ [])
    ∷ (37, codes "%")
    ∷ []

-- the item of a byte in a shorthand: the component of that letter, or else the byte as a literal
abbrev pub item_of_byte : ℕ → Item
item_of_byte b = by_option (literal b []) component_item (row_of components b)

-- the step of a byte in a shorthand: the component of that letter, or else the byte as a literal
abbrev pub step_of_byte : ℕ → Step
step_of_byte b = by_option (step.Literal b) step.Component (row_of components b)

-- the meaning of "z": the hours with a mandatory sign, then the minutes, both padded with zeros
abbrev pub offset : List Item
offset =
    component_item (component.OffsetHour (record { padding = padding.Zero; sign_is_mandatory = true }))
    ∷ component_item (component.OffsetMinute (record { padding = padding.Zero })) ∷ []

-- the meaning of a letter without a flag: the offset for "z", its component, or the items of its shorthand; `None` if
-- it has no meaning
abbrev pub meaning : ℕ → Option (List Item)
meaning letter =
    if letter == 122 then Some offset
    else by_option (option_map (map item_of_byte) (row_of shorthands letter)) (λ c. Some (component_item c ∷ []))
    (row_of components letter)

-- the flags by their bytes: - _ 0 3 6 9 . :
unfoldable pub flags : Rows Flag
flags =
    (45, flag.Padding padding.None)
    ∷ (95, flag.Padding padding.Space)
    ∷ (48, flag.Padding padding.Zero)
    ∷ (51, flag.Digits digits.Three)
    ∷ (54, flag.Digits digits.Six)
    ∷ (57, flag.Digits digits.Nine)
    ∷ (46, flag.Point)
    ∷ (58, flag.Colon)
    ∷ []

-- the component with its padding replaced by that; `None` if it has no padding, or if no letter means its variant alone
unfoldable pub with_padding : Padding → Component → Option Component
with_padding p (component.Day m) = Some (component.Day (record m { padding = p }))
with_padding p (component.MonthNumerical m) = Some (component.MonthNumerical (record m { padding = p }))
with_padding p (component.Ordinal m) = Some (component.Ordinal (record m { padding = p }))
with_padding p (component.WeekNumberIso m) = Some (component.WeekNumberIso (record m { padding = p }))
with_padding p (component.WeekNumberSunday m) = Some (component.WeekNumberSunday (record m { padding = p }))
with_padding p (component.WeekNumberMonday m) = Some (component.WeekNumberMonday (record m { padding = p }))
with_padding p (component.CalendarYearFullExtendedRange m) =
    Some (component.CalendarYearFullExtendedRange (record m { padding = p }))
with_padding p (component.IsoYearFullExtendedRange m) =
    Some (component.IsoYearFullExtendedRange (record m { padding = p }))
with_padding p (component.CalendarYearCenturyExtendedRange m) =
    Some (component.CalendarYearCenturyExtendedRange (record m { padding = p }))
with_padding p (component.CalendarYearLastTwo m) = Some (component.CalendarYearLastTwo (record m { padding = p }))
with_padding p (component.IsoYearLastTwo m) = Some (component.IsoYearLastTwo (record m { padding = p }))
with_padding p (component.Hour12 m) = Some (component.Hour12 (record m { padding = p }))
with_padding p (component.Hour24 m) = Some (component.Hour24 (record m { padding = p }))
with_padding p (component.Minute m) = Some (component.Minute (record m { padding = p }))
with_padding p (component.Second m) = Some (component.Second (record m { padding = p }))
with_padding p _ = None

-- the component of the letter with that padding instead of its own; `None` if the letter means no single component,
-- or one without a padding
abbrev pub padded : Padding → ℕ → Option Component
padded p letter = option_and_then (with_padding p) (row_of components letter)

-- a point and a fraction of a second of one or more digits, as an optional item
abbrev pub pointed_fraction : List Item
pointed_fraction =
    group groups.Optional
    (items_of (literal 46 [] ∷ component_item (component.Subsecond (record { digits = digits.OneOrMore })) ∷ []))
    ∷ []

-- the meaning of ":z": the hours with a mandatory sign, a colon, and the minutes, both numbers padded with zeros
abbrev pub colon_offset : List Item
colon_offset =
    component_item (component.OffsetHour (record { padding = padding.Zero; sign_is_mandatory = true })) ∷ literal 58 []
    ∷ component_item (component.OffsetMinute (record { padding = padding.Zero })) ∷ []

-- the meaning of a letter after a flag; `None` if the letter can't have the flag: a padding requires a component with a
-- padding, digits and a point require "f", and a colon requires "z"
abbrev pub flagged_meaning : Flag → ℕ → Option (List Item)
flagged_meaning (flag.Padding p) letter = option_map (λ c. component_item c ∷ []) (padded p letter)
flagged_meaning (flag.Digits d) letter =
    if letter == 102 then Some (component_item (component.Subsecond (record { digits = d })) ∷ []) else None
flagged_meaning flag.Point letter = if letter == 102 then Some pointed_fraction else None
flagged_meaning flag.Colon letter = if letter == 122 then Some colon_offset else None

-- whether the letter is E, O or Z, whose conversions aren't supported
abbrev pub is_unsupported : ℕ → Bool
is_unsupported letter = letter == 69 || letter == 79 || letter == 90

-- the fault of a letter without a meaning, at its "%" if the conversion isn't supported, and otherwise at the letter;
-- `percent` counts the bytes from the "%" to the end of the text, and `left` those from the letter
abbrev pub letter_fault : ℕ → ℕ → ℕ → Fault
letter_fault percent left letter =
    if is_unsupported letter then fault.NotSupported unsupported.Conversion percent
    else fault.InvalidComponentName left 1

-- the meaning of a letter without a flag, or its fault; `percent` counts the bytes from its "%" to the end of the text,
-- and `left` those from the letter
abbrev pub letter_items : ℕ → ℕ → ℕ → Result (List Item) Fault
letter_items percent left letter = or_fault (letter_fault percent left letter) (meaning letter)

-- the meaning of a letter after a flag; or the fault of the letter if it has no meaning even without a flag, and else
-- the fault at the flag if the letter can't have it; `left` counts the bytes from the letter to the end of the text
abbrev pub flagged_items : Flag → ℕ → ℕ → Result (List Item) Fault
flagged_items f left letter =
    letter_items (left + 2) left letter >>= λ is.
    or_fault (fault.InvalidModifier (left + 1) 1) (flagged_meaning f letter)

-- the items of a text up to its first fault or its end, and then that fault, or `None` if there is no fault
abbrev pub Found : Type 0
Found = List Item × Option Fault

-- no items, and the fault
abbrev pub failed : Fault → Found
failed e = ([], Some e)

-- the given items, followed by the items and the fault that are found after them
abbrev pub followed : List Item → Found → Found
followed is found = (is ++ found.0, found.1)

-- the meaning of a conversion, followed by what is found after it; or the conversion's fault
abbrev pub started : Result (List Item) Fault → Found → Found
started (Ok is) found = followed is found
started (Err e) found = failed e

unfoldable mutual
  -- the items of a text up to its first fault or its end, and that fault
  pub strftime : List ℕ → Found
  strftime [] = ([], None)
  strftime (b ∷ text) = if b == 37 then conversion text else followed (literal b [] ∷ []) (strftime text)

  -- the items of a text that begins after a "%", and the fault; an empty text has the fault that the letter is missing
  pub conversion : List ℕ → Found
  conversion [] = failed (fault.InvalidComponentName 0 0)
  conversion (b ∷ text) =
      by_option (started (letter_items (length (b ∷ text) + 1) (length (b ∷ text)) b) (strftime text))
      (λ f. flagged f text) (row_of flags b)

  -- the items of a text that begins after that flag, and the fault; an empty text has the fault that the letter is
  -- missing
  pub flagged : Flag → List ℕ → Found
  flagged f [] = failed (fault.InvalidComponentName 0 0)
  flagged f (b ∷ text) = started (flagged_items f (length (b ∷ text)) b) (strftime text)

-- The text has no fault in strftime's syntax, and its items in order have that tree, a sequence; an empty text
-- describes the empty sequence.
unfoldable pub DescribesStrftime : List ℕ → Tree → Type 0
DescribesStrftime text tree =
    ((strftime text).1 ≡ None) × (tree ≡ sequence (trees_of (items_of (strftime text).0)))

-- The text up to its first fault or its end describes more than n steps.
abbrev pub Exceeds : ℕ → List ℕ → Type 0
Exceeds n text = n < length (flat (strftime text).0)

-- The text up to its first fault or its end describes at most n steps.
abbrev pub Fits : ℕ → List ℕ → Type 0
Fits n text = length (flat (strftime text).0) ≤ n

-- The error of a rejected text, with room for n steps: `too_long` if and only if the text up to its first fault or its
-- end describes more than n steps, and otherwise the first fault.
abbrev pub IsRefusedStrftime : ℕ → List ℕ → Refusal → Type 0
IsRefusedStrftime n text refusal =
    ((refusal ≡ too_long) × Exceeds n text)
    ⊎ ((e : Fault) × ((strftime text).1 ≡ Some e) × (refusal ≡ refusal_at text e) × Fits n text)
