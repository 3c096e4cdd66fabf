-- The numbers of statuses, and their texts.
use Rattle.std.specs.Prelude.{ℕ, ◌+◌, ◌*◌, ◌/◌, ◌%◌, List, [], ◌∷◌, ◌++◌, length, take, drop, nat_eq, codes, true, false, if◌then◌else◌, ◌≡◌}
use Rattle.std.specs.Borrow.{Bor}
use Rattle.std.specs.List.{flat_map}
use Rattle.std.specs.Str.{bytes_eq}
use Rattle.time_values.specs.Refusal.{Refusal, literal, component, trailing, insufficient, range, refusal_text}

-- The components that errors name, numbered from 1.
abbrev pub component_names : List (List ℕ)
component_names =
    codes "year"
    ∷ codes "month"
    ∷ codes "day"
    ∷ codes "ordinal"
    ∷ codes "weekday"
    ∷ codes "week"
    ∷ codes "week number"
    ∷ codes "hour"
    ∷ codes "minute"
    ∷ codes "second"
    ∷ codes "nanosecond"
    ∷ codes "subsecond"
    ∷ codes "period"
    ∷ codes "offset hour"
    ∷ codes "offset minute"
    ∷ codes "offset second"
    ∷ codes "hours"
    ∷ codes "minutes"
    ∷ codes "seconds"
    ∷ codes "timestamp"
    ∷ codes "unix_timestamp"
    ∷ codes "separator"
    ∷ codes "ignore"
    ∷ []

-- The number of a name in a table whose first row has the number `first`, or 0 if the name isn't in it.
abbrev pub number_in : List (List ℕ) → ℕ → List ℕ → ℕ
number_in [] first name = 0
number_in (row ∷ rows) first name = if bytes_eq name row then first else number_in rows (first + 1) name

-- The name of a number in a table whose first row has the number `first`, or an empty text if the number isn't in it.
abbrev pub name_in : List (List ℕ) → ℕ → ℕ → List ℕ
name_in [] first number = []
name_in (row ∷ rows) first number = if nat_eq number first then row else name_in rows (first + 1) number

-- The number of a component's name, 1 to 23; 0 for any other text.
abbrev pub component_number : List ℕ → ℕ
component_number name = number_in component_names 1 name

-- The name of the component with this number, 1 to 23; empty for any other number.
abbrev pub component_name : ℕ → List ℕ
component_name number = name_in component_names 1 number

-- The status of an error: the number of its kind, 1 to 6, plus 256 times the number of the component that it names (0
-- for none or an unknown name).
abbrev pub status_of : Refusal → ℕ
status_of literal = 1
status_of (component name) = 2 + 256 * component_number name
status_of trailing = 3
status_of insufficient = 4
status_of (range name false) = 5 + 256 * component_number name
status_of (range name true) = 6 + 256 * component_number name

-- The status of an instant whose nanoseconds don't fit 64 bits.
abbrev pub too_wide : ℕ
too_wide = 7

-- The status of a call with a number that no format has.
abbrev pub unknown_format : ℕ
unknown_format = 8

-- The status of a call with a number that no syntax has.
abbrev pub unknown_syntax : ℕ
unknown_syntax = 17

-- The status of a moment whose text by a description has more than 1024 bytes.
abbrev pub text_too_long : ℕ
text_too_long = 19

-- The text of a status of this kind, which isn't 4, that names that component; empty for a kind outside 1 to 19. For
-- the kinds of parse errors, 1 to 6, it is the error's text.
abbrev pub kind_text : ℕ → List ℕ → List ℕ
kind_text kind name =
    if nat_eq kind 1 then refusal_text literal else
    if nat_eq kind 2 then refusal_text (component name) else
    if nat_eq kind 3 then refusal_text trailing else
    if nat_eq kind 5 then refusal_text (range name false) else
    if nat_eq kind 6 then refusal_text (range name true) else
    if nat_eq kind 7 then codes "the instant is out of range of 64 bits of nanoseconds" else
    if nat_eq kind 8 then codes "no format has that number" else
    if nat_eq kind 9 then codes "an opening bracket is not closed" else
    if nat_eq kind 10 then codes "no component has that name" else
    if nat_eq kind 11 then codes "the component has no such modifier" else
    if nat_eq kind 12 then codes "brackets have no component name" else
    if nat_eq kind 13 then codes "a modifier is missing" else
    if nat_eq kind 14 then codes "something else is expected" else
    if nat_eq kind 15 then codes "that is not supported in a description" else
    if nat_eq kind 16 then codes "the description is too long" else
    if nat_eq kind 17 then codes "no syntax of descriptions has that number" else
    if nat_eq kind 18 then codes "the '" ++ name ++ codes "' component has no text in that format" else
    if nat_eq kind 19 then codes "the text has more than 1024 bytes" else
    []

-- What a text is missing, by the component's number: AM or PM for 13, the offset for 14, otherwise its name, if any.
abbrev pub missing_name : ℕ → List ℕ
missing_name number =
    if nat_eq number 13 then codes "AM or PM" else
    if nat_eq number 14 then codes "offset" else component_name number

-- The text of the status 4 with a component of this number; for 0, the text of the error that names no component.
abbrev pub missing_text : ℕ → List ℕ
missing_text number = if nat_eq number 0 then refusal_text insufficient else codes "missing " ++ missing_name number

-- The text of a status: of the kind `status % 256` and the component with the number `status / 256`.
abbrev pub status_text : ℕ → List ℕ
status_text status =
    if nat_eq (status % 256) 4 then missing_text (status / 256) else
    kind_text (status % 256) (component_name (status / 256))

-- The concatenation of pieces.
abbrev pub text_of : List (Bor (List ℕ)) → List ℕ
text_of pieces = flat_map (λ piece. piece.now) pieces

-- A buffer after a text was written over its start, truncated to the buffer's length.
abbrev pub laid_over : List ℕ → List ℕ → List ℕ
laid_over text buffer = take (length buffer) text ++ drop (length text) buffer

-- ---- The law of the statuses' texts

-- The text of the parse error's status is the error's own text.
abbrev pub HasErrorText : Refusal → Type 0
HasErrorText e = status_text (status_of e) ≡ refusal_text e

-- The status of each parse error that names one of these components has the error's text. True for an empty list.
abbrev pub EachHasErrorText : List (List ℕ) → Type 0
EachHasErrorText [] = Unit {0}
EachHasErrorText (name ∷ names) =
    (HasErrorText (component name) × HasErrorText (range name false) × HasErrorText (range name true))
    × EachHasErrorText names

-- The status of each parse error that names no component, or one of `component_names`, has the error's text.
abbrev pub HaveErrorTexts : Type 0
HaveErrorTexts =
    HasErrorText literal × HasErrorText trailing × HasErrorText insufficient × EachHasErrorText component_names
