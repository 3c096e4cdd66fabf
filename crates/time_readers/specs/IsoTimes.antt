-- The time of ISO 8601: a table of its texts.
use Rattle.std.specs.Prelude.{ℕ, List, [], ◌∷◌, ◌++◌, Bool, true, is_none, if◌then◌else◌, Option, Some, None, option_and_then, option_to_list, ◌+◌, ◌-◌, ◌*◌, ◌/◌, ◌^◌, ◌<◌, ◌≤◌, length, false, ◌%◌, ◌&&◌, nat_le, nat_lt, option_map, Result, Ok, Err}
use Rattle.std.specs.Option.{option_or}
use Rattle.time_values.specs.declared.error.ParseFromDescription.{ParseFromDescription}
use Rattle.time_digits.specs.Digits.{digits_value}
use Rattle.time_readers.specs.declared.iso8601.ExtendedKind.{ExtendedKind}
use Rattle.time_readers.specs.IsoPieces.{Found, byte, Number, plain, fraction, number, ReturnsPart, ReturnsPartOrFault}
use Rattle.time_readers.specs.declared.iso8601.ExtendedKind.TheVariants.{Basic, Extended, Unknown}
use Rattle.time_readers.specs.declared.iso8601.TimeNumbers.{TimeNumbers}
use Rattle.time_readers.specs.IsoDates.{date_text, iso_date}
use Rattle.time_readers.specs.declared.iso8601.DateAndTime.{DateAndTime}

-- ---- Tables of the texts of ISO 8601: a row lists the places of a text, the kinds before it, what may follow it, and
-- the kind after it

-- a row of a table: the places of a text, a test of the kind before it, a test of the bytes after it, and the kind
-- after it
pub record Row (P : Type 0) : Type 0 where
  pub text : List P
  pub before : ExtendedKind → Bool
  pub follows : List ℕ → Bool
  pub after : ExtendedKind → ExtendedKind

-- a row of a table, from its four fields in order
abbrev pub row : {P : Type 0} → List P → (ExtendedKind → Bool) → (List ℕ → Bool) → (ExtendedKind → ExtendedKind) → Row P
row text before follows after = record { text = text; before = before; follows = follows; after = after }

-- Any bytes may follow.
abbrev pub anything : List ℕ → Bool
anything bytes = true

-- The bytes don't begin with a colon.
abbrev pub no_colon : List ℕ → Bool
no_colon bytes = is_none (byte 58 bytes)

-- the value if the test is true, and else nothing
abbrev pub when : {A : Type 0} → Bool → A → Option A
when test a = if test then Some a else None

-- how a place is parsed: from the bytes and the values of the places before it to the rest and the new values, or to
-- nothing if the place doesn't match
abbrev pub PlaceParser : Type 0 → Type 0 → Type 0
PlaceParser P V = P → List ℕ → V → Option (List ℕ × V)

-- places parsed one after another, from the bytes and the values v; nothing if one doesn't match
abbrev pub parse_places : {P V : Type 0} → PlaceParser P V → List P → List ℕ → V → Option (List ℕ × V)
parse_places parse [] bytes v = Some (bytes, v)
parse_places parse (p ∷ ps) bytes v = option_and_then (λ f. parse_places parse ps f.0 f.1) (parse p bytes v)

-- The result of a row, from the values `nothing` before any place is parsed. Nothing if the kind fails the row's test,
-- a place doesn't match, or the bytes after the text fail the row's test.
abbrev pub fits : {P V : Type 0} → PlaceParser P V → V → Row P → ExtendedKind → List ℕ → Option (Found V)
fits parse nothing r kind bytes =
    if r.before kind
    then option_and_then
    (λ f. when (r.follows f.0) (record { rest = f.0; value = f.1; kind = r.after kind }))
    (parse_places parse r.text bytes nothing)
    else None

-- the result of the first row that matches, or nothing if none does
abbrev pub first_fitting : {P V : Type 0} → PlaceParser P V → V → List (Row P) → ExtendedKind → List ℕ
    → Option (Found V)
first_fitting parse nothing [] kind bytes = None
first_fitting parse nothing (r ∷ rs) kind bytes =
    option_or (fits parse nothing r kind bytes) (first_fitting parse nothing rs kind bytes)

-- the results of all rows that match
abbrev pub fitting : {P V : Type 0} → PlaceParser P V → V → List (Row P) → ExtendedKind → List ℕ → List (Found V)
fitting parse nothing [] kind bytes = []
fitting parse nothing (r ∷ rs) kind bytes =
    option_to_list (fits parse nothing r kind bytes) ++ fitting parse nothing rs kind bytes

-- ---- The fraction of a unit: n digits of value w are w * unit / 10 ^ n

-- m is the decimal fraction 0.digits times the unit, truncated to a whole number; without digits, 0
pub record IsFloor (digits : List ℕ) (unit : ℕ) (m : ℕ) : Type 0 where
  pub low : m * 10 ^ length digits ≤ digits_value digits * unit
  pub high : digits_value digits * unit < (m + 1) * 10 ^ length digits

-- m is the decimal fraction 0.digits times the unit, rounded to the nearest whole number, a half up; without digits, 0
pub record IsRounded (digits : List ℕ) (unit : ℕ) (m : ℕ) : Type 0 where
  pub low : (2 * m - 1) * 10 ^ length digits ≤ 2 * digits_value digits * unit
  pub high : 2 * digits_value digits * unit < (2 * m + 1) * 10 ^ length digits

-- the one number that is the truncated fraction (`law_one_fraction`)
abbrev pub floor_of : List ℕ → ℕ → ℕ
floor_of digits unit = digits_value digits * unit / 10 ^ length digits

-- the one number that is the rounded fraction (`law_one_fraction`)
abbrev pub round_of : List ℕ → ℕ → ℕ
round_of digits unit = (2 * digits_value digits * unit + 10 ^ length digits) / (2 * 10 ^ length digits)

-- ---- The kind of an ISO 8601 text: with separators, or without

-- The kind may be unknown, basic or extended.
abbrev pub any : ExtendedKind → Bool
any kind = true

-- the kind is known to be basic
abbrev pub is_basic : ExtendedKind → Bool
is_basic Basic = true
is_basic Extended = false
is_basic Unknown = false

-- the kind is extended or unknown
abbrev pub not_basic : ExtendedKind → Bool
not_basic Basic = false
not_basic Extended = true
not_basic Unknown = true

-- the kind is basic or unknown
abbrev pub not_extended : ExtendedKind → Bool
not_extended Basic = true
not_extended Extended = false
not_extended Unknown = true

-- the kind is known to be extended
abbrev pub is_extended : ExtendedKind → Bool
is_extended Basic = false
is_extended Extended = true
is_extended Unknown = false

-- the unchanged kind
abbrev pub as_before : ExtendedKind → ExtendedKind
as_before kind = kind

-- the kind after a text that makes each kind basic
abbrev pub basic : ExtendedKind → ExtendedKind
basic kind = Basic

-- the kind after a text that makes each kind extended
abbrev pub extended : ExtendedKind → ExtendedKind
extended kind = Extended

-- basic for an unknown kind, and else the kind unchanged
abbrev pub basic_where_unknown : ExtendedKind → ExtendedKind
basic_where_unknown Basic = Basic
basic_where_unknown Extended = Extended
basic_where_unknown Unknown = Basic

-- extended for an unknown kind, and else the kind unchanged
abbrev pub extended_where_unknown : ExtendedKind → ExtendedKind
extended_where_unknown Basic = Basic
extended_where_unknown Extended = Extended
extended_where_unknown Unknown = Extended

-- The places of a text of the table. A number has two digits. A whole hour or minute has no fraction, and the fraction
-- of a second is optional.
pub data Place : Type 0 where
  whole_hour : Place
  hour_and_fraction : Place
  whole_minute : Place
  minute_and_fraction : Place
  any_second : Place
  colon : Place

-- The bytes don't begin with a number, which is two digits with a fraction, or with neither `.` nor `,` after them.
abbrev pub no_number : List ℕ → Bool
no_number bytes = is_none (number bytes)

-- the bytes begin neither with `:` nor with a number: two digits with a fraction, or with no `.` or `,` after them
abbrev pub no_colon_no_number : List ℕ → Bool
no_colon_no_number bytes = no_colon bytes && no_number bytes

-- The rows of times: places, kinds before, bytes after, kind after. At most one row matches (`law_one_time_row`).
abbrev pub time_rows : List (Row Place)
time_rows =
    row (hour_and_fraction ∷ []) any anything as_before
    ∷ row (whole_hour ∷ []) any no_colon_no_number as_before
    ∷ row (whole_hour ∷ minute_and_fraction ∷ []) any anything basic_where_unknown
    ∷ row (whole_hour ∷ colon ∷ minute_and_fraction ∷ []) not_basic anything extended
    ∷ row (whole_hour ∷ whole_minute ∷ []) not_extended no_number basic
    ∷ row (whole_hour ∷ whole_minute ∷ []) is_extended no_colon extended
    ∷ row (whole_hour ∷ colon ∷ whole_minute ∷ []) not_basic no_colon extended
    ∷ row (whole_hour ∷ whole_minute ∷ any_second ∷ []) not_extended anything basic
    ∷ row (whole_hour ∷ whole_minute ∷ colon ∷ any_second ∷ []) is_extended anything extended
    ∷ row (whole_hour ∷ colon ∷ whole_minute ∷ colon ∷ any_second ∷ []) not_basic anything extended
    ∷ []

-- the numbers before any place is parsed: a missing part is 0
abbrev pub nothing_given : TimeNumbers
nothing_given = record { hour = 0; minute = 0; second = 0; subsecond = 0 }

-- the time t with the minute, second and nanosecond that are n nanoseconds after its hour
abbrev pub past_hour : ℕ → TimeNumbers → TimeNumbers
past_hour n t = record t {
  minute = n / 60_000_000_000;
  second = n % 60_000_000_000 / 1_000_000_000;
  subsecond = n % 1_000_000_000;
}

-- the time t with the second and nanosecond that are n nanoseconds after its minute
abbrev pub past_minute : ℕ → TimeNumbers → TimeNumbers
past_minute n t = record t { second = n / 1_000_000_000; subsecond = n % 1_000_000_000 }

-- The time t with the number of a place. Nothing for an hour above 23, a minute above 59 and a second above 60, for a
-- number with a fraction or without one where the place requires the other, for a second's fraction that rounds to 1,
-- and for the colon.
abbrev pub says : Place → Number → TimeNumbers → Option TimeNumbers
says whole_hour (plain v) t = when (nat_le v 23) (record t { hour = v })
says hour_and_fraction (fraction v d) t =
    when (nat_le v 23) (past_hour (floor_of d 3_600_000_000_000) (record t { hour = v }))
says whole_minute (plain v) t = when (nat_le v 59) (record t { minute = v })
says minute_and_fraction (fraction v d) t =
    when (nat_le v 59) (past_minute (floor_of d 60_000_000_000) (record t { minute = v }))
says any_second (plain v) t = when (nat_le v 60) (record t { second = v })
says any_second (fraction v d) t =
    when (nat_le v 60 && nat_lt (round_of d 1_000_000_000) 1_000_000_000)
    (record t { second = v; subsecond = round_of d 1_000_000_000 })
says _ _ t = None

-- the match of a place: the rest, and the time with the number of the place; or nothing if the place doesn't match
abbrev pub stands : PlaceParser Place TimeNumbers
stands colon bytes t = option_map (λ rest. (rest, t)) (byte 58 bytes)
stands place bytes t = option_and_then (λ f. option_map (λ u. (f.0, u)) (says place f.1 t)) (number bytes)

-- the results of all rows that match
abbrev pub time_texts : ExtendedKind → List ℕ → List (Found TimeNumbers)
time_texts = fitting stands nothing_given time_rows

-- the time at the front of the bytes, after its `T`, by the first row that matches; or nothing if none does
unfoldable pub time_after : ExtendedKind → List ℕ → Option (Found TimeNumbers)
time_after kind bytes = first_fitting stands nothing_given time_rows kind bytes

-- The time after a `T`; without a `T`, nothing if it is needed, and else the time at the front of the bytes. The last
-- parameter is the bytes after the `T`, if there is one.
abbrev pub after_t : Bool → ExtendedKind → List ℕ → Option (List ℕ) → Option (Found TimeNumbers)
after_t needed kind bytes (Some rest) = time_after kind rest
after_t true kind bytes None = None
after_t false kind bytes None = time_after kind bytes

-- the time at the front of the bytes with its `T`, which is optional unless needed; or nothing
abbrev pub time_text : Bool → ExtendedKind → List ℕ → Option (Found TimeNumbers)
time_text needed kind bytes = after_t needed kind bytes (byte 84 bytes)

-- ---- A date of ISO 8601 and the time after it

-- The result is the date at the front of the text, with the time after it, whose `T` is required, or with `None` if no
-- time follows; or it is the error of the date.
abbrev pub ReturnsDateAndTime : List ℕ → Result DateAndTime ParseFromDescription → Type 0
ReturnsDateAndTime text (Err e) = ReturnsPartOrFault iso_date (date_text text) (Err e)
ReturnsDateAndTime text (Ok p) =
    ReturnsPartOrFault iso_date (date_text text) (Ok p.date)
    × ReturnsPart (time_text true p.date.kind p.date.rest.now) p.time
