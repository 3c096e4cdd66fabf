-- The place of a text that ISO 8601 rejects.
--
-- The text of a date, a time or an offset is one of several rows of pieces. Each row is tried, and misses the first of
-- its pieces that doesn't match. Misses of later parts precede those of earlier parts.
use Rattle.time_values.specs.Calendar.{greatest_year}
use Rattle.std.specs.Prelude.{◌≡◌, ℕ, ◌+◌, List, [], ◌∷◌, ◌++◌, length, map, codes, Bool, true, false, if◌then◌else◌, Option, Some, None, option_map, Result, Ok, Err}
use Rattle.time_values.specs.Refusal.{Refusal}
use Rattle.time_readers.specs.IsoPieces.{Found, year, month, weekday, positive, byte}
use Rattle.time_readers.specs.IsoDates.{IsoDate, calendar, ordinal, week, date_text}
use Rattle.time_readers.specs.IsoOffsets as offsets
use Rattle.time_readers.specs.IsoOffsets.{offset_rows, no_offset_parts}
use Rattle.time_readers.specs.IsoTimes.{Row, time_rows, time_text, nothing_given}
use Rattle.time_readers.specs.IsoTimes as times
use Rattle.time_readers.specs.Readers.{Reader}
use Rattle.time_readers.specs.declared.iso8601.ExtendedKind.{ExtendedKind}
use Rattle.time_readers.specs.declared.iso8601.ExtendedKind.TheVariants.{Extended, Unknown}
use Rattle.time_readers.specs.declared.iso8601.TimeNumbers.{TimeNumbers}
use Rattle.time_record.specs.Record.{Record}
use Rattle.time_parsing.specs.Iso8601.{date_entries, put_or_fault, reading}
use Rattle.time_parsing.specs.Rfc3339.{with_leap_second}
use Rattle.time_locating.specs.Located.{Locating}
use Rattle.time_locating.specs.Misses.{Miss, Expectation, missed, these_bytes, named, expected_of, furthest, place_after}
use Rattle.time_locating.specs.declared.iso8601.Piece.{Piece}
use Rattle.time_locating.specs.declared.iso8601.Piece.TheVariants as piece

-- the rest after a value, without the value, or none if nothing was found
abbrev pub rest_of : {V : Type 0} → Option (List ℕ × V) → Option (List ℕ)
rest_of found = option_map (λ f. f.0) found

-- the rest after a piece as `Piece` defines it, with its range, whatever the pieces before it; none if it doesn't match
abbrev pub after : Piece → Reader
after piece.Year bytes = rest_of (year bytes)
after piece.Dash bytes = byte 45 bytes
after piece.Month bytes = rest_of (month bytes)
after piece.Day bytes = rest_of (positive 2 bytes)
after piece.Ordinal bytes = rest_of (positive 3 bytes)
after piece.WeekLetter bytes = byte 87 bytes
after piece.Week bytes = rest_of (positive 2 bytes)
after piece.Weekday bytes = rest_of (weekday bytes)
after piece.WholeHour bytes = rest_of (times.stands times.whole_hour bytes nothing_given)
after piece.HourAndFraction bytes = rest_of (times.stands times.hour_and_fraction bytes nothing_given)
after piece.WholeMinute bytes = rest_of (times.stands times.whole_minute bytes nothing_given)
after piece.MinuteAndFraction bytes = rest_of (times.stands times.minute_and_fraction bytes nothing_given)
after piece.Second bytes = rest_of (times.stands times.any_second bytes nothing_given)
after piece.Colon bytes = byte 58 bytes
after piece.Zulu bytes = byte 90 bytes
after piece.Sign bytes = rest_of (offsets.stands offsets.plus_or_minus bytes no_offset_parts)
after piece.OffsetHour bytes = rest_of (offsets.stands offsets.hour bytes no_offset_parts)
after piece.OffsetMinute bytes = rest_of (offsets.stands offsets.minute bytes no_offset_parts)

-- what is reported as expected where a piece doesn't match: its byte, or the name of its component, which for a sign is
-- `offset hour`
abbrev pub expected_at : Piece → Expectation
expected_at piece.Year = named (codes "year")
expected_at piece.Dash = these_bytes (codes "-")
expected_at piece.Month = named (codes "month")
expected_at piece.Day = named (codes "day")
expected_at piece.Ordinal = named (codes "ordinal")
expected_at piece.WeekLetter = these_bytes (codes "W")
expected_at piece.Week = named (codes "week")
expected_at piece.Weekday = named (codes "weekday")
expected_at piece.WholeHour = named (codes "hour")
expected_at piece.HourAndFraction = named (codes "hour")
expected_at piece.WholeMinute = named (codes "minute")
expected_at piece.MinuteAndFraction = named (codes "minute")
expected_at piece.Second = named (codes "second")
expected_at piece.Colon = these_bytes (codes ":")
expected_at piece.Zulu = these_bytes (codes "Z")
expected_at piece.Sign = named (codes "offset hour")
expected_at piece.OffsetHour = named (codes "offset hour")
expected_at piece.OffsetMinute = named (codes "offset minute")

-- the list of this miss alone if there is no rest, and otherwise the misses in the rest
abbrev pub miss_or_rest_misses : Miss → (List ℕ → List Miss) → Option (List ℕ) → List Miss
miss_or_rest_misses m later None = m ∷ []
miss_or_rest_misses m later (Some rest) = later rest

-- the miss at the first piece of a row that doesn't match, as a list of one, or no miss if all pieces match
abbrev pub row_misses : List Piece → List ℕ → List Miss
row_misses [] bytes = []
row_misses (p ∷ ps) bytes =
    miss_or_rest_misses (missed (length bytes) (expected_at p)) (row_misses ps) (after p bytes)

-- the misses of rows in their order, each row at the front of the bytes
abbrev pub rows_misses : List (List Piece) → List ℕ → List Miss
rows_misses [] bytes = []
rows_misses (row ∷ rows) bytes = row_misses row bytes ++ rows_misses rows bytes

-- the forms of a date, each a row of pieces
abbrev pub date_rows : List (List Piece)
date_rows =
    (piece.Year ∷ piece.Month ∷ piece.Day ∷ [])
    ∷ (piece.Year ∷ piece.Ordinal ∷ [])
    ∷ (piece.Year ∷ piece.WeekLetter ∷ piece.Week ∷ piece.Weekday ∷ [])
    ∷ (piece.Year ∷ piece.Dash ∷ piece.Month ∷ piece.Dash ∷ piece.Day ∷ [])
    ∷ (piece.Year ∷ piece.Dash ∷ piece.Ordinal ∷ [])
    ∷ (piece.Year ∷ piece.Dash ∷ piece.WeekLetter ∷ piece.Week ∷ piece.Dash ∷ piece.Weekday ∷ [])
    ∷ []

-- the texts of a table's rows that may follow a part of that kind, in order, each a row of pieces; `piece_of` maps a
-- place of the table to its piece
abbrev pub rows_after : {P : Type 0} → (P → Piece) → List (Row P) → ExtendedKind → List (List Piece)
rows_after piece_of [] kind = []
rows_after piece_of (r ∷ rs) kind =
    if r.before kind then map piece_of r.text ∷ rows_after piece_of rs kind else rows_after piece_of rs kind

-- the piece for a part of a row of a time
abbrev pub time_piece : times.Place → Piece
time_piece times.whole_hour = piece.WholeHour
time_piece times.hour_and_fraction = piece.HourAndFraction
time_piece times.whole_minute = piece.WholeMinute
time_piece times.minute_and_fraction = piece.MinuteAndFraction
time_piece times.any_second = piece.Second
time_piece times.colon = piece.Colon

-- the piece for a part of a row of an offset
abbrev pub offset_piece : offsets.OffsetPlace → Piece
offset_piece offsets.z = piece.Zulu
offset_piece offsets.plus_or_minus = piece.Sign
offset_piece offsets.hour = piece.OffsetHour
offset_piece offsets.colon = piece.Colon
offset_piece offsets.minute = piece.OffsetMinute

-- the misses of a time's rows after a date of that kind, or no date (`Unknown`); the bytes begin after the `T`, if any
abbrev pub time_misses : ExtendedKind → List ℕ → List Miss
time_misses kind = rows_misses (rows_after time_piece time_rows kind)

-- the misses of the rows of an offset that may follow a time of that kind; without a time, the kind is `Unknown`
abbrev pub offset_misses : ExtendedKind → List ℕ → List Miss
offset_misses kind = rows_misses (rows_after offset_piece offset_rows kind)

-- the misses of a time after its `T`, given the rest after the `T`; without a `T`, the miss of `T` if `needed`, and
-- otherwise the misses of a time
abbrev pub after_t : Bool → ExtendedKind → List ℕ → Option (List ℕ) → List Miss
after_t needed kind bytes (Some rest) = time_misses kind rest
after_t true kind bytes None = missed (length bytes) (these_bytes (codes "T")) ∷ []
after_t false kind bytes None = time_misses kind bytes

-- the misses of an offset after a time, or no misses without a time
abbrev pub after_time : Option (Found TimeNumbers) → List Miss
after_time None = []
after_time (Some t) = offset_misses t.kind t.rest

-- the misses of an offset after a time, if the time matches, and then those of the time with its `T`, which is optional
-- unless `needs_t`
unfoldable pub from_time : Bool → ExtendedKind → List ℕ → List Miss
from_time needs_t kind bytes =
    after_time (time_text needs_t kind bytes) ++ after_t needs_t kind bytes (byte 84 bytes)

-- the misses of a text parsed without a date: as a time, perhaps with an offset of its kind, then as an offset alone
abbrev pub without_date : List ℕ → List Miss
without_date bytes = from_time false Unknown bytes ++ offset_misses Unknown bytes

-- How many bytes are left at the start of the number of a date that may be greater than a record allows, if `rest`
-- bytes follow the date: the two digits of a day, the three of an ordinal, or the two of a week and the weekday after
-- them, with `-` between them in an extended text.
abbrev pub left_at_number : ExtendedKind → IsoDate → ℕ → ℕ
left_at_number kind (calendar y m d) rest = 2 + rest
left_at_number kind (ordinal y d) rest = 3 + rest
left_at_number Extended (week y w d) rest = 4 + rest
left_at_number kind (week y w d) rest = 3 + rest

-- the misses of a text that begins with a date: those of what follows the date if a record allows the date, and
-- otherwise that of the date's number out of range, and then those of the text without a date
abbrev pub after_date : List ℕ → Found IsoDate → Result Record Refusal → List Miss
after_date bytes d (Ok q) = from_time true d.kind d.rest
after_date bytes d (Err e) =
    missed (left_at_number d.kind d.value (length d.rest)) (expected_of e) ∷ without_date bytes

-- the misses of a text that begins with that date; or without one, those of a date's rows and of a text without a date
abbrev pub by_date : List ℕ → Record → Result (Found IsoDate) Refusal → List Miss
by_date bytes r (Err e) = rows_misses date_rows bytes ++ without_date bytes
by_date bytes r (Ok d) = after_date bytes d (put_or_fault greatest_year (date_entries d.value) r)

-- the misses of a text that is parsed over the record
unfoldable pub misses : List ℕ → Record → List Miss
misses bytes r = by_date bytes r (date_text bytes)

-- The place of a text that isn't read whole over the record, with a leap second allowed: the furthest of its misses,
-- and of the end if a front is read and bytes remain.
abbrev pub Locates : Locating
Locates bytes r m =
    place_after (rest_of (reading greatest_year bytes (with_leap_second r)))
    (furthest (misses bytes (with_leap_second r))) ≡ Some m
