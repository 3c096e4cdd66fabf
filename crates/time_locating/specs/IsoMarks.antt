-- Where the components of an ISO 8601 text begin.
--
-- The date, the time and the offset are each a row of pieces: the first of the allowed rows that ends where the date,
-- the time or the offset ends.
use Rattle.time_values.specs.Calendar.{greatest_year}
use Rattle.std.specs.Prelude.{◌≡◌, ◌==◌, ℕ, List, [], ◌∷◌, length, codes, Bool, true, false, if◌then◌else◌, Option, Some, None, unwrap_or, option_and_then, Result, Ok, Err}
use Rattle.std.specs.Option.{option_or}
use Rattle.std.specs.Str.{bytes_eq}
use Rattle.time_values.specs.Refusal.{Refusal}
use Rattle.time_readers.specs.IsoPieces.{Found, byte}
use Rattle.time_readers.specs.IsoDates.{IsoDate, date_text}
use Rattle.time_readers.specs.IsoOffsets.{offset_rows}
use Rattle.time_readers.specs.IsoTimes.{time_rows, time_text}
use Rattle.time_readers.specs.declared.iso8601.ExtendedKind.{ExtendedKind}
use Rattle.time_readers.specs.declared.iso8601.ExtendedKind.TheVariants.{Unknown}
use Rattle.time_readers.specs.declared.iso8601.TimeNumbers.{TimeNumbers}
use Rattle.time_record.specs.Record.{Record}
use Rattle.time_parsing.specs.Iso8601.{date_entries, put_or_fault, reading}
use Rattle.time_parsing.specs.Rfc3339.{with_leap_second}
use Rattle.time_locating.specs.Iso8601.{after, date_rows, offset_piece, rest_of, rows_after, time_piece, expected_at}
use Rattle.time_locating.specs.Located.{Marking}
use Rattle.time_locating.specs.Misses.{Expectation, named}
use Rattle.time_locating.specs.declared.iso8601.Piece.{Piece}
use Rattle.time_locating.specs.declared.iso8601.Piece.TheVariants as piece

-- whether a component of that name is expected
abbrev pub expects_name : List ℕ → Expectation → Bool
expects_name name (named other) = bytes_eq name other
expects_name name w = false

-- whether the piece belongs to the component of that name: `Z` and a sign belong to the hour of an offset
abbrev pub is_piece_of : List ℕ → Piece → Bool
is_piece_of name piece.Zulu = bytes_eq name (codes "offset hour")
is_piece_of name p = expects_name name (expected_at p)

-- the rest after the pieces of a row, or none if one doesn't match
abbrev pub after_row : List Piece → List ℕ → Option (List ℕ)
after_row [] bytes = Some bytes
after_row (p ∷ ps) bytes = option_and_then (after_row ps) (after p bytes)

-- how many bytes are left at the start of the row's first piece of that name, or none if the row has no such piece or a
-- piece before it doesn't match
abbrev pub row_mark : List ℕ → List Piece → List ℕ → Option ℕ
row_mark name [] bytes = None
row_mark name (p ∷ ps) bytes =
    if is_piece_of name p then Some (length bytes) else option_and_then (row_mark name ps) (after p bytes)

-- whether there is a rest, and it has exactly `left` bytes
abbrev pub leaves : ℕ → Option (List ℕ) → Bool
leaves left None = false
leaves left (Some rest) = length rest == left

-- how many bytes are left where that name begins in the first row that matches and leaves exactly `left`, or none
abbrev pub rows_mark : List ℕ → ℕ → List (List Piece) → List ℕ → Option ℕ
rows_mark name left [] bytes = None
rows_mark name left (row ∷ rows) bytes =
    if leaves left (after_row row bytes) then row_mark name row bytes else rows_mark name left rows bytes

-- how many bytes are left where that name begins in an offset, after a part of that kind, that leaves `left`, or none
abbrev pub offset_mark : List ℕ → ℕ → ExtendedKind → List ℕ → Option ℕ
offset_mark name left kind = rows_mark name left (rows_after offset_piece offset_rows kind)

-- how many bytes are left at the start of the component of that name, in a time that may follow a part of that kind,
-- may begin with `T`, and leaves exactly `left` bytes, or none
abbrev pub time_mark : List ℕ → ℕ → ExtendedKind → List ℕ → Option ℕ
time_mark name left kind bytes =
    rows_mark name left (rows_after time_piece time_rows kind) (unwrap_or (byte 84 bytes) bytes)

-- how many bytes are left at the start of the component of that name, in an offset that follows the time and leaves
-- `left` bytes, or else in the time, after a part of that kind; none if neither has it; `otherwise` without a time
abbrev pub from_time : List ℕ → ℕ → ExtendedKind → List ℕ → Option (Found TimeNumbers) → Option ℕ → Option ℕ
from_time name left kind bytes None otherwise = otherwise
from_time name left kind bytes (Some t) otherwise =
    option_or (offset_mark name left t.kind t.rest) (time_mark name (length t.rest) kind bytes)

-- how many bytes are left at the start of the component of that name, in a text without a date that leaves `left`
-- bytes: a time, perhaps with an offset, or if no time matches, an offset alone; none without such a component
abbrev pub without_date : List ℕ → ℕ → List ℕ → Option ℕ
without_date name left bytes =
    from_time name left Unknown bytes (time_text false Unknown bytes) (offset_mark name left Unknown bytes)

-- how many bytes are left at the start of the component of that name: in what follows the date, or else in the date;
-- if the date can't be stored (`Err`), in the text parsed without a date; none without such a component
abbrev pub after_date : List ℕ → ℕ → List ℕ → Found IsoDate → Result Record Refusal → Option ℕ
after_date name left bytes d (Err e) = without_date name left bytes
after_date name left bytes d (Ok q) =
    option_or (from_time name left d.kind d.rest (time_text true d.kind d.rest) None)
    (rows_mark name (length d.rest) date_rows bytes)

-- how many bytes are left where that name begins, in a text that begins with that date, or in one without a date
abbrev pub by_date : List ℕ → ℕ → List ℕ → Record → Result (Found IsoDate) Refusal → Option ℕ
by_date name left bytes r (Err e) = without_date name left bytes
by_date name left bytes r (Ok d) = after_date name left bytes d (put_or_fault greatest_year (date_entries d.value) r)

-- how many bytes are left where that name begins in a text that leaves `left` bytes unread, or none without the name
unfoldable pub text_mark : List ℕ → ℕ → List ℕ → Record → Option ℕ
text_mark name left bytes r = by_date name left bytes r (date_text bytes)

-- The mark is how many bytes are left at the start of the component of that name in a text over the record, with a
-- leap second allowed. It is none if no front of the text is read, or if nothing of that name is read.
abbrev pub Marks : Marking
Marks name bytes r mark =
    mark ≡ option_and_then (λ rest. text_mark name (length rest) bytes (with_leap_second r))
    (rest_of (reading greatest_year bytes (with_leap_second r)))
