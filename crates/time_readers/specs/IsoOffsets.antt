-- The offset of ISO 8601: a table of its texts.
use Rattle.std.specs.Prelude.{ℕ, List, [], ◌∷◌, Bool, ◌&&◌, is_none, Option, Some, None, option_map}
use Rattle.time_digits.specs.declared.Sign.{Sign}
use Rattle.time_readers.specs.declared.iso8601.ExtendedKind.{ExtendedKind}
use Rattle.time_readers.specs.declared.iso8601.OffsetNumbers.{OffsetNumbers}
use Rattle.time_readers.specs.declared.iso8601.OffsetNumbers.TheVariants.{Zulu, Numeric}
use Rattle.time_readers.specs.IsoPieces.{Found, Piece, digits, up_to, sign, with_sign, byte}
use Rattle.time_readers.specs.IsoTimes.{any, is_basic, not_basic, as_before, extended, Row, row, anything, no_colon, PlaceParser, first_fitting, fitting}

-- The places of a text of the table: `Z`, `-` or `+`, two digits from 0 to 25, `:`, or two digits from 0 to 59.
pub data OffsetPlace : Type 0 where
  z : OffsetPlace
  plus_or_minus : OffsetPlace
  hour : OffsetPlace
  colon : OffsetPlace
  minute : OffsetPlace

-- the bytes don't begin with two digits
abbrev pub no_digits : List ℕ → Bool
no_digits bytes = is_none (digits 2 bytes)

-- the bytes begin neither with `:` nor with two digits
abbrev pub no_colon_no_digits : List ℕ → Bool
no_colon_no_digits bytes = no_colon bytes && no_digits bytes

-- The rows of offsets: places, kinds before, bytes after, kind after. At most one row matches (`law_one_offset_row`).
abbrev pub offset_rows : List (Row OffsetPlace)
offset_rows =
    row (z ∷ []) any anything as_before
    ∷ row (plus_or_minus ∷ hour ∷ []) is_basic no_digits as_before
    ∷ row (plus_or_minus ∷ hour ∷ []) not_basic no_colon_no_digits as_before
    ∷ row (plus_or_minus ∷ hour ∷ minute ∷ []) any anything as_before
    ∷ row (plus_or_minus ∷ hour ∷ colon ∷ minute ∷ []) not_basic anything extended
    ∷ []

-- the values of the places: an offset without a sign is `Z`, and a missing minute is 0
pub record OffsetParts : Type 0 where
  pub signed : Option Sign
  pub hour : ℕ
  pub minute : ℕ

-- the values before any place is parsed
abbrev pub no_offset_parts : OffsetParts
no_offset_parts = record { signed = None; hour = 0; minute = 0 }

-- the match of a place: the rest, and the values o with that of the place; or nothing if the place doesn't match
abbrev pub stands : PlaceParser OffsetPlace OffsetParts
stands z bytes o = option_map (λ rest. (rest, o)) (byte 90 bytes)
stands plus_or_minus bytes o = option_map (λ f. (f.0, record o { signed = Some f.1 })) (sign bytes)
stands hour bytes o = option_map (λ f. (f.0, record o { hour = f.1 })) (up_to 25 2 bytes)
stands colon bytes o = option_map (λ rest. (rest, o)) (byte 58 bytes)
stands minute bytes o = option_map (λ f. (f.0, record o { minute = f.1 })) (up_to 59 2 bytes)

-- the results of all rows that match
abbrev pub offset_texts : ExtendedKind → List ℕ → List (Found OffsetParts)
offset_texts = fitting stands no_offset_parts offset_rows

-- the hour and the minute, both with the sign; or `Z` without a sign
abbrev pub numbers_of : Option Sign → ℕ → ℕ → OffsetNumbers
numbers_of None h m = Zulu
numbers_of (Some s) h m = Numeric (with_sign s h) (with_sign s m)

-- the offset of the places' values: `Z`, or a signed hour and minute. The rest and the kind are unchanged.
abbrev pub numbers_found : Found OffsetParts → Found OffsetNumbers
numbers_found f = record {
  rest = f.rest;
  value = numbers_of f.value.signed f.value.hour f.value.minute;
  kind = f.kind;
}

-- the offset at the front of the bytes, by the first row that matches; or nothing if none does
unfoldable pub offset_text : ExtendedKind → List ℕ → Option (Found OffsetNumbers)
offset_text kind bytes =
    option_map numbers_found
    (first_fitting stands no_offset_parts offset_rows kind bytes)

-- the bytes after an offset, and its numbers, without the kind
abbrev pub offset_found : ExtendedKind → Piece OffsetNumbers
offset_found kind bytes = option_map (λ f. (f.rest, f.value)) (offset_text kind bytes)
