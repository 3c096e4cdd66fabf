-- No public contract rests on this file.
--
-- The results of the parsers of single pieces and parts of ISO 8601.
use Rattle.std.specs.Prelude.{◌≡◌, ℕ, List, if◌then◌else◌, Option, Some, None, Result, Ok, Err, option_map, option_and_then, ◌≤◌, ◌+◌, ◌*◌, ◌-◌, true}
use Rattle.std.specs.Borrow.{Bor}
use Rattle.time_values.specs.Refusal.{Refusal, refusal_of_description}
use Rattle.time_values.specs.declared.error.ParseFromDescription.{ParseFromDescription}
use Rattle.time_digits.specs.declared.ParsedItem.{ParsedItem}
use Rattle.time_digits.specs.declared.Sign.{Sign}
use Rattle.time_readers.specs.declared.iso8601.ExtendedKind.{ExtendedKind}
use Rattle.time_readers.specs.declared.iso8601.ExtendedKind.TheVariants.{Basic, Extended}
use Rattle.time_readers.specs.declared.iso8601.OffsetNumbers.{OffsetNumbers}
use Rattle.time_readers.specs.declared.iso8601.OffsetNumbers.TheVariants.{Zulu}
use Rattle.time_readers.specs.declared.iso8601.TimeNumbers.{TimeNumbers}
use Rattle.time_readers.specs.IsoPieces.{Found, Number, number, digits, up_to, sign, byte}
use Rattle.time_readers.specs.IsoTimes.{not_basic, nothing_given, says, any_second, time_text}
use Rattle.time_readers.specs.IsoOffsets.{numbers_of}
use Rattle.time_readers.specs.IsoDates.{AreCalendarDigits}
use Rattle.time_readers.specs.declared.iso8601.fast.dates_and_times.FirstSixteen.{FirstSixteen}

-- the parser of a byte returns the rest that is found, or `None` if none is
abbrev pub Leaves : Option (List ℕ) → Option (Bor (List ℕ)) → Type 0
Leaves found None = found ≡ None
Leaves found (Some rest) = found ≡ Some rest.now

-- the parser of a form returns the rest and the value as viewed, or the error
abbrev pub ReturnsForm : {V W : Type 0} → (V → W) → Result (List ℕ × W) Refusal
    → Result (ParsedItem V) ParseFromDescription → Type 0
ReturnsForm view found (Err e) = found ≡ Err (refusal_of_description e)
ReturnsForm view found (Ok p) = found ≡ Ok (p.0.now, view p.1)

-- the time of a whole hour and a whole minute: its second and nanosecond are 0
abbrev pub hour_and_minute : ℕ → ℕ → TimeNumbers
hour_and_minute h m = record nothing_given { hour = h; minute = m }

-- The time with a second and that kind, from the rest and the number parsed for the second. Nothing for a second above
-- 60 and for a fraction that rounds to 1.
abbrev pub second_found : TimeNumbers → ExtendedKind → (List ℕ × Number) → Option (Found TimeNumbers)
second_found t kind f = option_map (λ u. record { rest = f.0; value = u; kind = kind }) (says any_second f.1 t)

-- The time t, of an hour and a minute without separators, with a second if one follows. The last parameter is the
-- number at the front of the bytes with the bytes after it, if there is one. Nothing if that number isn't a second.
abbrev pub basic_second : TimeNumbers → List ℕ → Option (List ℕ × Number) → Option (Found TimeNumbers)
basic_second t bytes None = Some (record { rest = bytes; value = t; kind = Basic })
basic_second t bytes (Some f) = second_found t Basic f

-- The time t, of an hour and a minute in an extended text, with a second if a colon and a second follow. The last
-- parameter is the bytes after a colon, if there is one. Nothing if no second follows the colon.
abbrev pub extended_second : TimeNumbers → List ℕ → Option (List ℕ) → Option (Found TimeNumbers)
extended_second t bytes None = Some (record { rest = bytes; value = t; kind = Extended })
extended_second t bytes (Some after) = option_and_then (second_found t Extended) (number after)

-- an offset's minute without a colon: 0 if the last parameter, any two digits, is nothing; else they must be 0 to 59
abbrev pub minute_or_none : List ℕ → Option (List ℕ × ℕ) → Option (List ℕ × ℕ)
minute_or_none bytes None = Some (bytes, 0)
minute_or_none bytes (Some f) = up_to 59 2 bytes

-- a piece, and the kind after it
abbrev pub with_kind : {V : Type 0} → ExtendedKind → (List ℕ × V) → Found V
with_kind kind p = record { rest = p.0; value = p.1; kind = kind }

-- The minute of an offset after a colon, which makes the kind extended, or without a colon, which doesn't change it.
-- The last parameter is the bytes after the colon, if there is one.
abbrev pub minute_after : ExtendedKind → List ℕ → Option (List ℕ) → Option (Found ℕ)
minute_after kind bytes (Some after) = option_map (with_kind Extended) (up_to 59 2 after)
minute_after kind bytes None = option_map (with_kind kind) (minute_or_none bytes (digits 2 bytes))

-- the bytes after a colon; nothing if there is none, or if the kind is basic
abbrev pub colon_of : ExtendedKind → List ℕ → Option (List ℕ)
colon_of kind bytes = if not_basic kind then byte 58 bytes else None

-- The minute of an offset after its hour, 0 if it is missing, with the kind after it. Nothing if the minute is above
-- 59, or missing after a colon where the kind isn't basic. In a basic text a colon is left in the rest.
unfoldable pub offset_minute : ExtendedKind → List ℕ → Option (Found ℕ)
offset_minute kind bytes = minute_after kind bytes (colon_of kind bytes)

-- the offset of a sign s and an hour h.1, with the minute in the bytes h.0 after them, or 0; nothing if it is invalid
abbrev pub after_hour : ExtendedKind → Sign → (List ℕ × ℕ) → Option (Found OffsetNumbers)
after_hour kind s h =
    option_map (λ m. record { rest = m.rest; value = numbers_of (Some s) h.1 m.value; kind = m.kind })
    (offset_minute kind h.0)

-- `Z` if the last parameter has the bytes after it; else the sign, hour (0 to 25) and minute of the bytes, or nothing
abbrev pub offset_after : ExtendedKind → List ℕ → Option (List ℕ) → Option (Found OffsetNumbers)
offset_after kind bytes (Some after) = Some (record { rest = after; value = Zulu; kind = kind })
offset_after kind bytes None =
    option_and_then (λ s. option_and_then (after_hour kind s.1) (up_to 25 2 s.0)) (sign bytes)

-- the offset at the front of the bytes: `Z`, or else a sign, an hour and a minute, 0 if it is missing; or nothing
unfoldable pub offset_by_pieces : ExtendedKind → List ℕ → Option (Found OffsetNumbers)
offset_by_pieces kind bytes = offset_after kind bytes (byte 90 bytes)

-- ---- What the fast paths of ISO 8601 parse

-- the number of two digits, which are given as ASCII bytes
abbrev pub two_digits : ℕ → ℕ → ℕ
two_digits tens ones = (tens - 48) * 10 + (ones - 48)

-- the number, rounded half up to nanoseconds, is that second of any hour and minute, with that many nanoseconds
abbrev pub IsSecondOfTime : Number → ℕ → ℕ → Type 0
IsSecondOfTime n second nanoseconds =
    (h m : ℕ) → says any_second n (hour_and_minute h m)
    ≡ Some (record { hour = h; minute = m; second = second; subsecond = nanoseconds })

-- if the hour is up to 23 and a valid second begins `after` (past a `:` if extended), `T` and this time follow the date
abbrev pub IsClock : FirstSixteen → Type 0
IsClock f =
    (n : Number) (rest : List ℕ) (s nanoseconds : ℕ) → f.hour ≤ 23
    → number f.after.now ≡ Some (rest, n) → IsSecondOfTime n s nanoseconds
    → time_text true f.date.kind f.date.rest.now ≡ Some (record {
      rest = rest;
      value = record { hour = f.hour; minute = f.minute; second = s; subsecond = nanoseconds };
      kind = f.date.kind;
    })

-- the text, basic or extended, begins with the date as `AreCalendarDigits` states, then with a time as `IsClock` states
abbrev pub IsFirstSixteen : List ℕ → FirstSixteen → Type 0
IsFirstSixteen text f = AreCalendarDigits text f.date × IsClock f
