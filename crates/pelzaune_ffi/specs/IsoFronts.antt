-- No public contract rests on this file.
--
-- The date and time at the start of a text of ISO 8601.
use Rattle.std.specs.Prelude.{◌≡◌, ℕ, List, true, Some, Ok}
use Rattle.time_readers.specs.IsoDates.{date_text, iso_date}
use Rattle.time_readers.specs.IsoTimes.{time_text}
use Rattle.pelzaune_ffi.specs.declared.moments.fast.iso8601.Front.{Front}

-- The text starts with the date of the front, then a `T` and its time, and then its rest. The date and the time are of
-- the front's kind, with separators or without.
abbrev pub IsFront : List ℕ → Front → Type 0
IsFront text f =
    (between : List ℕ)
    × (date_text text ≡ Ok (record { rest = between; value = iso_date f.date; kind = f.kind }))
    × (time_text true f.kind between ≡ Some (record { rest = f.rest.now; value = f.time; kind = f.kind }))
