-- No public contract rests on this file.
--
-- The reading of ISO 8601 after each part, over a record: the rest of the bytes, and the new record. `Y` is the
-- greatest year.
use Rattle.std.specs.Prelude.{ℕ, List, true, false, Option, Some, None, option_map, unwrap_or, Result, Ok, Err}
use Rattle.time_values.specs.Refusal.{Refusal}
use Rattle.time_readers.specs.IsoPieces.{Found}
use Rattle.time_readers.specs.IsoDates.{need}
use Rattle.time_readers.specs.declared.iso8601.ExtendedKind.{ExtendedKind}
use Rattle.time_readers.specs.declared.iso8601.ExtendedKind.TheVariants.{Unknown}
use Rattle.time_record.specs.Record.{Record}
use Rattle.time_parsing.specs.Iso8601.{date_over, time_over, offset_over}

-- the reading of an offset with that kind before it, known or not, without the kind after it, since it is the last
-- part; none if no offset matches, or a number is out of its range
abbrev pub after_offset : ℕ → ExtendedKind → List ℕ → Record → Option (List ℕ × Record)
after_offset Y kind bytes r = option_map (λ o. (o.rest, o.value)) (offset_over Y kind bytes r)

-- the reading after a time of that kind: an optional offset; without one, the bytes and the record are unchanged
unfoldable pub after_time : ℕ → ExtendedKind → List ℕ → Record → List ℕ × Record
after_time Y kind bytes r = unwrap_or (after_offset Y kind bytes r) (bytes, r)

-- the reading after the date `d`, given the time after it: that of the rest after the time; without a time there is no
-- offset, and the rest is that after the date
abbrev pub after_date : ℕ → Found Record → Option (Found Record) → List ℕ × Record
after_date Y d (Some t) = after_time Y t.kind t.rest t.value
after_date Y d None = (d.rest, d.value)

-- the reading of a text without a date, given the date's error and the time at the start of the bytes: that of the rest
-- after the time; or, without a time, that of an offset; or else the date's error
abbrev pub without_date : ℕ → Refusal → List ℕ → Record → Option (Found Record) → Result (List ℕ × Record) Refusal
without_date Y fault bytes r (Some t) = Ok (after_time Y t.kind t.rest t.value)
without_date Y fault bytes r None = need (after_offset Y Unknown bytes r) fault (λ o. Ok o)

-- the reading of a text, given its date or the date's error; a time requires its `T` only after a date
abbrev pub date_or_none : ℕ → List ℕ → Record → Result (Found Record) Refusal → Result (List ℕ × Record) Refusal
date_or_none Y bytes r (Ok d) = Ok (after_date Y d (time_over Y true d.kind d.rest d.value))
date_or_none Y bytes r (Err fault) = without_date Y fault bytes r (time_over Y false Unknown bytes r)

-- the reading of a text at the start of the bytes, or the date's error if there is no part
unfoldable pub answer : ℕ → List ℕ → Record → Result (List ℕ × Record) Refusal
answer Y bytes r = date_or_none Y bytes r (date_over Y bytes r)
