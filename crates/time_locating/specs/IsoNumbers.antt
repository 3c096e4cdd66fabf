-- No public contract rests on this file.
--
-- The numbers of a date and of a time in a text of ISO 8601.
use Rattle.std.specs.Prelude.{◌≡◌, ℕ, ℤ, ◌+◌, List, ◌&&◌, nat_le, nat_lt, unsigned_abs, IsTrue, Option, Some, None, Ok, Err}
use Rattle.std.specs.Borrow.{Bor}
use Rattle.time_values.specs.Calendar.{greatest_year}
use Rattle.time_values.specs.Refusal.{component}
use Rattle.time_readers.specs.IsoDates.{IsoDate, calendar, ordinal, week}
use Rattle.time_readers.specs.IsoTimes.{round_of, when}
use Rattle.time_readers.specs.IsoPieces.{Number, plain, fraction}
use Rattle.time_readers.specs.declared.iso8601.ExtendedKind.{ExtendedKind}
use Rattle.time_record.specs.Record.{Record}
use Rattle.time_parsing.specs.Iso8601.{date_entries, put_or_fault}
use Rattle.time_locating.specs.Iso8601.{left_at_number}

-- the year of a date
abbrev pub year_of : IsoDate → ℤ
year_of (calendar y m d) = y
year_of (ordinal y d) = y
year_of (week y w d) = y

-- a record may have the date's year: it is at most `greatest_year`, which is always 999999, with either sign
abbrev pub IsYearInRange : IsoDate → Type 0
IsYearInRange d = IsTrue (nat_le (unsigned_abs (year_of d)) greatest_year)

-- None if the record accepts the date. Otherwise the record rejects it with the name of that component, whose number
-- begins that many bytes before the date's end.
abbrev pub IsTooGreat : IsoDate → ExtendedKind → Record → Option (ℕ × Bor (List ℕ)) → Type 0
IsTooGreat d kind r None = (q : Record) × (put_or_fault greatest_year (date_entries d) r ≡ Ok q)
IsTooGreat d kind r (Some number) =
    (put_or_fault greatest_year (date_entries d) r ≡ Err (component number.1.now))
    × ((rest : ℕ) → left_at_number kind d rest ≡ number.0 + rest)

-- the rest after a number of at most `greatest` without a fraction, or none
abbrev pub whole_up_to : ℕ → (List ℕ × Number) → Option (List ℕ)
whole_up_to greatest (rest, plain v) = when (nat_le v greatest) rest
whole_up_to greatest (rest, fraction v d) = None

-- the rest after a number with a fraction, whose whole part is at most `greatest`, or none
abbrev pub part_up_to : ℕ → (List ℕ × Number) → Option (List ℕ)
part_up_to greatest (rest, plain v) = None
part_up_to greatest (rest, fraction v d) = when (nat_le v greatest) rest

-- the rest after a second of at most 60, whose fraction, if it has one, doesn't round to 1 in nanoseconds, or none
abbrev pub second_up_to : (List ℕ × Number) → Option (List ℕ)
second_up_to (rest, plain v) = when (nat_le v 60) rest
second_up_to (rest, fraction v d) = when (nat_le v 60 && nat_lt (round_of d 1_000_000_000) 1_000_000_000) rest
