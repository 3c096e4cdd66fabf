-- RFC 3339, parsed over a record. `Y` is the greatest year.
use Rattle.std.specs.Prelude.{◌≡◌, ℕ, List, [], ◌∷◌, ◌++◌, true, false, if◌then◌else◌, Option, Some, None, pos}
use Rattle.time_values.specs.Names.{month_number}
use Rattle.time_values.specs.Sign.{signed_by}
use Rattle.time_values.specs.declared.month.Month.{Month}
use Rattle.time_readers.specs.Rfc3339.{HasForm, FailsAt, fault}
use Rattle.time_readers.specs.declared.rfc3339.Numbers.{Numbers}
use Rattle.time_readers.specs.declared.rfc3339.Place.{Place}
use Rattle.time_record.specs.Record.{Record, Entry, put_all, year_is, month_is, day_is, hour_24_is, minute_is, second_is, subsecond_is, offset_hour_is, offset_minute_is, offset_second_is}
use Rattle.time_parsing.specs.Outcome.{Reading, Refusing}

-- the entries of a date: its year, its month m, and its day
abbrev pub date_entries : Numbers → Month → List Entry
date_entries n m = year_is (pos n.year) ∷ month_is m ∷ day_is n.day ∷ []

-- the entry of a fraction in nanoseconds, or no entry if there is none
abbrev pub subsecond_entries : Option ℕ → List Entry
subsecond_entries None = []
subsecond_entries (Some v) = subsecond_is v ∷ []

-- the entries of a time: its hour, minute and second, and its fraction if there is one
abbrev pub time_entries : Numbers → List Entry
time_entries n = hour_24_is n.hour ∷ minute_is n.minute ∷ second_is n.second ∷ subsecond_entries n.subsecond

-- the entries of a numeric offset, which has no second: its hour and its minute, both with its sign
abbrev pub numeric_offset_entries : Numbers → List Entry
numeric_offset_entries n =
    offset_hour_is (signed_by n.offset_is_negative (pos n.offset_hour))
    ∷ offset_minute_is (signed_by n.offset_is_negative (pos n.offset_minute))
    ∷ []

-- the entries of an offset: its hour and its minute, both with its sign, and for `Z` also 0 as its second
abbrev pub offset_entries : Numbers → List Entry
offset_entries n =
    if n.is_utc then numeric_offset_entries n ++ offset_second_is (pos 0) ∷ [] else numeric_offset_entries n

-- the entries of the numbers, whose month is m, in the order of the places
abbrev pub entries : Numbers → Month → List Entry
entries n m = date_entries n m ++ time_entries n ++ offset_entries n

-- the record with the flag of a negative offset cleared, which an offset hour of a description may have set
abbrev pub without_offset_sign : Record → Record
without_offset_sign r = record r { offset_is_negative = false }

-- the record with a leap second allowed
abbrev pub with_leap_second : Record → Record
with_leap_second r = record r { leap_second_allowed = true }

-- The bytes before `rest` are the texts of the fifteen places, each of its form and in its range. The new record is the
-- old one with their numbers, a leap second allowed, and the flag of a negative offset cleared, even for `-05:00`.
abbrev pub Reads : ℕ → Reading
Reads Y bytes r rest new =
    (n : Numbers) × (m : Month) × HasForm true bytes rest n × (month_number m ≡ n.month)
    × (put_all Y (entries n m) (with_leap_second (without_offset_sign r)) ≡ Some new)

-- the error of the first of the fifteen places whose form or range is violated, for any record
abbrev pub Refuses : ℕ → Refusing
Refuses Y bytes r e = (p : Place) × FailsAt true bytes p × (e ≡ fault p)
