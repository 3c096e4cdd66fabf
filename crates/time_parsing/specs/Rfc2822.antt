-- The mail dates of RFC 2822, parsed over a record. `Y` is the greatest year.
use Rattle.std.specs.Prelude.{◌≡◌, ℕ, List, [], ◌∷◌, ◌++◌, true, Option, Some, None, pos}
use Rattle.time_values.specs.declared.weekday.Weekday.{Weekday}
use Rattle.time_readers.specs.Rfc2822.{HasForm, FailsAt, fault}
use Rattle.time_digits.specs.declared.Sign.{Sign}
use Rattle.time_readers.specs.declared.rfc2822.Numbers.{Numbers}
use Rattle.time_readers.specs.declared.rfc2822.Place.{Place}
use Rattle.time_record.specs.Record.{Entry, put_all, weekday_is, year_is, month_is, day_is, hour_24_is, minute_is, second_is, offset_hour_is, offset_minute_is, offset_second_is}
use Rattle.time_parsing.specs.Outcome.{Reading, Refusing}
use Rattle.time_parsing.specs.Rfc3339.{without_offset_sign, with_leap_second}

-- the entry of a weekday, or no entry if there is none
abbrev pub weekday_entries : Option Weekday → List Entry
weekday_entries None = []
weekday_entries (Some v) = weekday_is v ∷ []

-- the entries of a date: its weekday if there is one, its day, its month and its year; they may contradict each other
abbrev pub date_entries : Numbers → List Entry
date_entries n = weekday_entries n.weekday ++ day_is n.day ∷ month_is n.month ∷ year_is (pos n.year) ∷ []

-- the entry of a second, or no entry if there is none
abbrev pub second_entries : Option ℕ → List Entry
second_entries None = []
second_entries (Some v) = second_is v ∷ []

-- the entries of a time: its hour and minute, and its second if there is one
abbrev pub time_entries : Numbers → List Entry
time_entries n = hour_24_is n.hour ∷ minute_is n.minute ∷ second_entries n.second

-- The entries of an offset: for a zone name, which has no sign, its hour, and 0 as minute and second; for a numeric
-- offset, which has a sign, its hour and minute, and no second. The hour and the minute are signed numbers.
abbrev pub offset_entries : Option Sign → Numbers → List Entry
offset_entries None n = offset_hour_is n.offset_hour ∷ offset_minute_is (pos 0) ∷ offset_second_is (pos 0) ∷ []
offset_entries (Some sign) n = offset_hour_is n.offset_hour ∷ offset_minute_is n.offset_minute ∷ []

-- the entries of the numbers, in the order of the places
abbrev pub entries : Numbers → List Entry
entries n = date_entries n ++ time_entries n ++ offset_entries n.offset_sign n

-- The bytes before `rest` are the texts of the fifteen places, each of its form and in its range. The new record is the
-- old one with their numbers, a leap second allowed, and the flag of a negative offset cleared, even for `-0500`.
abbrev pub Reads : ℕ → Reading
Reads Y bytes r rest new =
    (n : Numbers) × HasForm true bytes rest n
    × (put_all Y (entries n) (with_leap_second (without_offset_sign r)) ≡ Some new)

-- the error of the first of the fifteen places whose form or range is violated, for any record
abbrev pub Refuses : ℕ → Refusing
Refuses Y bytes r e = (p : Place) × FailsAt true bytes p × (e ≡ fault p)
