-- No public contract rests on this file.
--
-- What the places of a mail date so far determine for those after them.
use Rattle.std.specs.Prelude.{◌≡◌, ℕ, is_some}
use Rattle.time_readers.specs.declared.rfc2822.Numbers.{Numbers}
use Rattle.time_readers.specs.declared.rfc2822.Place.{Place}
use Rattle.time_readers.specs.declared.rfc2822.Place.TheVariants.{WeekdayName, Day, DayBlanks, MonthName, MonthBlanks, Year, YearBlanks, Hour, HourColon, Minute, Second, TimeBlanks, OffsetHour, OffsetMinute, EndBlanks}
use Rattle.time_locating.specs.declared.rfc2822.Passed.{Passed}

-- `passed` and the numbers agree on whether the year has four digits, and on whether the offset has a sign
abbrev pub Agrees : Numbers → Passed → Type 0
Agrees n passed = (n.year_is_full ≡ passed.year_is_full) × (is_some n.offset_sign ≡ passed.offset_has_sign)

-- how many of the fifteen places precede this one
abbrev pub rank : Place → ℕ
rank WeekdayName = 0
rank Day = 1
rank DayBlanks = 2
rank MonthName = 3
rank MonthBlanks = 4
rank Year = 5
rank YearBlanks = 6
rank Hour = 7
rank HourColon = 8
rank Minute = 9
rank Second = 10
rank TimeBlanks = 11
rank OffsetHour = 12
rank OffsetMinute = 13
rank EndBlanks = 14
