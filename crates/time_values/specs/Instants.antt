-- Instants in nanoseconds since 1970-01-01T00:00:00Z.
use Rattle.std.specs.Prelude.{◌≡◌, ℕ, ◌+◌, ◌-◌, ◌*◌, Bool, false, ◌&&◌, if◌then◌else◌, Option, Some, None, codes, ℤ, pos, neg_ℤ, ◌+ℤ◌, ◌-ℤ◌, ◌*ℤ◌, ◌≤ℤ◌, ◌<ℤ◌}
use Rattle.std.specs.Int.Signed.{le_z}
use Rattle.time_values.specs.declared.date.Date.{Date}
use Rattle.time_values.specs.declared.time.Time.{Time}
use Rattle.time_values.specs.declared.utc_offset.UtcOffset.{UtcOffset}
use Rattle.time_values.specs.Calendar.{IsBetween, year_start, day_limit, month_length}
use Rattle.time_values.specs.Names.{month_number}
use Rattle.time_values.specs.Dates.{day_number, year, month, day, IsDateWithin}
use Rattle.time_values.specs.Refusal.{Refusal, range}
use Rattle.time_values.specs.Times.{nanos_of_day}
use Rattle.time_values.specs.Offsets.{offset_seconds}

-- the nanoseconds of a day of 24 hours
abbrev pub nanos_per_day : ℕ
nanos_per_day = 86_400_000_000_000

-- the day number of 1970-01-01: the days since 1 January of the year -Y
abbrev pub epoch_day : ℕ → ℕ
epoch_day Y = year_start Y (pos 1970)

-- the nanoseconds from 1970-01-01T00:00:00 to the date and time, both at one offset; days have 24 hours
unfoldable pub clock_nanos : ℕ → Date → Time → ℤ
clock_nanos Y date time =
    (pos (day_number Y date) -ℤ pos (epoch_day Y)) *ℤ pos nanos_per_day +ℤ pos (nanos_of_day time)

-- the instant of a local date and time at that offset, in nanoseconds since 1970-01-01T00:00:00Z
unfoldable pub instant : ℕ → Date → Time → UtcOffset → ℤ
instant Y date time offset = clock_nanos Y date time -ℤ offset_seconds offset *ℤ pos 1_000_000_000

-- the instant of the first nanosecond of the year -Y in UTC
unfoldable pub first_instant : ℕ → ℤ
first_instant Y = neg_ℤ (pos (epoch_day Y * nanos_per_day))

-- the instant of the last nanosecond of the year Y in UTC
unfoldable pub last_instant : ℕ → ℤ
last_instant Y = pos ((day_limit Y - epoch_day Y) * nanos_per_day) -ℤ pos 1

-- the instant n has a date in UTC from the year -Y to the year Y
abbrev pub IsInstant : ℕ → ℤ → Type 0
IsInstant Y n = IsBetween (first_instant Y) (last_instant Y) n

-- whether the instant n has a date in UTC from the year -Y to the year Y
abbrev pub is_instant : ℕ → ℤ → Bool
is_instant Y n = le_z (first_instant Y) n && le_z n (last_instant Y)

-- z is the number of whole units of that many nanoseconds in n, rounded down
abbrev pub IsWhole : ℕ → ℤ → ℤ → Type 0
IsWhole unit n z = ((z *ℤ pos unit) ≤ℤ n) × (n <ℤ ((z *ℤ pos unit) +ℤ pos unit))

-- the error `timestamp` of an instant that has no date in UTC in range, and none for another
abbrev pub timestamp_refusal : ℕ → ℤ → Option Refusal
timestamp_refusal Y n = if is_instant Y n then None else Some (range (codes "timestamp") false)

-- the date and time are the last nanosecond of a month
abbrev pub IsLastNanosecondOfMonth : Date → Time → Type 0
IsLastNanosecondOfMonth date time =
    (nanos_of_day time + 1 ≡ nanos_per_day)
    × (day date ≡ month_length (year date) (month_number (month date)))

-- the instant n is the last nanosecond of a month in UTC, in a year from -Y to Y
abbrev pub IsLeapSecondMoment : ℕ → ℤ → Type 0
IsLeapSecondMoment Y n =
    (date : Date) × (time : Time) × (clock_nanos Y date time ≡ n) × IsLastNanosecondOfMonth date time
    × IsDateWithin Y date
