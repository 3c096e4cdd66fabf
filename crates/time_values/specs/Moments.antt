-- Moments as contracts view them: the parts of date-times, and the nanoseconds of a timestamp.
use Rattle.std.specs.Prelude.{ℕ, ℤ, pos, ◌+ℤ◌, ◌*ℤ◌, int_lt, if◌then◌else◌, ◌-ℤ◌, ◌≤ℤ◌, ◌<ℤ◌, ◌⊎◌, ◌≡◌, Option, Some, None, Result, false, codes}
use Rattle.std.specs.Int.Signed.{le_z}
use Rattle.std.specs.Time.{system_time_nanos}
use Rattle.std.specs.declared.time.SystemTime.{SystemTime}
use Rattle.time_values.specs.declared.date.Date.{Date}
use Rattle.time_values.specs.declared.time.Time.{Time}
use Rattle.time_values.specs.declared.utc_offset.UtcOffset.{UtcOffset}
use Rattle.time_values.specs.declared.plain_date_time.PlainDateTime.{PlainDateTime}
use Rattle.time_values.specs.declared.offset_date_time.OffsetDateTime.{OffsetDateTime}
use Rattle.time_values.specs.declared.utc_date_time.UtcDateTime.{UtcDateTime}
use Rattle.time_values.specs.declared.timestamp.Timestamp.{Timestamp}
use Rattle.time_values.specs.Instants.{clock_nanos, instant, first_instant, last_instant}
use Rattle.time_values.specs.Offsets.{offset_seconds}
use Rattle.time_values.specs.declared.duration.Duration.{Duration}
use Rattle.time_values.specs.Refusal.{Refusal, range, Constructs}
use Rattle.time_values.specs.declared.error.ComponentRange.{ComponentRange}

-- the date of a date-time without an offset
abbrev pub plain_date : PlainDateTime → Date
plain_date p = p.date

-- the time of day of a date-time without an offset
abbrev pub plain_time : PlainDateTime → Time
plain_time p = p.time

-- the local date of a date-time with an offset
abbrev pub offset_date : OffsetDateTime → Date
offset_date v = v.date

-- the local time of day of a date-time with an offset
abbrev pub offset_time : OffsetDateTime → Time
offset_time v = v.time

-- the offset from UTC of a date-time with an offset
abbrev pub offset_of : OffsetDateTime → UtcOffset
offset_of v = v.offset

-- the date of a date-time in UTC
abbrev pub utc_date : UtcDateTime → Date
utc_date u = u.date

-- the time of day of a date-time in UTC
abbrev pub utc_time : UtcDateTime → Time
utc_time u = u.time

-- the nanoseconds since 1970-01-01T00:00:00 of a date-time without an offset
abbrev pub plain_instant : ℕ → PlainDateTime → ℤ
plain_instant Y p = clock_nanos Y (plain_date p) (plain_time p)

-- the nanoseconds from 1970-01-01T00:00:00 to the local date and time, both at the offset of the date-time
abbrev pub offset_clock : ℕ → OffsetDateTime → ℤ
offset_clock Y v = clock_nanos Y (offset_date v) (offset_time v)

-- the nanoseconds since 1970-01-01T00:00:00Z of a date-time in UTC
abbrev pub utc_instant : ℕ → UtcDateTime → ℤ
utc_instant Y u = clock_nanos Y (utc_date u) (utc_time u)

-- the nanoseconds since 1970-01-01T00:00:00Z of a date-time with an offset
abbrev pub offset_instant : ℕ → OffsetDateTime → ℤ
offset_instant Y v = instant Y (offset_date v) (offset_time v) (offset_of v)

-- the nanoseconds since 1970-01-01T00:00:00Z of a timestamp
abbrev pub nanoseconds : Timestamp → ℤ
nanoseconds t = t.nanoseconds

-- ---- Local times at other offsets, in nanoseconds since 1970-01-01T00:00:00 at the offset

-- the local time of an instant at that offset, in nanoseconds since 1970-01-01T00:00:00 at the offset
abbrev pub local_time_at : ℤ → UtcOffset → ℤ
local_time_at instant offset = instant +ℤ (offset_seconds offset *ℤ pos 1_000_000_000)

-- ---- Lengths of time, in nanoseconds

-- the nanoseconds of a duration, of either sign
abbrev pub length : Duration → ℤ
length d = d.nanoseconds

-- z is the number of whole units of that many nanoseconds in n, rounded towards 0
abbrev pub IsTowardsZero : ℕ → ℤ → ℤ → Type 0
IsTowardsZero unit n z =
    ((pos 0 ≤ℤ n) × ((z *ℤ pos unit) ≤ℤ n) × (n <ℤ ((z *ℤ pos unit) +ℤ pos unit)))
    ⊎ ((n <ℤ pos 0) × (n ≤ℤ (z *ℤ pos unit)) × (((z *ℤ pos unit) -ℤ pos unit) <ℤ n))

-- the instant with a date in UTC from the year -Y to Y that is nearest to n
abbrev pub nearest_instant : ℕ → ℤ → ℤ
nearest_instant Y n =
    if int_lt n (first_instant Y) then first_instant Y
    else if int_lt (last_instant Y) n then last_instant Y else n

-- ---- Times of the system's clock, which has no times before 1970

-- the error `timestamp` of an instant before 1970-01-01T00:00:00Z, and none for another
abbrev pub system_time_refusal : ℤ → Option Refusal
system_time_refusal n = if le_z (pos 0) n then None else Some (range (codes "timestamp") false)

-- the time of the system's clock n nanoseconds after 1970-01-01T00:00:00Z, or the error `timestamp` if n is negative
abbrev pub ConstructsSystemTime : ℤ → Result SystemTime ComponentRange → Type 0
ConstructsSystemTime n r = Constructs (system_time_refusal n) (λ t. pos (system_time_nanos t) ≡ n) r
