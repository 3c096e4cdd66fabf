-- No public contract rests on this file.
--
-- Local times that are moved, in nanoseconds since 1970-01-01T00:00:00 on their clock.
use Rattle.std.specs.Prelude.{ℤ, pos, neg_ℤ, ◌+ℤ◌, ◌-ℤ◌, ◌*ℤ◌}
use Rattle.time_values.specs.Calendar.{IsBetween, greatest_year}
use Rattle.time_values.specs.Instants.{clock_nanos}
use Rattle.time_values.specs.Offsets.{offset_seconds}
use Rattle.time_values.specs.declared.date.Date.{Date}
use Rattle.time_values.specs.declared.time.Time.{Time}
use Rattle.time_values.specs.declared.utc_offset.UtcOffset.{UtcOffset}

-- the nanoseconds from 1970-01-01T00:00:00 to the local time `seconds` s after the date and time, all at one offset
abbrev pub moved_clock : Date → Time → ℤ → ℤ
moved_clock date time seconds = clock_nanos greatest_year date time +ℤ seconds *ℤ pos 1_000_000_000

-- the local time at `to` of a date and time at the offset `from`, in nanoseconds since 1970-01-01T00:00:00 at `to`
abbrev pub other_clock : Date → Time → UtcOffset → UtcOffset → ℤ
other_clock date time from to = moved_clock date time (offset_seconds to -ℤ offset_seconds from)

-- n is at most 3.2e22 nanoseconds from 0, as every date and time at any offset is
abbrev pub IsNear : ℤ → Type 0
IsNear n = IsBetween (neg_ℤ (pos 32_000_000_000_000_000_000_000)) (pos 32_000_000_000_000_000_000_000) n
