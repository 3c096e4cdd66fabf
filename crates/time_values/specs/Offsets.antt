-- Offsets from UTC as contracts view them.
use Rattle.std.specs.Prelude.{◌≡◌, false, nat_le, if◌then◌else◌, Option, Some, None, codes, ℤ, pos, ◌+ℤ◌, ◌*ℤ◌, unsigned_abs}
use Rattle.time_values.specs.declared.utc_offset.UtcOffset.{UtcOffset}
use Rattle.time_values.specs.Refusal.{Refusal, range}
use Rattle.time_values.specs.Sign.{same_sign}

-- the hours of an offset, of either sign
abbrev pub hours : UtcOffset → ℤ
hours o = o.hours

-- the minutes of an offset beyond its hours, of either sign
abbrev pub minutes : UtcOffset → ℤ
minutes o = o.minutes

-- the seconds of an offset beyond its minutes, of either sign
abbrev pub seconds : UtcOffset → ℤ
seconds o = o.seconds

-- the offset of these parts, each with the sign of the first that is not 0
abbrev pub HasOffset : ℤ → ℤ → ℤ → UtcOffset → Type 0
HasOffset h m s o =
    (hours o ≡ h) × (minutes o ≡ same_sign h m) × (seconds o ≡ same_sign h (same_sign m s))

-- how far local time at the offset is ahead of UTC, in seconds; below 0 if it is behind
abbrev pub offset_seconds : UtcOffset → ℤ
offset_seconds o = hours o *ℤ pos 3600 +ℤ minutes o *ℤ pos 60 +ℤ seconds o

-- the error of the first part that is out of range, or none: `hours` beyond ±25, `minutes` or `seconds` beyond ±59
abbrev pub offset_refusal : ℤ → ℤ → ℤ → Option Refusal
offset_refusal h m s =
    if nat_le (unsigned_abs h) 25 then (if nat_le (unsigned_abs m) 59
    then (if nat_le (unsigned_abs s) 59 then None else Some (range (codes "seconds") false))
    else Some (range (codes "minutes") false)) else Some (range (codes "hours") false)

-- the error `seconds` of an offset outside -93599 to 93599 seconds, and else none
abbrev pub whole_offset_refusal : ℤ → Option Refusal
whole_offset_refusal s = if nat_le (unsigned_abs s) 93_599 then None else Some (range (codes "seconds") false)

-- the offset is 0
abbrev pub IsUtc : UtcOffset → Type 0
IsUtc o = (hours o ≡ pos 0) × (minutes o ≡ pos 0) × (seconds o ≡ pos 0)
