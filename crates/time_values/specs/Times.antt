-- Times of day as contracts view them.
use Rattle.std.specs.Prelude.{◌≡◌, ℕ, ◌+◌, ◌*◌, false, nat_le, if◌then◌else◌, Option, Some, None, codes}
use Rattle.time_values.specs.declared.time.Time.{Time}
use Rattle.time_values.specs.Refusal.{Refusal, range}

-- the hour of a time of day
abbrev pub hour : Time → ℕ
hour t = t.hour

-- the minute of a time of day
abbrev pub minute : Time → ℕ
minute t = t.minute

-- the second of a time of day
abbrev pub second : Time → ℕ
second t = t.second

-- the nanosecond of the second of a time of day
abbrev pub nanosecond : Time → ℕ
nanosecond t = t.nanosecond

-- the nanoseconds of a time of day since midnight
abbrev pub nanos_of_day : Time → ℕ
nanos_of_day t = (hour t * 3600 + minute t * 60 + second t) * 1_000_000_000 + nanosecond t

-- the time t has hour h, minute m, second s and nanosecond n
abbrev pub HasClock : ℕ → ℕ → ℕ → ℕ → Time → Type 0
HasClock h m s n t = (hour t ≡ h) × (minute t ≡ m) × (second t ≡ s) × (nanosecond t ≡ n)

-- the time t has the hour, minute and second of `before`, and nanosecond n
abbrev pub HasSecond : Time → ℕ → Time → Type 0
HasSecond before n t = HasClock (hour before) (minute before) (second before) n t

-- the error `nanosecond` above 999999999, and else none
abbrev pub nanosecond_refusal : ℕ → Option Refusal
nanosecond_refusal n = if nat_le n 999_999_999 then None else Some (range (codes "nanosecond") false)

-- the error of the first of hour, minute, second and nanosecond that is out of range, or none
abbrev pub time_refusal : ℕ → ℕ → ℕ → ℕ → Option Refusal
time_refusal h m s n =
    if nat_le h 23 then (if nat_le m 59 then (if nat_le s 59 then nanosecond_refusal n
    else Some (range (codes "second") false)) else Some (range (codes "minute") false))
    else Some (range (codes "hour") false)
