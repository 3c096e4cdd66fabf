-- Digits of numbers, and values as they are printed.
use Rattle.std.specs.Prelude.{ℕ, zero, suc, ◌+◌, ◌/◌, ◌%◌, max, ℤ, pos, int_lt, unsigned_abs, List, [], ◌∷◌, ◌++◌, codes, take, Bool, ◌||◌, ◌==◌, nat_lt, if◌then◌else◌}
use Rattle.time_values.specs.Dates as Dates
use Rattle.time_values.specs.Moments.{plain_date, plain_time, utc_date, utc_time, offset_date, offset_time, offset_of}
use Rattle.time_values.specs.Names.{month_number}
use Rattle.time_values.specs.Offsets as Offsets
use Rattle.time_values.specs.Times as Times
use Rattle.time_values.specs.declared.date.Date.{Date}
use Rattle.time_values.specs.declared.offset_date_time.OffsetDateTime.{OffsetDateTime}
use Rattle.time_values.specs.declared.plain_date_time.PlainDateTime.{PlainDateTime}
use Rattle.time_values.specs.declared.time.Time.{Time}
use Rattle.time_values.specs.declared.utc_date_time.UtcDateTime.{UtcDateTime}
use Rattle.time_values.specs.declared.utc_offset.UtcOffset.{UtcOffset}

-- the model of a `Text`: its bytes
pub record Items : Type 0 where
  pub items : List ℕ

-- the last k decimal digits of n in ASCII, with leading zeros
unfoldable pub fixed : ℕ → ℕ → List ℕ
fixed zero n = []
fixed (suc k) n = fixed k (n / 10) ++ ((48 + n % 10) ∷ [])

-- how many of the last k decimal digits of n are left after the zeros at the end are removed
unfoldable pub significant : ℕ → ℕ → ℕ
significant zero n = 0
significant (suc k) n = if n % 10 == 0 then significant k (n / 10) else suc k

-- a point and the first k of the nine digits of the nanosecond n, or nothing if k is 0
abbrev pub fraction_display : ℕ → ℕ → List ℕ
fraction_display k n = if k == 0 then [] else codes "." ++ take k (fixed 9 n)

-- the ASCII digits of n, which is below 1000000, with leading zeros up to four digits
abbrev pub magnitude_display : ℕ → List ℕ
magnitude_display n = if nat_lt n 10_000 then fixed 4 n else if nat_lt n 100_000 then fixed 5 n else fixed 6 n

-- `-` below 0, `+` above 9999, and nothing for a year from 0 to 9999
abbrev pub year_sign_display : ℤ → List ℕ
year_sign_display y = if int_lt y (pos 0) then codes "-" else if int_lt (pos 9999) y then codes "+" else []

-- `YYYY-MM-DD`; a year outside 0 to 9999 has a sign and four to six digits
abbrev pub date_display : Date → List ℕ
date_display d =
    year_sign_display (Dates.year d) ++ magnitude_display (unsigned_abs (Dates.year d)) ++ codes "-"
    ++ fixed 2 (month_number (Dates.month d)) ++ codes "-" ++ fixed 2 (Dates.day d)

-- the hour in ASCII: one digit below 10, and else two
abbrev pub hour_display : ℕ → List ℕ
hour_display h = if nat_lt h 10 then (48 + h) ∷ [] else fixed 2 h

-- `H:MM:SS.n`: the hour has no leading zero, and the fraction no zeros at its end, but a fraction of 0 is `.0`
abbrev pub time_display : Time → List ℕ
time_display t =
    hour_display (Times.hour t) ++ codes ":" ++ fixed 2 (Times.minute t) ++ codes ":" ++ fixed 2 (Times.second t)
    ++ fraction_display (max (significant 9 (Times.nanosecond t)) 1) (Times.nanosecond t)

-- whether the hours, minutes or seconds of the offset are below 0
abbrev pub is_behind : UtcOffset → Bool
is_behind o =
    int_lt (Offsets.hours o) (pos 0) || int_lt (Offsets.minutes o) (pos 0) || int_lt (Offsets.seconds o) (pos 0)

-- the ASCII byte of the sign: `-` if the offset is below 0, and else `+`
abbrev pub offset_sign_display : UtcOffset → ℕ
offset_sign_display o = if is_behind o then 45 else 43

-- `+HH:MM:SS`, or `-HH:MM:SS` below 0
abbrev pub offset_display : UtcOffset → List ℕ
offset_display o =
    offset_sign_display o ∷ fixed 2 (unsigned_abs (Offsets.hours o)) ++ codes ":"
    ++ fixed 2 (unsigned_abs (Offsets.minutes o)) ++ codes ":" ++ fixed 2 (unsigned_abs (Offsets.seconds o))

-- the date, a space, and the time
abbrev pub plain_display : PlainDateTime → List ℕ
plain_display p = date_display (plain_date p) ++ codes " " ++ time_display (plain_time p)

-- the local date, a space, the local time, a space, and the offset
abbrev pub moment_display : OffsetDateTime → List ℕ
moment_display v =
    date_display (offset_date v) ++ codes " " ++ time_display (offset_time v) ++ codes " "
    ++ offset_display (offset_of v)

-- the date, a space, the time, and ` +00`
abbrev pub utc_display : UtcDateTime → List ℕ
utc_display u = date_display (utc_date u) ++ codes " " ++ time_display (utc_time u) ++ codes " +00"
