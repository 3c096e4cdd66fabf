-- No public contract rests on this file.
--
-- Years that begin in March.
use Rattle.std.specs.Prelude.{ℕ, ◌+◌, ◌-◌, ◌*◌, ◌/◌, nat_lt, if◌then◌else◌}

-- the days from 1 March to the next first of the month m: 0 for March (3), 306 for January (1) and 337 for February (2)
abbrev pub march_days : ℕ → ℕ
march_days m = if nat_lt m 3 then 275 + 31 * m else (153 * m - 457) / 5

-- how many years that begin in March have begun in the calendar year by the month m: 1 from March (3) on, and else 0
abbrev pub march_year : ℕ → ℕ
march_year m = if nat_lt 2 m then 1 else 0
