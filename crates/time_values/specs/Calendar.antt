-- The proleptic Gregorian calendar, by counting. Years run from -Y to Y. Weekdays are right if -Y-01-01 is a Monday.
use Rattle.std.specs.Prelude.{◌≡◌, ℕ, zero, suc, ◌+◌, ◌-◌, ◌*◌, ◌%◌, ◌<◌, ◌≤◌, Bool, not, ◌&&◌, ◌||◌, ◌==◌, if◌then◌else◌, ℤ, pos, neg_ℤ, ◌+ℤ◌, ◌-ℤ◌, ◌≤ℤ◌, unsigned_abs}

-- z lies from low to high, both included
abbrev pub IsBetween : ℤ → ℤ → ℤ → Type 0
IsBetween low high z = (low ≤ℤ z) × (z ≤ℤ high)

-- the year y lies from -Y to Y
abbrev pub IsYear : ℕ → ℤ → Type 0
IsYear Y y = IsBetween (neg_ℤ (pos Y)) (pos Y) y

-- whether the year is divisible by 4, and not by 100 unless by 400
abbrev pub is_leap_year : ℤ → Bool
is_leap_year y =
    (unsigned_abs y % 4 == 0) && (not (unsigned_abs y % 100 == 0) || (unsigned_abs y % 400 == 0))

-- 1 for a leap year, and else 0
abbrev pub leap_day : ℤ → ℕ
leap_day y = if is_leap_year y then 1 else 0

-- the number of days of a year
abbrev pub year_length : ℤ → ℕ
year_length y = if is_leap_year y then 366 else 365

-- the number of days of the month m (1 for January) in the year y
abbrev pub month_length : ℤ → ℕ → ℕ
month_length y m =
    if m == 2 then (if is_leap_year y then 29 else 28)
    else (if (m == 4) || (m == 6) || (m == 9) || (m == 11) then 30 else 31)

-- the number of days of the first n years, from the year -Y on
unfoldable pub days_of_years : ℕ → ℕ → ℕ
days_of_years Y zero = 0
days_of_years Y (suc n) = days_of_years Y n + year_length (pos n -ℤ pos Y)

-- the number of days of the first n months of the year y
unfoldable pub days_of_months : ℤ → ℕ → ℕ
days_of_months y zero = 0
days_of_months y (suc m) = days_of_months y m + month_length y (suc m)

-- the number of days of all years from -Y to Y, both included
abbrev pub day_limit : ℕ → ℕ
day_limit Y = days_of_years Y (2 * Y + 1)

-- the number of years before the year y, counted from the year -Y on
abbrev pub years_before : ℕ → ℤ → ℕ
years_before Y y = unsigned_abs (y +ℤ pos Y)

-- the day number of 1 January of the year y: the days since 1 January of the year -Y
abbrev pub year_start : ℕ → ℤ → ℕ
year_start Y y = days_of_years Y (years_before Y y)

-- the day of the year, from 1, of the day d of the month m (1 for January)
abbrev pub ordinal_of : ℤ → ℕ → ℕ → ℕ
ordinal_of y m d = days_of_months y (m - 1) + d

-- the day number: the number of days from 1 January of the year -Y to the day d of the month m of the year y
abbrev pub day_number : ℕ → ℤ → ℕ → ℕ → ℕ
day_number Y y m d = year_start Y y + (ordinal_of y m d - 1)

-- the weekday of the date `day` days after a Monday, such as -999999-01-01 or -9999-01-01; 0 for Monday to 6 for Sunday
abbrev pub weekday_of : ℕ → ℕ
weekday_of day = day % 7

-- how many of the n days from the day number `first` on have the weekday w
unfoldable pub weekdays_in : ℕ → ℕ → ℕ → ℕ
weekdays_in w first zero = 0
weekdays_in w first (suc n) = weekdays_in w first n + (if weekday_of (first + n) == w then 1 else 0)

-- the day number of the Thursday of a day's week, which runs from Monday to Sunday
abbrev pub thursday_of : ℕ → ℕ
thursday_of day = day - weekday_of day + 3

-- the day number lies in that week of that ISO year: the week's Thursday is in the year, as Thursday number `week`
abbrev pub IsIsoWeek : ℕ → ℕ → ℤ → ℕ → Type 0
IsIsoWeek Y day year week =
    IsYear Y year
    × (year_start Y year ≤ thursday_of day)
    × (thursday_of day < year_start Y year + year_length year)
    × (week ≡ weekdays_in 3 (year_start Y year) (thursday_of day + 1 - year_start Y year))

-- the number of ISO weeks of a year, 52 or 53: the number of its Thursdays
abbrev pub iso_weeks_in : ℕ → ℤ → ℕ
iso_weeks_in Y year = weekdays_in 3 (year_start Y year) (year_length year)

-- ---- The range of years

-- the greatest year; the least one is its negative
abbrev pub greatest_year : ℕ
greatest_year = 999_999

-- ---- The range of durations

-- the whole seconds of n nanoseconds, rounded towards 0, fit in an `i64`
abbrev pub IsLength : ℤ → Type 0
IsLength n = IsBetween (neg_ℤ (pos 9_223_372_036_854_775_808_999_999_999)) (pos 9_223_372_036_854_775_807_999_999_999) n
