-- Numbers in the forms of components.
use Rattle.std.specs.Prelude.{ℕ, ◌/◌, ℤ, pos, negsuc, int_lt, unsigned_abs, List, [], ◌∷◌, ◌++◌, codes, Bool, ◌==◌, if◌then◌else◌, ◌+◌, ◌-◌, ◌+ℤ◌, ◌-ℤ◌, ◌||◌, nat_lt, nat_le, Result, Ok, Err}
use Rattle.std.specs.Fmt.{decimal}
use Rattle.time_values.specs.DisplayTexts.{fixed}
use Rattle.time_values.specs.Calendar.{thursday_of, weekdays_in, year_length, year_start}
use Rattle.time_values.specs.Dates as Dates
use Rattle.time_values.specs.declared.date.Date.{Date}
use Rattle.time_digits.specs.declared.Padding.{Padding}
use Rattle.time_digits.specs.declared.Padding.TheVariants as padding
use Rattle.time_formatting.specs.declared.walk.Unformattable.{Unformattable}
use Rattle.time_formatting.specs.declared.walk.Unformattable.TheVariants.{Year}

-- the text that replaces a leading zero: `0` for `Zero`, a space for `Space`, and nothing for `None`
abbrev pub filler : Padding → List ℕ
filler padding.Zero = codes "0"
filler padding.Space = codes " "
filler padding.None = []

-- the digits, with that text in place of each leading zero; the last digit is never replaced
abbrev pub filled : List ℕ → List ℕ → List ℕ
filled fill [] = []
filled fill (c ∷ []) = c ∷ []
filled fill (c ∷ d ∷ ds) = if c == 48 then fill ++ filled fill (d ∷ ds) else c ∷ d ∷ ds

-- the last k digits of n, with the padding's text in place of each leading zero; the last digit is never replaced
abbrev pub padded : Padding → ℕ → ℕ → List ℕ
padded p k n = filled (filler p) (fixed k n)

-- `-` if `is_behind`, otherwise `+` if `is_mandatory`, and otherwise nothing
abbrev pub sign_text : Bool → Bool → List ℕ
sign_text is_behind is_mandatory = if is_behind then codes "-" else if is_mandatory then codes "+" else []

-- the number of whole units, of `unit` nanoseconds each, in that many nanoseconds, rounded down, also below 0
abbrev pub whole : ℕ → ℤ → ℤ
whole unit (pos n) = pos (n / unit)
whole unit (negsuc n) = negsuc (n / unit)

-- n nanoseconds divided by the unit, rounded down, in decimal, with `-` if n is below 0, or else `+` if a sign is
-- mandatory
abbrev pub count_text : ℕ → Bool → ℤ → List ℕ
count_text unit sign_is_mandatory n =
    sign_text (int_lt n (pos 0)) sign_is_mandatory ++ decimal (unsigned_abs (whole unit n))

-- ---- Years and weeks in the forms of components. `Y` is the greatest year.

-- the year of the Thursday with the number `day`, which is at most three days before or after a day of the year y
abbrev pub year_of_thursday : ℕ → ℤ → ℕ → ℤ
year_of_thursday Y y day =
    if nat_lt day (year_start Y y) then y -ℤ pos 1 else
    if nat_lt day (year_start Y y + year_length y) then y else y +ℤ pos 1

-- the year of the date's ISO week, which is that of the week's Thursday; `Y` is the greatest year
unfoldable pub iso_year : ℕ → Date → ℤ
iso_year Y d = year_of_thursday Y (Dates.year d) (thursday_of (Dates.day_number Y d))

-- the date's ISO week: how many Thursdays its ISO year has up to that of the week, inclusive; `Y` is the greatest year
unfoldable pub iso_week : ℕ → Date → ℕ
iso_week Y d =
    weekdays_in 3 (year_start Y (iso_year Y d)) (thursday_of (Dates.day_number Y d) + 1 - year_start Y (iso_year Y d))

-- four digits with the padding for a number below 10000, five below 100000, and otherwise the last six
abbrev pub year_digits : Padding → ℕ → List ℕ
year_digits p n = if nat_lt n 10_000 then padded p 4 n else if nat_lt n 100_000 then fixed 5 n else fixed 6 n

-- two digits with the padding for a number below 100, three below 1000, and otherwise the last four
abbrev pub century_digits : Padding → ℕ → List ℕ
century_digits p n = if nat_lt n 100 then padded p 2 n else if nat_lt n 1000 then fixed 3 n else fixed 4 n

-- `-` for a year below 0, or else `+` if a sign is mandatory or the year is above 9999, or else nothing
abbrev pub year_sign : Bool → ℤ → List ℕ
year_sign sign_is_mandatory y = sign_text (int_lt y (pos 0)) (sign_is_mandatory || int_lt (pos 9999) y)

-- a year with its sign, in four digits with the padding, or in five or six digits
abbrev pub full_year : Bool → Padding → ℤ → List ℕ
full_year sign_is_mandatory p y = year_sign sign_is_mandatory y ++ year_digits p (unsigned_abs y)

-- a year with its sign, without its last two digits: two digits with the padding, or three or four digits
abbrev pub century : Bool → Padding → ℤ → List ℕ
century sign_is_mandatory p y = year_sign sign_is_mandatory y ++ century_digits p (unsigned_abs y / 100)

-- the text if the year is -9999 to 9999, or else the error `Year`
abbrev pub in_standard_range : ℤ → List ℕ → Result (List ℕ) Unformattable
in_standard_range y text = if nat_le (unsigned_abs y) 9999 then Ok text else Err Year
