-- The text of a component is parsed as the component's value.
use Rattle.std.specs.Prelude.{nat_lt, nat_le}
use Rattle.std.specs.Str.{str_to_ascii_lowercase}
use Rattle.std.proofs.Common.{◌≡◌, ℕ, ◌+◌, ◌-◌, ◌^◌, ◌<◌, ◌≤◌, Bool, true, false, refl, arith, ℤ, pos, ◌+ℤ◌, ◌-ℤ◌, unsigned_abs, List, [], take, Ok, Result, inl, ap, subst, sym, ◌%◌, ◌<ℤ◌, ◌∙◌}
use Rattle.std.proofs.lemmas.Bool.Decides.{nat_tests}
use Rattle.std.proofs.lemmas.Int.{ints, by_lt_z}
use Rattle.time_values.specs.Calendar.{IsYear, day_limit, month_length, thursday_of, weekdays_in, year_length, year_start, greatest_year, IsIsoWeek}
use Rattle.time_values.specs.Dates.{day, day_number, month, ordinal, weekdays_so_far, year}
use Rattle.time_values.specs.Names.{month_number, month_name, weekday_name}
use Rattle.time_values.specs.declared.date.Date.{Date}
use Rattle.time_values.specs.Dates as Dates
use Rattle.time_values.specs.Moments.{offset_instant}
use Rattle.time_values.specs.DisplayTexts.{is_behind}
use Rattle.time_values.specs.declared.offset_date_time.OffsetDateTime.{OffsetDateTime}
use Rattle.time_values.proofs.InstantLemmas.{ordinal_in, day_number_in, year_start_later}
use Rattle.time_values.proofs.YearLemmas.{abs_within, weekdays_in_closed, day_limit-weekday, year_end_at, year_start-next, year_after_first, year_length-leap_day}
use Rattle.time_values.proofs.NumberLemmas.{month_number_in}
use Rattle.time_digits.specs.Digits.{IsPaddedRun, NoDigitFirst}
use Rattle.time_digits.specs.declared.Padding.{Padding}
use Rattle.time_components.specs.Spelling.{IsNamed, period_name, EndsBy, IsFractionRun, SpellsCentury, SpellsOffsetHour, SpellsTimestamp, SpellsYear, flagged, least_digits, most_digits, signed}
use Rattle.time_components.specs.declared.format_description.Component.TheVariants as component
use Rattle.time_components.specs.declared.modifier.TrailingInput.{TrailingInput}
use Rattle.time_components.specs.declared.modifier.TrailingInput.TheVariants.{Discard, Prohibit}
use Rattle.time_formatting.specs.Numbers.{iso_week, iso_year, year_of_thursday, count_text, padded, century, full_year, in_standard_range}
use Rattle.time_formatting.specs.Components.{count_of, half_of, hour_12, weekday_of, CenturyStops, PaddedStops, YearStops, century_value, kept, last_two, units_value}
use Rattle.time_formatting.specs.Texts.{ComponentSpelled}
use Rattle.time_formatting.specs.declared.walk.Unformattable.{Unformattable}
use Rattle.time_formatting.proofs.DigitRuns.{padded_run}
use Rattle.time_formatting.proofs.FractionTexts.{fraction_spelled, century_extended, century_standard, offset_hour_spelled, year_extended, year_standard, timestamp_spelled}

-- ---- Bounds of the numbers of a date

month_short : (y : ℤ) (m : ℕ) → month_length y m ≤ 31
month_short y m = grind (arith, nat_tests)

pub day_below : (d : Date) → day d < 100
day_below d = omega (arith, d.day_in, month_short (year d) (month_number (month d)))

year_short : (y : ℤ) → year_length y ≤ 366
year_short y = grind (arith, nat_tests)

pub ordinal_below : (d : Date) → ordinal d < 1000
ordinal_below d = omega (arith, ordinal_in d, year_short d.year)

-- the number of weekdays among at most 366 days
weekdays_few : (w first n : ℕ) → w < 7 → n ≤ 366 → weekdays_in w first n < 100
weekdays_few w first n day few = omega (arith, weekdays_in_closed w first n day)

pub weekdays_below : (w : ℕ) (d : Date) → w < 7 → weekdays_so_far greatest_year w d < 100
weekdays_below w d day = weekdays_few w (year_start greatest_year d.year) (ordinal d) day (omega (arith, ordinal_in d, year_short d.year))

-- a fact of the ISO year of a day
abbrev IsNearYear : ℤ → ℕ → Type 0
IsNearYear y t = IsYear greatest_year y × (t + 1 - year_start greatest_year y ≤ 366)

iso_before : (y : ℤ) (t : ℕ) → IsYear greatest_year y → t < year_start greatest_year y → IsNearYear (y -ℤ pos 1) t
iso_before y t within before =
    let later = year_after_first greatest_year y within (omega arith) in
    let next = year_start-next greatest_year (y -ℤ pos 1) y (omega (arith, ints, later)) (omega (arith, ints)) in
    ((omega (arith, ints, later), omega (arith, ints, within)), omega (arith, next, year_short (y -ℤ pos 1)))

iso_after : (y : ℤ) (t : ℕ) → IsYear greatest_year y → t < year_start greatest_year y + year_length y + 3 → t + 1 < day_limit greatest_year
    → year_start greatest_year y + year_length y ≤ t → IsNearYear (y +ℤ pos 1) t
iso_after y t within near limit after =
    let next = year_start-next greatest_year y (y +ℤ pos 1) within.0 refl in
    by_lt_z y (pos greatest_year)
    (λ lt. ((omega (arith, ints, within), omega (arith, ints, lt)), omega (arith, next)))
    (λ ge. absurd (omega (arith, year_end_at greatest_year y refl (omega (arith, ints, within, ge)))))

iso_near : (y : ℤ) (t : ℕ) (b c : Bool) → nat_lt t (year_start greatest_year y) ≡ b → nat_lt t (year_start greatest_year y + year_length y) ≡ c
    → IsYear greatest_year y → t < year_start greatest_year y + year_length y + 3 → t + 1 < day_limit greatest_year
    → IsNearYear (year_of_thursday greatest_year y t) t
iso_near y t true c before same within near limit =
    rw before (iso_before y t within (grind (arith, nat_tests)))
iso_near y t false true before same within near limit =
    rw (before, same) (within, omega (arith, year_short y, let here : t < year_start greatest_year y + year_length y = grind (arith, nat_tests) in here))
iso_near y t false false before same within near limit =
    rw (before, same) (iso_after y t within near limit (grind (arith, nat_tests)))

iso_place : (d : Date) → IsNearYear (iso_year greatest_year d) (thursday_of (day_number greatest_year d))
unfolding iso_year
iso_place d =
    let t = thursday_of (day_number greatest_year d) in
    iso_near d.year t (nat_lt t (year_start greatest_year d.year)) (nat_lt t (year_start greatest_year d.year + year_length d.year)) refl refl d.year_in
    (omega (arith, ordinal_in d)) (omega (arith, day_number_in d, day_limit-weekday greatest_year refl))

pub iso_week_below : (d : Date) → iso_week greatest_year d < 100
unfolding iso_week
iso_week_below d =
    weekdays_few 3 (year_start greatest_year (iso_year greatest_year d))
    (thursday_of (day_number greatest_year d) + 1 - year_start greatest_year (iso_year greatest_year d)) (omega arith) (iso_place d).1

pub year_below : (d : Date) → unsigned_abs (year d) < 10 ^ 6
year_below d = omega (arith, abs_within greatest_year (year d) d.year_in)

pub iso_year_below : (d : Date) → unsigned_abs (iso_year greatest_year d) < 10 ^ 6
iso_year_below d = omega (arith, abs_within greatest_year (iso_year greatest_year d) (iso_place d).0)

-- a result is that text
abbrev IsText : Result (List ℕ) Unformattable → List ℕ → Type 0
IsText result text = result ≡ Ok text

same_text : (a text : List ℕ) → IsText (Ok a) text → a ≡ text
same_text a text is = cc

-- a number of a fixed width
number_run : (p : Padding) (k n : ℕ) (text rest : List ℕ) → 1 ≤ k → n < 10 ^ k → PaddedStops p rest → IsText (Ok (padded p k n)) text
    → IsPaddedRun p k k text rest n
number_run p k n text rest some below stops is =
    subst (λ t. IsPaddedRun p k k t rest n) (same_text (padded p k n) text is) (padded_run p k k n rest some (omega arith) below (inl (refl, stops)))

pair_run : (p : Padding) (n : ℕ) (text rest : List ℕ) → n < 100 → PaddedStops p rest → IsText (Ok (padded p 2 n)) text → IsPaddedRun p 2 2 text rest n
pair_run p n text rest below = number_run p 2 n text rest (omega arith) below

-- a name in its usual case
named : (sensitive : Bool) (name text : List ℕ) → IsText (Ok name) text → IsNamed sensitive name text
named true name text is = sym (same_text name text is)
named false name text is = ap str_to_ascii_lowercase (sym (same_text name text is))

-- a year of the standard range
standard_by : (y : ℤ) (a text : List ℕ) (b : Bool) → nat_le (unsigned_abs y) 9999 ≡ b → IsText (in_standard_range y a) text
    → (unsigned_abs y < 10 ^ 4) × (a ≡ text)
standard_by y a text true few is = (let small : unsigned_abs y < 10 ^ 4 = grind (arith, nat_tests) in small, same_text a text (rw few at is))
standard_by y a text false many is = let none = rw many at is in absurd (cc)

standard : (y : ℤ) (a text : List ℕ) → IsText (in_standard_range y a) text → (unsigned_abs y < 10 ^ 4) × (a ≡ text)
standard y a text = standard_by y a text (nat_le (unsigned_abs y) 9999) refl

-- years and centuries
module _ (mandatory : Bool) (p : Padding) (y : ℤ) (text rest : List ℕ) where
  extended_year : unsigned_abs y < 10 ^ 6 → YearStops mandatory p y rest → IsText (Ok (full_year mandatory p y)) text
      → SpellsYear mandatory p 6 text rest (signed y)
  extended_year below stops is =
      subst (λ t. SpellsYear mandatory p 6 t rest (signed y)) (same_text (full_year mandatory p y) text is) (year_extended mandatory p y rest below stops)

  standard_year : PaddedStops p rest → IsText (in_standard_range y (full_year mandatory p y)) text → SpellsYear mandatory p 4 text rest (signed y)
  standard_year stops is =
      let both = standard y (full_year mandatory p y) text is in
      subst (λ t. SpellsYear mandatory p 4 t rest (signed y)) both.1 (year_standard mandatory p y rest both.0 stops)

  extended_century : unsigned_abs y < 10 ^ 6 → CenturyStops NoDigitFirst mandatory p y rest → IsText (Ok (century mandatory p y)) text
      → SpellsCentury mandatory p 4 text rest (century_value y)
  extended_century below stops is =
      subst (λ t. SpellsCentury mandatory p 4 t rest (century_value y)) (same_text (century mandatory p y) text is)
      (century_extended mandatory p y rest below stops)

  standard_century : CenturyStops (PaddedStops p) mandatory p y rest → IsText (in_standard_range y (century mandatory p y)) text
      → SpellsCentury mandatory p 2 text rest (century_value y)
  standard_century stops is =
      let both = standard y (century mandatory p y) text is in
      subst (λ t. SpellsCentury mandatory p 2 t rest (century_value y)) both.1 (century_standard mandatory p y rest both.0 stops)

-- units of 10 ^ k nanoseconds
timestamp : (k : ℕ) (mandatory : Bool) (v : OffsetDateTime) (text rest : List ℕ) → k ≤ 9 → NoDigitFirst rest
    → IsText (Ok (count_text (10 ^ k) mandatory (offset_instant greatest_year v))) text
    → SpellsTimestamp (10 ^ k) mandatory (23 - k) text rest (units_value (10 ^ k) (offset_instant greatest_year v))
timestamp k mandatory v text rest few none is =
    let z = offset_instant greatest_year v in
    subst (λ t. SpellsTimestamp (10 ^ k) mandatory (23 - k) t rest (units_value (10 ^ k) z)) (same_text (count_text (10 ^ k) mandatory z) text is)
    (timestamp_spelled k mandatory v rest few none)

ends : (trailing : TrailingInput) → EndsBy trailing []
ends Prohibit = refl
ends Discard = tt

hour_12_below : (h : ℕ) → hour_12 h < 100
hour_12_below h = grind (arith, nat_tests)

pub component_spelled : ComponentSpelled greatest_year
component_spelled v (component.Day m) whole text rest is stops =
    (v.date.day, refl, (pair_run m.padding v.date.day text rest (day_below v.date) stops is, v.date.day_in.0))
component_spelled v (component.MonthShort m) whole text rest is stops =
    (v.date.month, refl, named m.case_sensitive (take 3 (month_name v.date.month)) text is)
component_spelled v (component.MonthLong m) whole text rest is stops =
    (v.date.month, refl, named m.case_sensitive (month_name v.date.month) text is)
component_spelled v (component.MonthNumerical m) whole text rest is stops =
    let n = month_number_in v.date.month in
    (v.date.month, refl, pair_run m.padding (month_number v.date.month) text rest (omega (arith, n)) stops is)
component_spelled v (component.Ordinal m) whole text rest is stops =
    let n = Dates.ordinal v.date in
    (n, refl, (number_run m.padding 3 n text rest (omega arith) (ordinal_below v.date) stops is, (ordinal_in v.date).0))
component_spelled v (component.WeekdayShort m) whole text rest is stops =
    let day = weekday_of greatest_year v in (day, refl, named m.case_sensitive (take 3 (weekday_name day)) text is)
component_spelled v (component.WeekdayLong m) whole text rest is stops =
    let day = weekday_of greatest_year v in (day, refl, named m.case_sensitive (weekday_name day) text is)
component_spelled v (component.WeekdaySunday m) whole text rest is stops =
    (weekday_of greatest_year v, refl, sym (same_text _ text is))
component_spelled v (component.WeekdayMonday m) whole text rest is stops =
    (weekday_of greatest_year v, refl, sym (same_text _ text is))
component_spelled v (component.WeekNumberIso m) whole text rest is stops =
    let n = iso_week greatest_year v.date in (n, refl, pair_run m.padding n text rest (iso_week_below v.date) stops is)
component_spelled v (component.WeekNumberSunday m) whole text rest is stops =
    let n = Dates.weekdays_so_far greatest_year 6 v.date in
    (n, refl, pair_run m.padding n text rest (weekdays_below 6 v.date (omega arith)) stops is)
component_spelled v (component.WeekNumberMonday m) whole text rest is stops =
    let n = Dates.weekdays_so_far greatest_year 0 v.date in
    (n, refl, pair_run m.padding n text rest (weekdays_below 0 v.date (omega arith)) stops is)
component_spelled v (component.CalendarYearFullExtendedRange m) whole text rest is stops =
    extended_year m.sign_is_mandatory m.padding v.date.year text rest (year_below v.date) stops is
component_spelled v (component.CalendarYearFullStandardRange m) whole text rest is stops =
    standard_year m.sign_is_mandatory m.padding v.date.year text rest stops is
component_spelled v (component.IsoYearFullExtendedRange m) whole text rest is stops =
    extended_year m.sign_is_mandatory m.padding (iso_year greatest_year v.date) text rest (iso_year_below v.date) stops is
component_spelled v (component.IsoYearFullStandardRange m) whole text rest is stops =
    standard_year m.sign_is_mandatory m.padding (iso_year greatest_year v.date) text rest stops is
component_spelled v (component.CalendarYearCenturyExtendedRange m) whole text rest is stops =
    extended_century m.sign_is_mandatory m.padding v.date.year text rest (year_below v.date) stops is
component_spelled v (component.CalendarYearCenturyStandardRange m) whole text rest is stops =
    standard_century m.sign_is_mandatory m.padding v.date.year text rest stops is
component_spelled v (component.IsoYearCenturyExtendedRange m) whole text rest is stops =
    extended_century m.sign_is_mandatory m.padding (iso_year greatest_year v.date) text rest (iso_year_below v.date) stops is
component_spelled v (component.IsoYearCenturyStandardRange m) whole text rest is stops =
    standard_century m.sign_is_mandatory m.padding (iso_year greatest_year v.date) text rest stops is
component_spelled v (component.CalendarYearLastTwo m) whole text rest is stops =
    let n = last_two (Dates.year v.date) in (n, refl, pair_run m.padding n text rest (omega arith) stops is)
component_spelled v (component.IsoYearLastTwo m) whole text rest is stops =
    let n = last_two (iso_year greatest_year v.date) in (n, refl, pair_run m.padding n text rest (omega arith) stops is)
component_spelled v (component.Hour12 m) whole text rest is stops =
    let n = hour_12 v.time.hour in (n, refl, pair_run m.padding n text rest (hour_12_below v.time.hour) stops is)
component_spelled v (component.Hour24 m) whole text rest is stops =
    (v.time.hour, refl, pair_run m.padding v.time.hour text rest (omega (arith, v.time.hour_in)) stops is)
component_spelled v (component.Minute m) whole text rest is stops =
    (v.time.minute, refl, pair_run m.padding v.time.minute text rest (omega (arith, v.time.minute_in)) stops is)
component_spelled v (component.Period m) whole text rest is stops =
    let half = half_of v.time.hour in (half, refl, named m.case_sensitive (period_name m.is_uppercase half) text is)
component_spelled v (component.Second m) whole text rest is stops =
    (v.time.second, refl, pair_run m.padding v.time.second text rest (omega (arith, v.time.second_in)) stops is)
component_spelled v (component.Subsecond m) whole text rest is stops =
    let n = v.time.nanosecond in (
      kept (count_of m.digits n) n,
      refl,
      subst (λ t. IsFractionRun (least_digits m.digits) (most_digits m.digits) t rest (kept (count_of m.digits n) n)) (same_text _ text is)
          (fraction_spelled m.digits n rest v.time.nanosecond_in stops),
    )
component_spelled v (component.OffsetHour m) whole text rest is stops =
    subst (λ t. SpellsOffsetHour m.sign_is_mandatory m.padding t rest (flagged v.offset.hours (is_behind v.offset))) (same_text _ text is)
    (offset_hour_spelled m.sign_is_mandatory m.padding v.offset rest stops)
component_spelled v (component.OffsetMinute m) whole text rest is stops =
    let n = unsigned_abs v.offset.minutes in let few = abs_within 59 v.offset.minutes v.offset.minutes_in in
    (n, refl, pair_run m.padding n text rest (omega (arith, few)) stops is)
component_spelled v (component.OffsetSecond m) whole text rest is stops =
    let n = unsigned_abs v.offset.seconds in let few = abs_within 59 v.offset.seconds v.offset.seconds_in in
    (n, refl, pair_run m.padding n text rest (omega (arith, few)) stops is)
component_spelled v (component.Ignore m) whole text rest is stops = absurd (cc)
component_spelled v (component.UnixTimestampSecond m) whole text rest is stops = timestamp 9 m.sign_is_mandatory v text rest (omega arith) stops is
component_spelled v (component.UnixTimestampMillisecond m) whole text rest is stops = timestamp 6 m.sign_is_mandatory v text rest (omega arith) stops is
component_spelled v (component.UnixTimestampMicrosecond m) whole text rest is stops = timestamp 3 m.sign_is_mandatory v text rest (omega arith) stops is
component_spelled v (component.UnixTimestampNanosecond m) whole text rest is stops = timestamp 0 m.sign_is_mandatory v text rest (omega arith) stops is
component_spelled v (component.End m) whole text rest is stops =
    (refl, stops, subst (EndsBy m.trailing_input) (same_text [] text is) (ends m.trailing_input))

-- ---- The ISO week of a date is determined by its Thursday

-- the year of a day is before that of another one
earlier : (Y : ℕ) (a y : ℤ) (t : ℕ) → (Y + 1) % 400 ≡ 0 → IsYear Y a → IsYear Y y → year_start Y a ≤ t + 3 → t < year_start Y y + year_length y → y <ℤ a
    → y ≡ a -ℤ pos 1
earlier Y a y t whole year other near within lt =
    by_lt_z y (a -ℤ pos 1)
    (λ far. absurd (omega (
      arith,
      year_start_later Y y (a -ℤ pos 1) whole other.0 far,
      year_start_later Y (a -ℤ pos 1) a whole (omega (arith, ints)) (omega (arith, ints)),
      year_length-leap_day (a -ℤ pos 1),
    )))
    (λ near. omega (arith, ints))

-- or after it
iso_later : (Y : ℕ) (a y : ℤ) (t : ℕ) → (Y + 1) % 400 ≡ 0 → IsYear Y a → IsYear Y y → t < year_start Y a + year_length a + 3 → year_start Y y ≤ t → a <ℤ y
    → y ≡ a +ℤ pos 1
iso_later Y a y t whole year other near within lt =
    by_lt_z (a +ℤ pos 1) y
    (λ far. absurd (omega (
      arith,
      year_start_later Y (a +ℤ pos 1) y whole (omega (arith, ints)) far,
      year_start_later Y a (a +ℤ pos 1) whole year.0 (omega (arith, ints)),
      year_length-leap_day (a +ℤ pos 1),
    )))
    (λ near. omega (arith, ints))

year_is : (Y : ℕ) (a y : ℤ) (t : ℕ) → (Y + 1) % 400 ≡ 0 → IsYear Y a → IsYear Y y → year_start Y a ≤ t + 3 → t < year_start Y a + year_length a + 3
    → year_start Y y ≤ t → t < year_start Y y + year_length y → y ≡ year_of_thursday Y a t
year_is Y a y t whole year other low high begun within =
    by_lt_z y a
    (λ lt.
    let before : t < year_start Y a = omega (arith, year_start_later Y y a whole other.0 lt) in
    let is = earlier Y a y t whole year other low within lt in grind (arith, nat_tests))
    (λ ge. by_lt_z a y
    (λ gt.
    let after : year_start Y a + year_length a ≤ t = omega (arith, year_start_later Y a y whole year.0 gt) in
    let is = iso_later Y a y t whole year other high begun gt in grind (arith, nat_tests))
    (λ le.
    let is : y ≡ a = omega (arith, ints) in
    let from = subst (λ z. year_start Y z ≤ t) is begun in
    let to = subst (λ z. t < year_start Y z + year_length z) is within in grind (arith, nat_tests)))

pub iso_year_is : (d : Date) (y : ℤ) (w : ℕ) → IsIsoWeek greatest_year (day_number greatest_year d) y w → y ≡ iso_year greatest_year d
unfolding iso_year
iso_year_is d y w h =
    let place = ordinal_in d in
    year_is greatest_year d.year y (thursday_of (day_number greatest_year d)) refl d.year_in h.0 (omega arith) (omega arith) h.1 h.2

pub iso_week_is : (d : Date) (y : ℤ) (w : ℕ) → IsIsoWeek greatest_year (day_number greatest_year d) y w → w ≡ iso_week greatest_year d
unfolding iso_week
iso_week_is d y w h =
    h.3 ∙ ap (λ z. weekdays_in 3 (year_start greatest_year z) (thursday_of (day_number greatest_year d) + 1 - year_start greatest_year z)) (iso_year_is d y w h)
