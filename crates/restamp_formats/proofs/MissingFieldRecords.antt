-- The parts that a record has, component by component.
use Rattle.time_values.specs.Calendar.{greatest_year}
use Rattle.std.proofs.Common.{Ok, Err, arith, ◌≡◌, ℕ, ℤ, Bool, true, None, Some, Option, Result, MatchOption, IsOkAnd, ◌||◌, ◌&&◌, is_some}
use Rattle.std.specs.Option.{option_or}
use Rattle.time_record.specs.Resolution.{IsDated, IsStamped, by_iso_week, by_sunday_week, by_monday_week, first_row}
use Rattle.time_record.specs.Record.{Entry, put_here, year_century_is, year_last_two_is, iso_year_is, iso_year_century_is, iso_year_last_two_is, month_is, sunday_week_number_is, monday_week_number_is, iso_week_number_is, weekday_is, ordinal_is, day_is, hour_24_is, hour_12_is, hour_12_is_pm_is, offset_hour_is, unix_timestamp_nanos_is}
use Rattle.time_components.specs.Spelling.{Value}
use Rattle.restamp_formats.specs.Common.{offset_date, offset_of, offset_time, IsUtc, Refusal, insufficient, Date, OffsetDateTime, IsMoment, IsMomentOfParts, by_ordinal, by_month_and_day, row_of_two, row_of_three, full_year, full_iso_year, Defaults, Component, put_value, Record, year_is, Kind}
use Rattle.restamp_formats.specs.{Reading.completed, MissingField.kind_of, MissingField.same}

-- the record has that part
abbrev pub said : Kind → Record → Bool
said Kind.Year r = is_some r.year
said Kind.YearCentury r = is_some r.year_century
said Kind.YearLastTwo r = is_some r.year_last_two
said Kind.IsoYear r = is_some r.iso_year
said Kind.IsoYearCentury r = is_some r.iso_year_century
said Kind.IsoYearLastTwo r = is_some r.iso_year_last_two
said Kind.Month r = is_some r.month
said Kind.Day r = is_some r.day
said Kind.Ordinal r = is_some r.ordinal
said Kind.Weekday r = is_some r.weekday
said Kind.IsoWeek r = is_some r.iso_week_number
said Kind.SundayWeek r = is_some r.sunday_week_number
said Kind.MondayWeek r = is_some r.monday_week_number
said Kind.Hour r = is_some r.hour_24
said Kind.HourOfHalf r = is_some r.hour_12
said Kind.Half r = is_some r.hour_12_is_pm
said Kind.OffsetHour r = is_some r.offset_hour
said Kind.Count r = is_some r.unix_timestamp_nanos
said Kind.Other r = true

-- the part of an entry
abbrev entry_kind : Entry → Kind
entry_kind (year_is v) = Kind.Year
entry_kind (year_century_is v minus) = Kind.YearCentury
entry_kind (year_last_two_is v) = Kind.YearLastTwo
entry_kind (iso_year_is v) = Kind.IsoYear
entry_kind (iso_year_century_is v minus) = Kind.IsoYearCentury
entry_kind (iso_year_last_two_is v) = Kind.IsoYearLastTwo
entry_kind (month_is v) = Kind.Month
entry_kind (sunday_week_number_is v) = Kind.SundayWeek
entry_kind (monday_week_number_is v) = Kind.MondayWeek
entry_kind (iso_week_number_is v) = Kind.IsoWeek
entry_kind (weekday_is v) = Kind.Weekday
entry_kind (ordinal_is v) = Kind.Ordinal
entry_kind (day_is v) = Kind.Day
entry_kind (hour_24_is v) = Kind.Hour
entry_kind (hour_12_is v) = Kind.HourOfHalf
entry_kind (hour_12_is_pm_is v) = Kind.Half
entry_kind (offset_hour_is v) = Kind.OffsetHour
entry_kind (unix_timestamp_nanos_is v) = Kind.Count
entry_kind e = Kind.Other

-- setting an entry adds its part, and changes no other
said-put_here : (k : Kind) (e : Entry) (r : Record) → said k (put_here e r) ≡ (same (entry_kind e) k || said k r)
said-put_here k e r = grind arith

-- setting a component's value adds the component's part, and changes no other
pub put_tells : (k : Kind) (c : Component) (v : Value) (r q : Record) → put_value greatest_year c v r ≡ Some q → said k q ≡ (same (kind_of c) k || said k r)
put_tells k (Component.Day m) v r q is = grind (arith, said-put_here)
put_tells k c v r q is = grind (arith, said-put_here)

-- ---- The parts of a record with a date, and with a count from 1970

-- the parts of a record that give a day of a year, and a day of an ISO 8601 week year
abbrev pub day_of : Record → Bool
day_of r =
    is_some r.ordinal || (is_some r.month && is_some r.day) || (is_some r.weekday && (is_some r.sunday_week_number || is_some r.monday_week_number))

abbrev pub iso_day_of : Record → Bool
iso_day_of r = is_some r.iso_week_number && is_some r.weekday

-- a value that is found comes from somewhere
pub found : {A V : Type 0} (a : A) (from : Option V) (P : V → Type 0) → MatchOption from (Ok a ≡ Err insufficient) P → is_some from ≡ true
found a from P is = grind arith

row_parts : (year iso_year : Option ℤ) (r : Record)
    → is_some (option_or (row_of_two by_ordinal year r.ordinal)
    (option_or (row_of_three by_month_and_day year r.month r.day)
    (option_or (row_of_three by_iso_week iso_year r.iso_week_number r.weekday)
    (option_or (row_of_three by_sunday_week year r.sunday_week_number r.weekday)
    (row_of_three by_monday_week year r.monday_week_number r.weekday))))) ≡ true
    → ((day_of r && is_some year) || (iso_day_of r && is_some iso_year)) ≡ true
row_parts year iso_year r is = grind arith

-- a record with a date has its parts
pub dated_parts : (r : Record) (d : Date) → IsDated greatest_year r (Ok d)
    → ((day_of r && is_some (full_year r)) || (iso_day_of r && is_some (full_iso_year r))) ≡ true
unfolding IsDated
dated_parts r d is = row_parts (full_year r) (full_iso_year r) r (found d (first_row r) _ is)

-- defaults change neither a count from 1970 nor a fraction
module _ (defaults : Defaults) (r : Record) where
  pub count_stays : (completed defaults r).unix_timestamp_nanos ≡ r.unix_timestamp_nanos
  count_stays = grind arith

  pub fraction_stays : (completed defaults r).subsecond ≡ r.subsecond
  fraction_stays = grind arith

-- the moment of a record with a count from 1970 comes from the count and its fraction alone
abbrev pub CountedAt : Result OffsetDateTime Refusal → Option ℕ → ℤ → Type 0
CountedAt result fraction n = IsOkAnd result (λ v. IsStamped greatest_year n fraction (offset_date v) (offset_time v) × IsUtc (offset_of v))

pub counted_moment : (q p : Record) (result : Result OffsetDateTime Refusal) → is_some p.unix_timestamp_nanos ≡ true
    → q.unix_timestamp_nanos ≡ p.unix_timestamp_nanos → q.subsecond ≡ p.subsecond → IsMoment greatest_year p result → IsMoment greatest_year q result
unfolding IsMoment
counted_moment q p result counts same_count same_fraction is =
    by_count q.unix_timestamp_nanos p.unix_timestamp_nanos q.subsecond p.subsecond counts same_count same_fraction is
  where
    by_count : (n m : Option ℤ) (s t : Option ℕ) → is_some m ≡ true → n ≡ m → s ≡ t
        → MatchOption m (IsMomentOfParts greatest_year p result) (CountedAt result t) → MatchOption n (IsMomentOfParts greatest_year q result)
        (CountedAt result s)
    by_count n None s t counts e f h = absurd cc
    by_count n (Some m) s t counts e f h = rw (e, f) h
