-- The components that were parsed of a date and time: 23 options and four flags. `Y` is the greatest year.
use Rattle.std.specs.Prelude.{◌≡◌, ℕ, ◌/◌, List, [], ◌∷◌, ℤ, pos, unsigned_abs, option_and_then, Bool, true, false, Option, Some, None, IfSome, IsTrue, nat_le, int_lt, if◌then◌else◌}
use Rattle.time_values.specs.declared.month.Month.{Month}
use Rattle.time_values.specs.declared.weekday.Weekday.{Weekday}
use Rattle.time_values.specs.Dates.{is_within}
use Rattle.time_values.specs.Instants.{is_instant}

-- the record: an option for each component, and the flags
--
-- A century is the year without its last two digits. Its sign is also in a flag, to distinguish -0 from 0. `hour_12` is
-- 1 to 12, where 12 comes before 1. `subsecond` is in nanoseconds, and `unix_timestamp_nanos` in nanoseconds since
-- 1970-01-01T00:00:00Z. `offset_minute` and `offset_second` are the stored numbers: `offset_is_negative` negates them
-- in signed getters and conversions, but doesn't affect `offset_hour`.
pub record Record : Type 0 where
  pub year : Option ℤ
  pub year_century : Option ℤ
  pub year_last_two : Option ℕ
  pub iso_year : Option ℤ
  pub iso_year_century : Option ℤ
  pub iso_year_last_two : Option ℕ
  pub month : Option Month
  pub sunday_week_number : Option ℕ
  pub monday_week_number : Option ℕ
  pub iso_week_number : Option ℕ
  pub weekday : Option Weekday
  pub ordinal : Option ℕ
  pub day : Option ℕ
  pub hour_24 : Option ℕ
  pub hour_12 : Option ℕ
  pub hour_12_is_pm : Option Bool
  pub minute : Option ℕ
  pub second : Option ℕ
  pub subsecond : Option ℕ
  pub offset_hour : Option ℤ
  pub offset_minute : Option ℤ
  pub offset_second : Option ℤ
  pub unix_timestamp_nanos : Option ℤ
  pub offset_is_negative : Bool
  pub year_century_is_negative : Bool
  pub iso_year_century_is_negative : Bool
  pub leap_second_allowed : Bool

-- the record without components, with no flag set
abbrev pub empty : Record
empty = record {
  year = None;
  year_century = None;
  year_last_two = None;
  iso_year = None;
  iso_year_century = None;
  iso_year_last_two = None;
  month = None;
  sunday_week_number = None;
  monday_week_number = None;
  iso_week_number = None;
  weekday = None;
  ordinal = None;
  day = None;
  hour_24 = None;
  hour_12 = None;
  hour_12_is_pm = None;
  minute = None;
  second = None;
  subsecond = None;
  offset_hour = None;
  offset_minute = None;
  offset_second = None;
  unix_timestamp_nanos = None;
  offset_is_negative = false;
  year_century_is_negative = false;
  iso_year_century_is_negative = false;
  leap_second_allowed = false;
}

-- a value for one option, in its unit; a century comes with a flag for negative, which counts only if the century is 0
pub data Entry : Type 0 where
  year_is : ℤ → Entry
  year_century_is : ℤ → Bool → Entry
  year_last_two_is : ℕ → Entry
  iso_year_is : ℤ → Entry
  iso_year_century_is : ℤ → Bool → Entry
  iso_year_last_two_is : ℕ → Entry
  month_is : Month → Entry
  sunday_week_number_is : ℕ → Entry
  monday_week_number_is : ℕ → Entry
  iso_week_number_is : ℕ → Entry
  weekday_is : Weekday → Entry
  ordinal_is : ℕ → Entry
  day_is : ℕ → Entry
  hour_24_is : ℕ → Entry
  hour_12_is : ℕ → Entry
  hour_12_is_pm_is : Bool → Entry
  minute_is : ℕ → Entry
  second_is : ℕ → Entry
  subsecond_is : ℕ → Entry
  offset_hour_is : ℤ → Entry
  offset_minute_is : ℤ → Entry
  offset_second_is : ℤ → Entry
  unix_timestamp_nanos_is : ℤ → Entry

-- whether the value is in the range of its option: whether a setter accepts it
abbrev pub in_range : ℕ → Entry → Bool
in_range Y (year_is v) = nat_le (unsigned_abs v) Y
in_range Y (year_century_is v is_negative) = nat_le (unsigned_abs v) (Y / 100)
in_range Y (year_last_two_is v) = nat_le v 99
in_range Y (iso_year_is v) = nat_le (unsigned_abs v) Y
in_range Y (iso_year_century_is v is_negative) = nat_le (unsigned_abs v) (Y / 100)
in_range Y (iso_year_last_two_is v) = nat_le v 99
in_range Y (month_is v) = true
in_range Y (sunday_week_number_is v) = nat_le v 53
in_range Y (monday_week_number_is v) = nat_le v 53
in_range Y (iso_week_number_is v) = is_within 1 53 v
in_range Y (weekday_is v) = true
in_range Y (ordinal_is v) = is_within 1 366 v
in_range Y (day_is v) = is_within 1 31 v
in_range Y (hour_24_is v) = nat_le v 23
in_range Y (hour_12_is v) = is_within 1 12 v
in_range Y (hour_12_is_pm_is v) = true
in_range Y (minute_is v) = nat_le v 59
in_range Y (second_is v) = nat_le v 60
in_range Y (subsecond_is v) = nat_le v 999_999_999
in_range Y (offset_hour_is v) = nat_le (unsigned_abs v) 25
in_range Y (offset_minute_is v) = nat_le (unsigned_abs v) 59
in_range Y (offset_second_is v) = nat_le (unsigned_abs v) 59
in_range Y (unix_timestamp_nanos_is v) = is_instant Y v

-- the value is in the range of its option
abbrev pub InRange : ℕ → Entry → Type 0
InRange Y entry = IsTrue (in_range Y entry)

-- whether a century is negative: by its sign, or, if it is 0, by the flag
abbrev pub century_sign : ℤ → Bool → Bool
century_sign v is_negative =
    if int_lt v (pos 0) then true else (if int_lt (pos 0) v then false else is_negative)

-- the record with that option replaced, and for a century its flag, whether or not the value is in range
abbrev pub put_here : Entry → Record → Record
put_here (year_is v) r = record r { year = Some v }
put_here (year_century_is v is_negative) r =
    record r { year_century = Some v; year_century_is_negative = century_sign v is_negative }
put_here (year_last_two_is v) r = record r { year_last_two = Some v }
put_here (iso_year_is v) r = record r { iso_year = Some v }
put_here (iso_year_century_is v is_negative) r =
    record r { iso_year_century = Some v; iso_year_century_is_negative = century_sign v is_negative }
put_here (iso_year_last_two_is v) r = record r { iso_year_last_two = Some v }
put_here (month_is v) r = record r { month = Some v }
put_here (sunday_week_number_is v) r = record r { sunday_week_number = Some v }
put_here (monday_week_number_is v) r = record r { monday_week_number = Some v }
put_here (iso_week_number_is v) r = record r { iso_week_number = Some v }
put_here (weekday_is v) r = record r { weekday = Some v }
put_here (ordinal_is v) r = record r { ordinal = Some v }
put_here (day_is v) r = record r { day = Some v }
put_here (hour_24_is v) r = record r { hour_24 = Some v }
put_here (hour_12_is v) r = record r { hour_12 = Some v }
put_here (hour_12_is_pm_is v) r = record r { hour_12_is_pm = Some v }
put_here (minute_is v) r = record r { minute = Some v }
put_here (second_is v) r = record r { second = Some v }
put_here (subsecond_is v) r = record r { subsecond = Some v }
put_here (offset_hour_is v) r = record r { offset_hour = Some v }
put_here (offset_minute_is v) r = record r { offset_minute = Some v }
put_here (offset_second_is v) r = record r { offset_second = Some v }
put_here (unix_timestamp_nanos_is v) r = record r { unix_timestamp_nanos = Some v }

-- the record with the entry stored, or none if its value is out of range
abbrev pub put : ℕ → Entry → Record → Option Record
put Y entry r = if in_range Y entry then Some (put_here entry r) else None

-- the record with the entries stored one after another, where a later entry replaces an earlier one for its option, or
-- none if a value is out of range
abbrev pub put_all : ℕ → List Entry → Record → Option Record
put_all Y [] r = Some r
put_all Y (entry ∷ entries) r = option_and_then (put_all Y entries) (put Y entry r)

-- each value that is there is in the range of its option
pub record IsInRanges (Y : ℕ) (r : Record) : Type 0 where
  pub year : IfSome r.year (λ v. InRange Y (year_is v))
  pub year_century : IfSome r.year_century (λ v. InRange Y (year_century_is v false))
  pub year_last_two : IfSome r.year_last_two (λ v. InRange Y (year_last_two_is v))
  pub iso_year : IfSome r.iso_year (λ v. InRange Y (iso_year_is v))
  pub iso_year_century : IfSome r.iso_year_century (λ v. InRange Y (iso_year_century_is v false))
  pub iso_year_last_two : IfSome r.iso_year_last_two (λ v. InRange Y (iso_year_last_two_is v))
  pub sunday_week_number : IfSome r.sunday_week_number (λ v. InRange Y (sunday_week_number_is v))
  pub monday_week_number : IfSome r.monday_week_number (λ v. InRange Y (monday_week_number_is v))
  pub iso_week_number : IfSome r.iso_week_number (λ v. InRange Y (iso_week_number_is v))
  pub ordinal : IfSome r.ordinal (λ v. InRange Y (ordinal_is v))
  pub day : IfSome r.day (λ v. InRange Y (day_is v))
  pub hour_24 : IfSome r.hour_24 (λ v. InRange Y (hour_24_is v))
  pub hour_12 : IfSome r.hour_12 (λ v. InRange Y (hour_12_is v))
  pub minute : IfSome r.minute (λ v. InRange Y (minute_is v))
  pub second : IfSome r.second (λ v. InRange Y (second_is v))
  pub subsecond : IfSome r.subsecond (λ v. InRange Y (subsecond_is v))
  pub offset_hour : IfSome r.offset_hour (λ v. InRange Y (offset_hour_is v))
  pub offset_minute : IfSome r.offset_minute (λ v. InRange Y (offset_minute_is v))
  pub offset_second : IfSome r.offset_second (λ v. InRange Y (offset_second_is v))
  pub unix_timestamp_nanos : IfSome r.unix_timestamp_nanos (λ v. InRange Y (unix_timestamp_nanos_is v))

-- a setter's result and the record after it, for a wanted record: `Some` and that record, or, if there is none because
-- the value is rejected, `None` and the old record
abbrev pub Sets : Option Record → Record → Option (Unit {0}) → Record → Type 0
Sets (Some r) old (Some _) new = new ≡ r
Sets None old None new = new ≡ old
Sets (Some r) old None new = ⊥
Sets None old (Some _) new = ⊥
