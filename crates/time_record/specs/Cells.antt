-- The options in a mask and rows of cells: option i is there if bit i is set, and its value is cell i. `Y` is the
-- greatest year.
use Rattle.std.specs.Prelude.{◌≡◌, ℕ, ◌+◌, ◌-◌, ◌*◌, ◌/◌, ◌^◌, ◌<◌, ◌≤ℤ◌, ℤ, pos, neg_ℤ, unsigned_abs, Bool, true, false, Option, Some, None, is_some, if◌then◌else◌, ◌==◌, nat_lt, List, [], ◌∷◌, length, slice_index_or}
use Rattle.std.specs.Option.{option_map, unwrap_or}
use Rattle.std.specs.Int.{bit_at}
use Rattle.time_values.specs.declared.month.Month.{Month}
use Rattle.time_values.specs.declared.weekday.Weekday.{Weekday}
use Rattle.time_values.specs.Instants.{first_instant, last_instant}
use Rattle.time_values.specs.Names.{month_at, month_number, days_from_monday, weekday_at}
use Rattle.time_record.specs.Record.{Record}

-- whether bit i of a mask is set
abbrev pub bit : ℕ → ℕ → Bool
bit mask i = bit_at mask i == 1

-- for cell i one of four numbers: `byte` for 0 to 15, `short` for 16 to 18, `word` for 19 to 21, `stamp` for 22, else 0
abbrev pub pick : ℕ → ℤ → ℤ → ℤ → ℤ → ℤ
pick i byte short word stamp =
    if nat_lt i 16 then byte
    else (if nat_lt i 19 then short
    else (if nat_lt i 22 then word
    else (if i == 22 then stamp else pos 0)))

-- the value of cell i, or 0 past cell 22
abbrev pub value_at : List ℤ → List ℤ → List ℤ → ℤ → ℕ → ℤ
value_at bytes shorts words stamp i =
    pick i (slice_index_or bytes i (pos 0)) (slice_index_or shorts (i - 16) (pos 0))
    (slice_index_or words (i - 19) (pos 0)) stamp

-- the value of cell i, or none if its bit isn't set
abbrev pub option_at : (ℕ → Bool) → (ℕ → ℤ) → ℕ → Option ℤ
option_at set value i = if set i then Some (value i) else None

-- the bool that a cell represents: true for 1 or -1
abbrev pub is_one : ℤ → Bool
is_one v = unsigned_abs v == 1

-- the cell of a bool: 1 or 0
abbrev pub bool_cell : Bool → ℤ
bool_cell true = pos 1
bool_cell false = pos 0

-- the month of a cell, 1 for January to 12 for December
abbrev pub month_in : ℤ → Month
month_in v = month_at (unsigned_abs v)

-- the cell of a month: 1 for January to 12 for December
abbrev pub month_cell : Month → ℤ
month_cell m = pos (month_number m)

-- the weekday of a cell, 0 for Monday to 6 for Sunday
abbrev pub weekday_in : ℤ → Weekday
weekday_in v = weekday_at (unsigned_abs v)

-- the cell of a weekday: 0 for Monday to 6 for Sunday
abbrev pub weekday_cell : Weekday → ℤ
weekday_cell w = pos (days_from_monday w)

-- the record whose cell k has the value `option k`, converted to the option's type, for k up to 22, and whose flag k is
-- `set k`, for 23 to 26
abbrev pub build : (ℕ → Option ℤ) → (ℕ → Bool) → Record
build option set = record {
  year = option 19;
  year_century = option 16;
  year_last_two = option_map unsigned_abs (option 0);
  iso_year = option 20;
  iso_year_century = option 17;
  iso_year_last_two = option_map unsigned_abs (option 1);
  month = option_map month_in (option 2);
  sunday_week_number = option_map unsigned_abs (option 3);
  monday_week_number = option_map unsigned_abs (option 4);
  iso_week_number = option_map unsigned_abs (option 5);
  weekday = option_map weekday_in (option 6);
  ordinal = option_map unsigned_abs (option 18);
  day = option_map unsigned_abs (option 7);
  hour_24 = option_map unsigned_abs (option 8);
  hour_12 = option_map unsigned_abs (option 9);
  hour_12_is_pm = option_map is_one (option 10);
  minute = option_map unsigned_abs (option 11);
  second = option_map unsigned_abs (option 12);
  subsecond = option_map unsigned_abs (option 21);
  offset_hour = option 13;
  offset_minute = option 14;
  offset_second = option 15;
  unix_timestamp_nanos = option 22;
  offset_is_negative = set 23;
  year_century_is_negative = set 24;
  iso_year_century_is_negative = set 25;
  leap_second_allowed = set 26;
}

-- the least value of each cell, in the order of the cells
abbrev pub least_values : ℕ → List ℤ
least_values Y =
    (pos 0) ∷ (pos 0) ∷ (pos 1) ∷ (pos 0) ∷
    (pos 0) ∷ (pos 1) ∷ (pos 0) ∷ (pos 1) ∷
    (pos 0) ∷ (pos 1) ∷ (pos 0) ∷ (pos 0) ∷
    (pos 0) ∷ (neg_ℤ (pos 25)) ∷ (neg_ℤ (pos 59)) ∷ (neg_ℤ (pos 59)) ∷
    (neg_ℤ (pos (Y / 100))) ∷ (neg_ℤ (pos (Y / 100))) ∷ (pos 1) ∷ (neg_ℤ (pos Y)) ∷
    (neg_ℤ (pos Y)) ∷ (pos 0) ∷ (first_instant Y) ∷ []

-- the greatest value of each cell, in the order of the cells
abbrev pub greatest_values : ℕ → List ℤ
greatest_values Y =
    (pos 99) ∷ (pos 99) ∷ (pos 12) ∷ (pos 53) ∷
    (pos 53) ∷ (pos 53) ∷ (pos 6) ∷ (pos 31) ∷
    (pos 23) ∷ (pos 12) ∷ (pos 1) ∷ (pos 59) ∷
    (pos 60) ∷ (pos 25) ∷ (pos 59) ∷ (pos 59) ∷
    (pos (Y / 100)) ∷ (pos (Y / 100)) ∷ (pos 366) ∷ (pos Y) ∷
    (pos Y) ∷ (pos 999_999_999) ∷ (last_instant Y) ∷ []

-- The value is in the range of cell i; past cell 22 it is 0.
abbrev pub InCell : ℕ → ℕ → ℤ → Type 0
InCell Y i v = (slice_index_or (least_values Y) i (pos 0) ≤ℤ v) × (v ≤ℤ slice_index_or (greatest_values Y) i (pos 0))

-- the value v of cell i is in the cell's range if its bit is set, and 0 if the bit isn't set
abbrev pub IsCell : ℕ → ℕ → Bool → ℤ → Type 0
IsCell Y i true v = InCell Y i v
IsCell Y i false v = v ≡ pos 0

-- the invariant of the fields of a `Parsed`: no bit past 26 is set, the rows have their lengths, and each cell is in
-- its range, or 0 if its bit isn't set
pub record IsSound (Y mask : ℕ) (bytes shorts words : List ℤ) (stamp : ℤ) : Type 0 where
  pub in_mask : mask < 2 ^ 27
  pub bytes_length : length bytes ≡ 16
  pub shorts_length : length shorts ≡ 3
  pub words_length : length words ≡ 3
  pub cells : (i : ℕ) → i < 23 → IsCell Y i (bit mask i) (value_at bytes shorts words stamp i)

-- the number whose binary digits are these bits, the lowest first; 0 without bits
abbrev pub from_bits : List Bool → ℕ
from_bits [] = 0
from_bits (true ∷ bits) = from_bits bits * 2 + 1
from_bits (false ∷ bits) = from_bits bits * 2 + 0

-- which options of a record are there, in the order of the cells, and then its four flags: the 27 bits of its mask
abbrev pub bits_of : Record → List Bool
bits_of r =
    is_some r.year_last_two ∷ is_some r.iso_year_last_two ∷ is_some r.month ∷
    is_some r.sunday_week_number ∷ is_some r.monday_week_number ∷ is_some r.iso_week_number ∷
    is_some r.weekday ∷ is_some r.day ∷ is_some r.hour_24 ∷
    is_some r.hour_12 ∷ is_some r.hour_12_is_pm ∷ is_some r.minute ∷
    is_some r.second ∷ is_some r.offset_hour ∷ is_some r.offset_minute ∷
    is_some r.offset_second ∷ is_some r.year_century ∷ is_some r.iso_year_century ∷
    is_some r.ordinal ∷ is_some r.year ∷ is_some r.iso_year ∷
    is_some r.subsecond ∷ is_some r.unix_timestamp_nanos ∷ r.offset_is_negative ∷
    r.year_century_is_negative ∷ r.iso_year_century_is_negative ∷ r.leap_second_allowed ∷ []

-- the mask of a record: the number of `bits_of`, with the bit of `year_last_two` as the lowest
abbrev pub mask_of : Record → ℕ
mask_of r = from_bits (bits_of r)

-- the number, or 0 without one
abbrev pub or_zero : Option ℤ → ℤ
or_zero o = unwrap_or o (pos 0)

-- the cells 0 to 15 of a record, with 0 for an option that isn't set
abbrev pub bytes_of : Record → List ℤ
bytes_of r =
    or_zero (option_map pos r.year_last_two) ∷ or_zero (option_map pos r.iso_year_last_two) ∷
    or_zero (option_map month_cell r.month) ∷ or_zero (option_map pos r.sunday_week_number) ∷
    or_zero (option_map pos r.monday_week_number) ∷ or_zero (option_map pos r.iso_week_number) ∷
    or_zero (option_map weekday_cell r.weekday) ∷ or_zero (option_map pos r.day) ∷
    or_zero (option_map pos r.hour_24) ∷ or_zero (option_map pos r.hour_12) ∷
    or_zero (option_map bool_cell r.hour_12_is_pm) ∷ or_zero (option_map pos r.minute) ∷
    or_zero (option_map pos r.second) ∷ or_zero r.offset_hour ∷
    or_zero r.offset_minute ∷ or_zero r.offset_second ∷ []

-- the cells 16 to 18 of a record, with 0 for an option that isn't set
abbrev pub shorts_of : Record → List ℤ
shorts_of r = or_zero r.year_century ∷ or_zero r.iso_year_century ∷ or_zero (option_map pos r.ordinal) ∷ []

-- the cells 19 to 21 of a record, with 0 for an option that isn't set
abbrev pub words_of : Record → List ℤ
words_of r = or_zero r.year ∷ or_zero r.iso_year ∷ or_zero (option_map pos r.subsecond) ∷ []
