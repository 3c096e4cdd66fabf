-- No public contract rests on this file.
--
-- Reading and writing one cell of a record.
use Rattle.std.specs.Prelude.{◌≡◌, ℕ, ℤ, unsigned_abs, zero, suc, Bool, false, Option, Some, if◌then◌else◌, ◌==◌, slice_index_or, ⊤}
use Rattle.std.specs.Option.{option_map}
use Rattle.time_record.specs.Cells.{is_one, month_in, weekday_in, bits_of}
use Rattle.time_record.specs.Record.{Record}

-- the function f, but with the value x at k
abbrev pub changed : {T : Type 0} → (ℕ → T) → ℕ → T → ℕ → T
changed f k x i = if i == k then x else f i

-- the record with the cell value v stored in option k, converted to the option's type; unchanged past cell 22
abbrev pub put_cell : ℕ → ℤ → Record → Record
put_cell k v r = record {
  year = if 19 == k then Some v else r.year;
  year_century = if 16 == k then Some v else r.year_century;
  year_last_two = if 0 == k then Some (unsigned_abs v) else r.year_last_two;
  iso_year = if 20 == k then Some v else r.iso_year;
  iso_year_century = if 17 == k then Some v else r.iso_year_century;
  iso_year_last_two = if 1 == k then Some (unsigned_abs v) else r.iso_year_last_two;
  month = if 2 == k then Some (month_in v) else r.month;
  sunday_week_number = if 3 == k then Some (unsigned_abs v) else r.sunday_week_number;
  monday_week_number = if 4 == k then Some (unsigned_abs v) else r.monday_week_number;
  iso_week_number = if 5 == k then Some (unsigned_abs v) else r.iso_week_number;
  weekday = if 6 == k then Some (weekday_in v) else r.weekday;
  ordinal = if 18 == k then Some (unsigned_abs v) else r.ordinal;
  day = if 7 == k then Some (unsigned_abs v) else r.day;
  hour_24 = if 8 == k then Some (unsigned_abs v) else r.hour_24;
  hour_12 = if 9 == k then Some (unsigned_abs v) else r.hour_12;
  hour_12_is_pm = if 10 == k then Some (is_one v) else r.hour_12_is_pm;
  minute = if 11 == k then Some (unsigned_abs v) else r.minute;
  second = if 12 == k then Some (unsigned_abs v) else r.second;
  subsecond = if 21 == k then Some (unsigned_abs v) else r.subsecond;
  offset_hour = if 13 == k then Some v else r.offset_hour;
  offset_minute = if 14 == k then Some v else r.offset_minute;
  offset_second = if 15 == k then Some v else r.offset_second;
  unix_timestamp_nanos = if 22 == k then Some v else r.unix_timestamp_nanos;
  offset_is_negative = r.offset_is_negative;
  year_century_is_negative = r.year_century_is_negative;
  iso_year_century_is_negative = r.iso_year_century_is_negative;
  leap_second_allowed = r.leap_second_allowed;
}

-- the record with flag k, 23 to 26, set or cleared; unchanged for another k
abbrev pub put_flag : ℕ → Bool → Record → Record
put_flag k on r = record r {
  offset_is_negative = if 23 == k then on else r.offset_is_negative;
  year_century_is_negative = if 24 == k then on else r.year_century_is_negative;
  iso_year_century_is_negative = if 25 == k then on else r.iso_year_century_is_negative;
  leap_second_allowed = if 26 == k then on else r.leap_second_allowed;
}

-- the record's option of cell 16 + k is the cell value `o`, converted to the option's type; true past cell 22
abbrev pub ReadsWide : ℕ → Record → Option ℤ → Type 0
ReadsWide zero r o = r.year_century ≡ o
ReadsWide (suc zero) r o = r.iso_year_century ≡ o
ReadsWide (suc (suc zero)) r o = r.ordinal ≡ option_map unsigned_abs o
ReadsWide (suc (suc (suc zero))) r o = r.year ≡ o
ReadsWide (suc (suc (suc (suc zero)))) r o = r.iso_year ≡ o
ReadsWide (suc (suc (suc (suc (suc zero))))) r o = r.subsecond ≡ option_map unsigned_abs o
ReadsWide (suc (suc (suc (suc (suc (suc zero)))))) r o = r.unix_timestamp_nanos ≡ o
ReadsWide (suc (suc (suc (suc (suc (suc (suc k))))))) r o = ⊤

-- the record's option of cell 8 + k is the cell value `o`, converted to the option's type; true past cell 22
abbrev pub ReadsClock : ℕ → Record → Option ℤ → Type 0
ReadsClock zero r o = r.hour_24 ≡ option_map unsigned_abs o
ReadsClock (suc zero) r o = r.hour_12 ≡ option_map unsigned_abs o
ReadsClock (suc (suc zero)) r o = r.hour_12_is_pm ≡ option_map is_one o
ReadsClock (suc (suc (suc zero))) r o = r.minute ≡ option_map unsigned_abs o
ReadsClock (suc (suc (suc (suc zero)))) r o = r.second ≡ option_map unsigned_abs o
ReadsClock (suc (suc (suc (suc (suc zero))))) r o = r.offset_hour ≡ o
ReadsClock (suc (suc (suc (suc (suc (suc zero)))))) r o = r.offset_minute ≡ o
ReadsClock (suc (suc (suc (suc (suc (suc (suc zero))))))) r o = r.offset_second ≡ o
ReadsClock (suc (suc (suc (suc (suc (suc (suc (suc k)))))))) r o = ReadsWide k r o

-- the record's option of cell k is the cell value `o`, converted to the option's type; true past cell 22
abbrev pub Reads : ℕ → Record → Option ℤ → Type 0
Reads zero r o = r.year_last_two ≡ option_map unsigned_abs o
Reads (suc zero) r o = r.iso_year_last_two ≡ option_map unsigned_abs o
Reads (suc (suc zero)) r o = r.month ≡ option_map month_in o
Reads (suc (suc (suc zero))) r o = r.sunday_week_number ≡ option_map unsigned_abs o
Reads (suc (suc (suc (suc zero)))) r o = r.monday_week_number ≡ option_map unsigned_abs o
Reads (suc (suc (suc (suc (suc zero))))) r o = r.iso_week_number ≡ option_map unsigned_abs o
Reads (suc (suc (suc (suc (suc (suc zero)))))) r o = r.weekday ≡ option_map weekday_in o
Reads (suc (suc (suc (suc (suc (suc (suc zero))))))) r o = r.day ≡ option_map unsigned_abs o
Reads (suc (suc (suc (suc (suc (suc (suc (suc k)))))))) r o = ReadsClock k r o

-- whether option k of a record is there (0 to 22), or flag k set (23 to 26); false past 26
abbrev pub holds : Record → ℕ → Bool
holds r k = slice_index_or (bits_of r) k false
