-- The fields of a `Parsed` represent a record in range, and such fields represent each record in range. `Y` is the greatest year.
use Rattle.std.proofs.Common.{◌≡◌, ℕ, zero, suc, ◌+◌, ◌*◌, ◌/◌, ◌^◌, ◌<◌, ◌≤◌, ◌≤ℤ◌, ℤ, pos, negsuc, neg_ℤ, unsigned_abs, Bool, true, false, cond, Option, Some, None, is_some, IfSome, List, [], ◌∷◌, length, get_or, eqb, refl, sym, ap, ◌∙◌, subst, arith, pow-suc}
use Rattle.std.specs.Prelude.{IsTrue, nat_le, ⊤}
use Rattle.std.specs.Int.{bit_at}
use Rattle.std.specs.Option.{option_map}
use Rattle.std.proofs.lemmas.Bool.Decides.{nat_tests}
use Rattle.std.proofs.lemmas.Int.{ints}
use Rattle.std.proofs.lemmas.Nat.Bits.{bit_at_lowest, bit_at-suc, bit_at-zero}
use Rattle.time_values.specs.declared.month.Month.{Month}
use Rattle.time_values.specs.declared.month.Month.TheVariants.{January, February, March, April, May, June, July, August, September, October, November, December}
use Rattle.time_values.specs.declared.weekday.Weekday.{Weekday}
use Rattle.time_values.specs.declared.weekday.Weekday.TheVariants.{Monday, Tuesday, Wednesday, Thursday, Friday, Saturday, Sunday}
use Rattle.time_values.specs.Dates.{is_within}
use Rattle.time_values.specs.Instants.{first_instant, last_instant, is_instant}
use Rattle.time_values.proofs.InstantLemmas.{is_instant-IsInstant}
use Rattle.time_values.proofs.NumberLemmas.{month_number_in, days_from_monday_in}
use Rattle.time_record.specs.Record.{Record, IsInRanges}
use Rattle.time_record.specs.Cells.{bit, build, option_at, value_at, is_one, bool_cell, month_in, month_cell, weekday_in, weekday_cell, IsCell, IsSound, or_zero, from_bits, bits_of, mask_of, bytes_of, shorts_of, words_of}
use Rattle.time_record.specs.CellAnswers.{holds}
use Rattle.time_record.specs.Laws.{StoresInRanges}
use Rattle.time_record.specs.Inverse.{record_of, fields_of, AreSound}
use Rattle.time_record.specs.declared.parsed.Parsed.TheInside.{Inside}

-- ---- fields represent a record in range

-- x lies from low to high if its bit is set: `IsCell` of a cell
abbrev Held : ℤ → ℤ → Bool → ℤ → Type 0
Held low high true x = (low ≤ℤ x) × (x ≤ℤ high)
Held low high false x = x ≡ pos 0

up_to : (high : ℕ) (set : Bool) (x : ℤ) → Held (pos 0) (pos high) set x →
    IfSome (option_map unsigned_abs (cond set (Some x) None)) (λ v. IsTrue (nat_le v high))
up_to high true (pos n) held = grind (arith, nat_tests, ints)
up_to high true (negsuc n) held = absurd (omega (arith, held.0))
up_to high false x held = _

from_one : (high : ℕ) (set : Bool) (x : ℤ) → Held (pos 1) (pos high) set x →
    IfSome (option_map unsigned_abs (cond set (Some x) None)) (λ v. IsTrue (is_within 1 high v))
from_one high true (pos n) held = grind (arith, nat_tests, ints)
from_one high true (negsuc n) held = absurd (omega (arith, held.0))
from_one high false x held = _

of_either_sign : (high : ℕ) (set : Bool) (x : ℤ) → Held (neg_ℤ (pos high)) (pos high) set x →
    IfSome (cond set (Some x) None) (λ v. IsTrue (nat_le (unsigned_abs v) high))
of_either_sign high true (pos n) held = grind (arith, nat_tests, ints)
of_either_sign high true (negsuc n) held = grind (arith, nat_tests, ints)
of_either_sign high false x held = _

of_instant : (Y : ℕ) (set : Bool) (x : ℤ) → Held (first_instant Y) (last_instant Y) set x →
    IfSome (cond set (Some x) None) (λ v. IsTrue (is_instant Y v))
of_instant Y true x held = (is_instant-IsInstant Y x).1 held
of_instant Y false x held = _

module _ (Y mask : ℕ) (bytes shorts words : List ℤ) (stamp : ℤ) (sound : IsSound Y mask bytes shorts words stamp) where
  seen_in_ranges : IsInRanges Y (build (option_at (bit mask) (value_at bytes shorts words stamp)) (bit mask))
  seen_in_ranges = record {
    year = of_either_sign Y (bit mask 19) (get_or words 0 (pos 0)) (sound.cells 19 (omega arith));
    year_century = of_either_sign (Y / 100) (bit mask 16) (get_or shorts 0 (pos 0)) (sound.cells 16 (omega arith));
    year_last_two = up_to 99 (bit mask 0) (get_or bytes 0 (pos 0)) (sound.cells 0 (omega arith));
    iso_year = of_either_sign Y (bit mask 20) (get_or words 1 (pos 0)) (sound.cells 20 (omega arith));
    iso_year_century = of_either_sign (Y / 100) (bit mask 17) (get_or shorts 1 (pos 0)) (sound.cells 17 (omega arith));
    iso_year_last_two = up_to 99 (bit mask 1) (get_or bytes 1 (pos 0)) (sound.cells 1 (omega arith));
    sunday_week_number = up_to 53 (bit mask 3) (get_or bytes 3 (pos 0)) (sound.cells 3 (omega arith));
    monday_week_number = up_to 53 (bit mask 4) (get_or bytes 4 (pos 0)) (sound.cells 4 (omega arith));
    iso_week_number = from_one 53 (bit mask 5) (get_or bytes 5 (pos 0)) (sound.cells 5 (omega arith));
    ordinal = from_one 366 (bit mask 18) (get_or shorts 2 (pos 0)) (sound.cells 18 (omega arith));
    day = from_one 31 (bit mask 7) (get_or bytes 7 (pos 0)) (sound.cells 7 (omega arith));
    hour_24 = up_to 23 (bit mask 8) (get_or bytes 8 (pos 0)) (sound.cells 8 (omega arith));
    hour_12 = from_one 12 (bit mask 9) (get_or bytes 9 (pos 0)) (sound.cells 9 (omega arith));
    minute = up_to 59 (bit mask 11) (get_or bytes 11 (pos 0)) (sound.cells 11 (omega arith));
    second = up_to 60 (bit mask 12) (get_or bytes 12 (pos 0)) (sound.cells 12 (omega arith));
    subsecond = up_to 999_999_999 (bit mask 21) (get_or words 2 (pos 0)) (sound.cells 21 (omega arith));
    offset_hour = of_either_sign 25 (bit mask 13) (get_or bytes 13 (pos 0)) (sound.cells 13 (omega arith));
    offset_minute = of_either_sign 59 (bit mask 14) (get_or bytes 14 (pos 0)) (sound.cells 14 (omega arith));
    offset_second = of_either_sign 59 (bit mask 15) (get_or bytes 15 (pos 0)) (sound.cells 15 (omega arith));
    unix_timestamp_nanos = of_instant Y (bit mask 22) stamp (sound.cells 22 (omega arith));
  }

-- ---- each record in range is represented

-- the bits of the number of a list of bits are the list's
bits_below : (bits : List Bool) → from_bits bits < 2 ^ length bits
bits_below [] = omega arith
bits_below (true ∷ bits) = omega (arith, bits_below bits, pow-suc 2 (length bits))
bits_below (false ∷ bits) = omega (arith, bits_below bits, pow-suc 2 (length bits))

no_bits : (i : ℕ) → get_or [] i false ≡ false
no_bits zero = refl
no_bits (suc i) = refl

bit_of_list : (bits : List Bool) (i : ℕ) → bit (from_bits bits) i ≡ get_or bits i false
bit_of_list [] i = ap (λ d. eqb d 1) (bit_at-zero i) ∙ sym (no_bits i)
bit_of_list (true ∷ bits) zero =
    let one : bit_at (from_bits bits * 2 + 1) 0 ≡ 1 = omega (arith, bit_at_lowest (from_bits bits * 2 + 1)) in ap (λ d. eqb d 1) one
bit_of_list (false ∷ bits) zero =
    let none : bit_at (from_bits bits * 2 + 0) 0 ≡ 0 = omega (arith, bit_at_lowest (from_bits bits * 2 + 0)) in ap (λ d. eqb d 1) none
bit_of_list (true ∷ bits) (suc i) =
    let half : (from_bits bits * 2 + 1) / 2 ≡ from_bits bits = omega arith in
    ap (λ d. eqb d 1) (bit_at-suc (from_bits bits * 2 + 1) i ∙ ap (λ n. bit_at n i) half) ∙ bit_of_list bits i
bit_of_list (false ∷ bits) (suc i) =
    let half : (from_bits bits * 2 + 0) / 2 ≡ from_bits bits = omega arith in
    ap (λ d. eqb d 1) (bit_at-suc (from_bits bits * 2 + 0) i ∙ ap (λ n. bit_at n i) half) ∙ bit_of_list bits i

-- an option of a record satisfies the invariant of a cell
cell_up_to : (high : ℕ) (o : Option ℕ) → IfSome o (λ v. IsTrue (nat_le v high)) → Held (pos 0) (pos high) (is_some o) (or_zero (option_map pos o))
cell_up_to high None h = refl
cell_up_to high (Some v) h = let below : v ≤ high = grind (arith, nat_tests) in (omega (arith, ints), omega (arith, ints))

cell_from_one : (high : ℕ) (o : Option ℕ) → IfSome o (λ v. IsTrue (is_within 1 high v))
    → Held (pos 1) (pos high) (is_some o) (or_zero (option_map pos o))
cell_from_one high None h = refl
cell_from_one high (Some v) h =
    let above : 1 ≤ v = grind (arith, nat_tests) in
    let below : v ≤ high = grind (arith, nat_tests) in
    (omega (arith, ints), omega (arith, ints))

abs_within : (high : ℕ) (v : ℤ) → unsigned_abs v ≤ high → (neg_ℤ (pos high) ≤ℤ v) × (v ≤ℤ pos high)
abs_within high (pos n) h = (omega (arith, ints), omega (arith, ints))
abs_within high (negsuc n) h = (omega (arith, ints), omega (arith, ints))

cell_of_either_sign : (high : ℕ) (o : Option ℤ) → IfSome o (λ v. IsTrue (nat_le (unsigned_abs v) high))
    → Held (neg_ℤ (pos high)) (pos high) (is_some o) (or_zero o)
cell_of_either_sign high None h = refl
cell_of_either_sign high (Some v) h = abs_within high v (grind (arith, nat_tests))

cell_of_instant : (Y : ℕ) (o : Option ℤ) → IfSome o (λ v. IsTrue (is_instant Y v))
    → Held (first_instant Y) (last_instant Y) (is_some o) (or_zero o)
cell_of_instant Y None h = refl
cell_of_instant Y (Some v) h = (is_instant-IsInstant Y v).0 h

cell_of_month : (o : Option Month) → Held (pos 1) (pos 12) (is_some o) (or_zero (option_map month_cell o))
cell_of_month None = refl
cell_of_month (Some m) = let within = month_number_in m in (omega (arith, ints, within), omega (arith, ints, within))

cell_of_weekday : (o : Option Weekday) → Held (pos 0) (pos 6) (is_some o) (or_zero (option_map weekday_cell o))
cell_of_weekday None = refl
cell_of_weekday (Some w) = let within = days_from_monday_in w in (omega (arith, ints, within), omega (arith, ints, within))

cell_of_bool : (o : Option Bool) → Held (pos 0) (pos 1) (is_some o) (or_zero (option_map bool_cell o))
cell_of_bool None = refl
cell_of_bool (Some true) = (omega (arith, ints), omega (arith, ints))
cell_of_bool (Some false) = (omega (arith, ints), omega (arith, ints))

-- the property holds of n numbers from k on
abbrev EachFrom : ℕ → ℕ → (ℕ → Type 0) → Type 0
EachFrom zero k P = ⊤
EachFrom (suc n) k P = P k × EachFrom n (suc k) P

each_from : (n k : ℕ) (P : ℕ → Type 0) → EachFrom n k P → (i : ℕ) → i < n → P (k + i)
each_from zero k P all i h = absurd (omega (arith, h))
each_from (suc n) k P all zero h = let e : k ≡ k + 0 = omega arith in subst P e all.0
each_from (suc n) k P all (suc i) h =
    let e : suc k + i ≡ k + suc i = omega arith in
    subst P e (each_from n (suc k) P all.1 i (omega (arith, h)))

module _ (Y : ℕ) (r : Record) (ranges : IsInRanges Y r) where
  abbrev value : ℕ → ℤ
  value = value_at (bytes_of r) (shorts_of r) (words_of r) (or_zero r.unix_timestamp_nanos)

  held_cells : EachFrom 23 0 (λ i. IsCell Y i (holds r i) (value i))
  held_cells = (
    cell_up_to 99 r.year_last_two ranges.year_last_two,
    (
      cell_up_to 99 r.iso_year_last_two ranges.iso_year_last_two,
      (
        cell_of_month r.month,
        (
          cell_up_to 53 r.sunday_week_number ranges.sunday_week_number,
          (
            cell_up_to 53 r.monday_week_number ranges.monday_week_number,
            (
              cell_from_one 53 r.iso_week_number ranges.iso_week_number,
              (
                cell_of_weekday r.weekday,
                (
                  cell_from_one 31 r.day ranges.day,
                  (
                    cell_up_to 23 r.hour_24 ranges.hour_24,
                    (
                      cell_from_one 12 r.hour_12 ranges.hour_12,
                      (
                        cell_of_bool r.hour_12_is_pm,
                        (
                          cell_up_to 59 r.minute ranges.minute,
                          (
                            cell_up_to 60 r.second ranges.second,
                            (
                              cell_of_either_sign 25 r.offset_hour ranges.offset_hour,
                              (
                                cell_of_either_sign 59 r.offset_minute ranges.offset_minute,
                                (
                                  cell_of_either_sign 59 r.offset_second ranges.offset_second,
                                  (
                                    cell_of_either_sign (Y / 100) r.year_century ranges.year_century,
                                    (
                                      cell_of_either_sign (Y / 100) r.iso_year_century ranges.iso_year_century,
                                      (
                                        cell_from_one 366 r.ordinal ranges.ordinal,
                                        (
                                          cell_of_either_sign Y r.year ranges.year,
                                          (
                                            cell_of_either_sign Y r.iso_year ranges.iso_year,
                                            (
                                              cell_up_to 999_999_999 r.subsecond ranges.subsecond,
                                              (
                                                cell_of_instant Y r.unix_timestamp_nanos ranges.unix_timestamp_nanos,
                                                _,
                                              ),
                                            ),
                                          ),
                                        ),
                                      ),
                                    ),
                                  ),
                                ),
                              ),
                            ),
                          ),
                        ),
                      ),
                    ),
                  ),
                ),
              ),
            ),
          ),
        ),
      ),
    ),
  )

  fields_sound : IsSound Y (mask_of r) (bytes_of r) (shorts_of r) (words_of r) (or_zero r.unix_timestamp_nanos)
  fields_sound = record {
    in_mask = bits_below (bits_of r);
    bytes_length = refl;
    shorts_length = refl;
    words_length = refl;
    cells = λ i h.
        let from_none : 0 + i ≡ i = omega arith in
        subst (λ b. IsCell Y i b (value i)) (sym (bit_of_list (bits_of r) i))
        (subst (λ k. IsCell Y k (holds r k) (value k)) from_none
        (each_from 23 0 (λ i. IsCell Y i (holds r i) (value i)) held_cells i h));
  }

-- converting an option to its cell and back returns it
integer_held : (o : Option ℤ) (set : Bool) → set ≡ is_some o → cond set (Some (or_zero o)) None ≡ o
integer_held None set e = ap (λ b. cond b (Some (pos 0)) None) e
integer_held (Some v) set e = ap (λ b. cond b (Some v) None) e

held_as : {A : Type 0} (of : A → ℤ) (to : ℤ → A) → ((a : A) → to (of a) ≡ a) → (o : Option A) (set : Bool) → set ≡ is_some o
    → option_map to (cond set (Some (or_zero (option_map of o))) None) ≡ o
held_as of to back None set e = ap (λ b. option_map to (cond b (Some (pos 0)) None)) e
held_as of to back (Some a) set e = ap (λ b. option_map to (cond b (Some (of a)) None)) e ∙ ap Some (back a)

natural_back : (n : ℕ) → unsigned_abs (pos n) ≡ n
natural_back n = refl

month_back : (m : Month) → month_in (month_cell m) ≡ m
month_back January = refl
month_back February = refl
month_back March = refl
month_back April = refl
month_back May = refl
month_back June = refl
month_back July = refl
month_back August = refl
month_back September = refl
month_back October = refl
month_back November = refl
month_back December = refl

weekday_back : (w : Weekday) → weekday_in (weekday_cell w) ≡ w
weekday_back Monday = refl
weekday_back Tuesday = refl
weekday_back Wednesday = refl
weekday_back Thursday = refl
weekday_back Friday = refl
weekday_back Saturday = refl
weekday_back Sunday = refl

bool_back : (b : Bool) → is_one (bool_cell b) ≡ b
bool_back true = refl
bool_back false = refl

natural_held : (o : Option ℕ) (set : Bool) → set ≡ is_some o → option_map unsigned_abs (cond set (Some (or_zero (option_map pos o))) None) ≡ o
natural_held o set e = held_as pos unsigned_abs natural_back o set e

module _ (r : Record) where
  set_is : (i : ℕ) → bit (mask_of r) i ≡ holds r i
  set_is i = bit_of_list (bits_of r) i

  abbrev set : ℕ → Bool
  set i = bit (mask_of r) i

  record_back : record_of (fields_of r) ≡ r
  unfolding record_of fields_of
  record_back = λ j. record {
    year = integer_held r.year (set 19) (set_is 19) j;
    year_century = integer_held r.year_century (set 16) (set_is 16) j;
    year_last_two = natural_held r.year_last_two (set 0) (set_is 0) j;
    iso_year = integer_held r.iso_year (set 20) (set_is 20) j;
    iso_year_century = integer_held r.iso_year_century (set 17) (set_is 17) j;
    iso_year_last_two = natural_held r.iso_year_last_two (set 1) (set_is 1) j;
    month = held_as month_cell month_in month_back r.month (set 2) (set_is 2) j;
    sunday_week_number = natural_held r.sunday_week_number (set 3) (set_is 3) j;
    monday_week_number = natural_held r.monday_week_number (set 4) (set_is 4) j;
    iso_week_number = natural_held r.iso_week_number (set 5) (set_is 5) j;
    weekday = held_as weekday_cell weekday_in weekday_back r.weekday (set 6) (set_is 6) j;
    ordinal = natural_held r.ordinal (set 18) (set_is 18) j;
    day = natural_held r.day (set 7) (set_is 7) j;
    hour_24 = natural_held r.hour_24 (set 8) (set_is 8) j;
    hour_12 = natural_held r.hour_12 (set 9) (set_is 9) j;
    hour_12_is_pm = held_as bool_cell is_one bool_back r.hour_12_is_pm (set 10) (set_is 10) j;
    minute = natural_held r.minute (set 11) (set_is 11) j;
    second = natural_held r.second (set 12) (set_is 12) j;
    subsecond = natural_held r.subsecond (set 21) (set_is 21) j;
    offset_hour = integer_held r.offset_hour (set 13) (set_is 13) j;
    offset_minute = integer_held r.offset_minute (set 14) (set_is 14) j;
    offset_second = integer_held r.offset_second (set 15) (set_is 15) j;
    unix_timestamp_nanos = integer_held r.unix_timestamp_nanos (set 22) (set_is 22) j;
    offset_is_negative = set_is 23 j;
    year_century_is_negative = set_is 24 j;
    iso_year_century_is_negative = set_is 25 j;
    leap_second_allowed = set_is 26 j;
  }

module _ (Y : ℕ) where
  held_in_ranges : (a : Inside) → AreSound Y a → IsInRanges Y (record_of a)
  unfolding record_of
  held_in_ranges a sound = seen_in_ranges Y a.mask a.bytes a.shorts a.words a.stamp sound

  fields_keep : (r : Record) → IsInRanges Y r → AreSound Y (fields_of r)
  unfolding fields_of
  fields_keep r ranges = fields_sound Y r ranges

  pub each_held : StoresInRanges Y
  each_held = record {
    in_ranges = held_in_ranges;
    held = λ r ranges. (fields_of r, fields_keep r ranges, record_back r);
  }
