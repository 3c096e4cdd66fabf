-- The fields of a `Parsed` are determined by its record.
use Rattle.std.specs.Int.{bit_at}
use Rattle.std.specs.Option.{option_map}
use Rattle.std.proofs.Common.{◌≡◌, ℕ, zero, suc, ◌+◌, ◌*◌, ◌/◌, ◌%◌, ◌^◌, ◌<◌, ◌≤◌, ◌≤ℤ◌, ℤ, pos, negsuc, neg_ℤ, unsigned_abs, Bool, true, false, cond, Some, None, is_some, List, [], ◌∷◌, length, get_or, drop, eqb, refl, sym, ap, ◌∙◌, arith, add-one}
use Rattle.std.proofs.lemmas.Int.{ints}
use Rattle.std.proofs.lemmas.List.{drop_more, drop_all}
use Rattle.std.proofs.lemmas.Nat.{mod-pow-add, shr-shr}
use Rattle.std.proofs.lemmas.Nat.Bits.{bit_at-lt}
use Rattle.time_values.specs.Instants.{first_instant, last_instant}
use Rattle.time_values.specs.Names.{month_at, month_number, days_from_monday, weekday_at}
use Rattle.time_record.specs.Record.{Record}
use Rattle.time_record.specs.Cells.{bit, value_at, option_at, is_one, bool_cell, month_in, month_cell, weekday_in, weekday_cell, build, IsSound, or_zero, from_bits, bits_of, mask_of, bytes_of, shorts_of, words_of}
use Rattle.time_record.specs.declared.parsed.Parsed.TheInside.{Inside}

-- ---- one cell

-- x lies from low to high if its bit is set, and else is 0: `IsCell` of a cell
abbrev Held : ℤ → ℤ → Bool → ℤ → Type 0
Held low high true x = (low ≤ℤ x) × (x ≤ℤ high)
Held low high false x = x ≡ pos 0

integer_back : (low high : ℤ) (set : Bool) (x : ℤ) → Held low high set x → or_zero (cond set (Some x) None) ≡ x
integer_back low high true x held = refl
integer_back low high false x held = sym held

pos-unsigned_abs : (low : ℕ) (x : ℤ) → pos low ≤ℤ x → pos (unsigned_abs x) ≡ x
pos-unsigned_abs low (pos n) h = refl
pos-unsigned_abs low (negsuc n) h = absurd (omega (arith, h))

natural_back : (low : ℕ) (high : ℤ) (set : Bool) (x : ℤ) → Held (pos low) high set x →
    or_zero (option_map pos (option_map unsigned_abs (cond set (Some x) None))) ≡ x
natural_back low high true x held = pos-unsigned_abs low x held.0
natural_back low high false x held = sym held

month_number-month_at : (n : ℕ) → 1 ≤ n → n ≤ 12 → month_number (month_at n) ≡ n
month_number-month_at zero low high = absurd (omega (arith, low))
month_number-month_at (suc zero) low high = refl
month_number-month_at (suc (suc zero)) low high = refl
month_number-month_at (suc (suc (suc zero))) low high = refl
month_number-month_at (suc (suc (suc (suc zero)))) low high = refl
month_number-month_at (suc (suc (suc (suc (suc zero))))) low high = refl
month_number-month_at (suc (suc (suc (suc (suc (suc zero)))))) low high = refl
month_number-month_at (suc (suc (suc (suc (suc (suc (suc zero))))))) low high = refl
month_number-month_at (suc (suc (suc (suc (suc (suc (suc (suc zero)))))))) low high = refl
month_number-month_at (suc (suc (suc (suc (suc (suc (suc (suc (suc zero))))))))) low high = refl
month_number-month_at (suc (suc (suc (suc (suc (suc (suc (suc (suc (suc zero)))))))))) low high = refl
month_number-month_at (suc (suc (suc (suc (suc (suc (suc (suc (suc (suc (suc zero))))))))))) low high = refl
month_number-month_at (suc (suc (suc (suc (suc (suc (suc (suc (suc (suc (suc (suc zero)))))))))))) low high = refl
month_number-month_at (suc (suc (suc (suc (suc (suc (suc (suc (suc (suc (suc (suc (suc n))))))))))))) low high =
    absurd (omega (arith, high))

days_from_monday-weekday_at : (n : ℕ) → n ≤ 6 → days_from_monday (weekday_at n) ≡ n
days_from_monday-weekday_at zero high = refl
days_from_monday-weekday_at (suc zero) high = refl
days_from_monday-weekday_at (suc (suc zero)) high = refl
days_from_monday-weekday_at (suc (suc (suc zero))) high = refl
days_from_monday-weekday_at (suc (suc (suc (suc zero)))) high = refl
days_from_monday-weekday_at (suc (suc (suc (suc (suc zero))))) high = refl
days_from_monday-weekday_at (suc (suc (suc (suc (suc (suc zero)))))) high = refl
days_from_monday-weekday_at (suc (suc (suc (suc (suc (suc (suc n))))))) high = absurd (omega (arith, high))

month_back : (set : Bool) (x : ℤ) → Held (pos 1) (pos 12) set x →
    or_zero (option_map month_cell (option_map month_in (cond set (Some x) None))) ≡ x
month_back true (pos n) held = ap pos (month_number-month_at n (omega (arith, ints)) (omega (arith, ints)))
month_back true (negsuc n) held = absurd (omega (arith, held.0))
month_back false x held = sym held

weekday_back : (set : Bool) (x : ℤ) → Held (pos 0) (pos 6) set x →
    or_zero (option_map weekday_cell (option_map weekday_in (cond set (Some x) None))) ≡ x
weekday_back true (pos n) held = ap pos (days_from_monday-weekday_at n (omega (arith, ints)))
weekday_back true (negsuc n) held = absurd (omega (arith, held.0))
weekday_back false x held = sym held

bool_back : (set : Bool) (x : ℤ) → Held (pos 0) (pos 1) set x →
    or_zero (option_map bool_cell (option_map is_one (cond set (Some x) None))) ≡ x
bool_back true (pos zero) held = refl
bool_back true (pos (suc zero)) held = refl
bool_back true (pos (suc (suc n))) held = absurd (omega (arith, ints))
bool_back true (negsuc n) held = absurd (omega (arith, held.0))
bool_back false x held = sym held

-- an option is there if its bit is set
bit_back : (set : Bool) (x : ℤ) → is_some (cond set (Some x) None) ≡ set
bit_back true x = refl
bit_back false x = refl

bit_back_as : {T : Type 0} (f : ℤ → T) (set : Bool) (x : ℤ) → is_some (option_map f (cond set (Some x) None)) ≡ set
bit_back_as f true x = refl
bit_back_as f false x = refl

-- ---- a list of a known length

-- n items of the list from index i on, with 0 for one past its end
abbrev items_from : ℕ → ℕ → List ℤ → List ℤ
items_from zero i l = []
items_from (suc n) i l = get_or l i (pos 0) ∷ items_from n (suc i) l

items_from_is : (n i : ℕ) (l : List ℤ) → length l ≡ i + n → items_from n i l ≡ drop i l
items_from_is zero i l h = sym (drop_all i l (omega (arith, h)))
items_from_is (suc n) i l h =
    let within : i < length l = omega (arith, h) in
    let next : i + 1 ≡ suc i = omega arith in
    ap (λ rest. get_or l i (pos 0) ∷ rest) (items_from_is n (suc i) l (omega (arith, h)))
    ∙ sym (drop_more l i (pos 0) within ∙ ap (λ k. get_or l i (pos 0) ∷ drop k l) next)

-- ---- the mask

-- n bits of the mask from bit i on, the lowest first
abbrev pub bits_from : ℕ → ℕ → ℕ → List Bool
bits_from zero i mask = []
bits_from (suc n) i mask = bit mask i ∷ bits_from n (suc i) mask

from_bit : (d : ℕ) (bits : List Bool) → d < 2 → from_bits (eqb d 1 ∷ bits) ≡ from_bits bits * 2 + d
from_bit zero bits h = refl
from_bit (suc zero) bits h = refl
from_bit (suc (suc d)) bits h = absurd (omega (arith, h))

from_bits_is : (n i mask : ℕ) → from_bits (bits_from n i mask) ≡ mask / 2 ^ i % 2 ^ n
from_bits_is zero i mask = omega arith
from_bits_is (suc n) i mask =
    let e : mask / 2 ^ i / 2 ^ 1 ≡ mask / 2 ^ suc i = shr-shr mask i 1 ∙ ap (λ k. mask / 2 ^ k) (add-one i) in
    let f : mask / 2 ^ i % 2 ^ suc n ≡ (mask / 2 ^ i / 2 ^ 1 % 2 ^ n) * 2 ^ 1 + mask / 2 ^ i % 2 ^ 1 =
    ap (λ k. mask / 2 ^ i % 2 ^ k) (sym (add-one n)) ∙ mod-pow-add (mask / 2 ^ i) n 1 in
    from_bit (bit_at mask i) (bits_from n (suc i) mask) (bit_at-lt mask i)
    ∙ ap (λ x. x * 2 + bit_at mask i) (from_bits_is n (suc i) mask)
    ∙ ap (λ x. x % 2 ^ n * 2 + bit_at mask i) (sym e)
    ∙ sym f

-- ---- all fields of a `Parsed`

module _ (mask : ℕ) (bytes shorts words : List ℤ) (stamp : ℤ) where
  -- the record that these fields of a `Parsed` represent: `record_of` of them
  abbrev pub seen : Record
  seen = build (option_at (bit mask) (value_at bytes shorts words stamp)) (bit mask)

  pub bits_back : bits_of seen ≡ bits_from 27 0 mask
  bits_back = λ j.
      bit_back_as unsigned_abs (bit mask 0) (get_or bytes 0 (pos 0)) j ∷
      bit_back_as unsigned_abs (bit mask 1) (get_or bytes 1 (pos 0)) j ∷
      bit_back_as month_in (bit mask 2) (get_or bytes 2 (pos 0)) j ∷
      bit_back_as unsigned_abs (bit mask 3) (get_or bytes 3 (pos 0)) j ∷
      bit_back_as unsigned_abs (bit mask 4) (get_or bytes 4 (pos 0)) j ∷
      bit_back_as unsigned_abs (bit mask 5) (get_or bytes 5 (pos 0)) j ∷
      bit_back_as weekday_in (bit mask 6) (get_or bytes 6 (pos 0)) j ∷
      bit_back_as unsigned_abs (bit mask 7) (get_or bytes 7 (pos 0)) j ∷
      bit_back_as unsigned_abs (bit mask 8) (get_or bytes 8 (pos 0)) j ∷
      bit_back_as unsigned_abs (bit mask 9) (get_or bytes 9 (pos 0)) j ∷
      bit_back_as is_one (bit mask 10) (get_or bytes 10 (pos 0)) j ∷
      bit_back_as unsigned_abs (bit mask 11) (get_or bytes 11 (pos 0)) j ∷
      bit_back_as unsigned_abs (bit mask 12) (get_or bytes 12 (pos 0)) j ∷
      bit_back (bit mask 13) (get_or bytes 13 (pos 0)) j ∷
      bit_back (bit mask 14) (get_or bytes 14 (pos 0)) j ∷
      bit_back (bit mask 15) (get_or bytes 15 (pos 0)) j ∷
      bit_back (bit mask 16) (get_or shorts 0 (pos 0)) j ∷
      bit_back (bit mask 17) (get_or shorts 1 (pos 0)) j ∷
      bit_back_as unsigned_abs (bit mask 18) (get_or shorts 2 (pos 0)) j ∷
      bit_back (bit mask 19) (get_or words 0 (pos 0)) j ∷
      bit_back (bit mask 20) (get_or words 1 (pos 0)) j ∷
      bit_back_as unsigned_abs (bit mask 21) (get_or words 2 (pos 0)) j ∷
      bit_back (bit mask 22) stamp j ∷
      bit mask 23 ∷
      bit mask 24 ∷
      bit mask 25 ∷
      bit mask 26 ∷ []

  module _ (Y : ℕ) (sound : IsSound Y mask bytes shorts words stamp) where
    pub mask_back : mask_of seen ≡ mask
    mask_back = ap from_bits bits_back ∙ from_bits_is 27 0 mask ∙ omega (arith, sound.in_mask)

    pub bytes_back : bytes_of seen ≡ bytes
    bytes_back = (λ j.
        natural_back 0 (pos 99) (bit mask 0) (get_or bytes 0 (pos 0)) (sound.cells 0 (omega arith)) j ∷
        natural_back 0 (pos 99) (bit mask 1) (get_or bytes 1 (pos 0)) (sound.cells 1 (omega arith)) j ∷
        month_back (bit mask 2) (get_or bytes 2 (pos 0)) (sound.cells 2 (omega arith)) j ∷
        natural_back 0 (pos 53) (bit mask 3) (get_or bytes 3 (pos 0)) (sound.cells 3 (omega arith)) j ∷
        natural_back 0 (pos 53) (bit mask 4) (get_or bytes 4 (pos 0)) (sound.cells 4 (omega arith)) j ∷
        natural_back 1 (pos 53) (bit mask 5) (get_or bytes 5 (pos 0)) (sound.cells 5 (omega arith)) j ∷
        weekday_back (bit mask 6) (get_or bytes 6 (pos 0)) (sound.cells 6 (omega arith)) j ∷
        natural_back 1 (pos 31) (bit mask 7) (get_or bytes 7 (pos 0)) (sound.cells 7 (omega arith)) j ∷
        natural_back 0 (pos 23) (bit mask 8) (get_or bytes 8 (pos 0)) (sound.cells 8 (omega arith)) j ∷
        natural_back 1 (pos 12) (bit mask 9) (get_or bytes 9 (pos 0)) (sound.cells 9 (omega arith)) j ∷
        bool_back (bit mask 10) (get_or bytes 10 (pos 0)) (sound.cells 10 (omega arith)) j ∷
        natural_back 0 (pos 59) (bit mask 11) (get_or bytes 11 (pos 0)) (sound.cells 11 (omega arith)) j ∷
        natural_back 0 (pos 60) (bit mask 12) (get_or bytes 12 (pos 0)) (sound.cells 12 (omega arith)) j ∷
        integer_back (neg_ℤ (pos 25)) (pos 25)
        (bit mask 13) (get_or bytes 13 (pos 0)) (sound.cells 13 (omega arith)) j ∷
        integer_back (neg_ℤ (pos 59)) (pos 59)
        (bit mask 14) (get_or bytes 14 (pos 0)) (sound.cells 14 (omega arith)) j ∷
        integer_back (neg_ℤ (pos 59)) (pos 59)
        (bit mask 15) (get_or bytes 15 (pos 0)) (sound.cells 15 (omega arith)) j ∷ [])
        ∙ items_from_is 16 0 bytes (omega (arith, sound.bytes_length))

    pub shorts_back : shorts_of seen ≡ shorts
    shorts_back = (λ j.
        integer_back (neg_ℤ (pos (Y / 100))) (pos (Y / 100))
        (bit mask 16) (get_or shorts 0 (pos 0)) (sound.cells 16 (omega arith)) j ∷
        integer_back (neg_ℤ (pos (Y / 100))) (pos (Y / 100))
        (bit mask 17) (get_or shorts 1 (pos 0)) (sound.cells 17 (omega arith)) j ∷
        natural_back 1 (pos 366) (bit mask 18) (get_or shorts 2 (pos 0)) (sound.cells 18 (omega arith)) j ∷ [])
        ∙ items_from_is 3 0 shorts (omega (arith, sound.shorts_length))

    pub words_back : words_of seen ≡ words
    words_back = (λ j.
        integer_back (neg_ℤ (pos Y)) (pos Y) (bit mask 19) (get_or words 0 (pos 0)) (sound.cells 19 (omega arith)) j ∷
        integer_back (neg_ℤ (pos Y)) (pos Y) (bit mask 20) (get_or words 1 (pos 0)) (sound.cells 20 (omega arith)) j ∷
        natural_back 0 (pos 999_999_999) (bit mask 21) (get_or words 2 (pos 0)) (sound.cells 21 (omega arith)) j ∷ [])
        ∙ items_from_is 3 0 words (omega (arith, sound.words_length))

    pub stamp_back : or_zero seen.unix_timestamp_nanos ≡ stamp
    stamp_back = integer_back (first_instant Y) (last_instant Y) (bit mask 22) stamp (sound.cells 22 (omega arith))

-- ---- Converting the fields of a `Parsed` to a record and back

-- the record that the fields of a `Parsed` represent
unfoldable pub record_of : Inside → Record
record_of a = build (option_at (bit a.mask) (value_at a.bytes a.shorts a.words a.stamp)) (bit a.mask)

-- the fields that represent a record, with 0 in each cell of an option that isn't set
unfoldable pub fields_of : Record → Inside
fields_of r = record {
  mask = mask_of r;
  bytes = bytes_of r;
  shorts = shorts_of r;
  words = words_of r;
  stamp = or_zero r.unix_timestamp_nanos;
}

-- the fields of a `Parsed` satisfy their invariant, for the greatest year Y
abbrev pub AreSound : ℕ → Inside → Type 0
AreSound Y a = IsSound Y a.mask a.bytes a.shorts a.words a.stamp

-- converting fields that satisfy their invariant to their record and back returns them
pub fields_back : (Y : ℕ) (a : Inside) → AreSound Y a → fields_of (record_of a) ≡ a
unfolding fields_of record_of
fields_back Y a sound i = record {
  mask = mask_back a.mask a.bytes a.shorts a.words a.stamp Y sound i;
  bytes = bytes_back a.mask a.bytes a.shorts a.words a.stamp Y sound i;
  shorts = shorts_back a.mask a.bytes a.shorts a.words a.stamp Y sound i;
  words = words_back a.mask a.bytes a.shorts a.words a.stamp Y sound i;
  stamp = stamp_back a.mask a.bytes a.shorts a.words a.stamp Y sound i;
}
