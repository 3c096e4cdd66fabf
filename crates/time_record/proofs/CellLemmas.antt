-- The mask and the cells of a record: a value set in them is stored in the record, and a value read from them is the record's.
use Rattle.std.proofs.Common.{◌≡◌, ℕ, zero, suc, ◌+◌, ◌-◌, ◌*◌, ◌%◌, ◌^◌, ◌<◌, ◌≤◌, ◌≢◌, ⊎_elim, ℤ, pos, unsigned_abs, Bool, true, false, ◌&&◌, cond, Option, Some, None, List, length, get_or, set, eqb, ltb, refl, sym, ap, ◌∙◌, arith, subst, bit_or, bit_and}
use Rattle.std.specs.Int.{bit_at, bit_not, w32}
use Rattle.std.specs.Option.{option_map}
use Rattle.std.proofs.lemmas.Bool.{cases_eq, ne_eqb, eq-eqb, eqb-true, cases_lt, lt-ltb, le-ltb, false≢true}
use Rattle.std.proofs.lemmas.List.{get_or-set_same, get_or-set_other}
use Rattle.std.proofs.lemmas.Nat.{or_lt, and_le_l, one_shl, pow_below}
use Rattle.std.proofs.lemmas.Nat.Bits.{bit_at_and, bit_at_set_same, bit_at_set_other, bit_at_clear_same, bit_at_clear_other, bit_at_above, bit_at-lt, bit_at-zero, same_from_bits}
use Rattle.time_record.specs.Record.{Record}
use Rattle.time_record.specs.Cells.{bit, build, InCell, is_one, IsCell, IsSound, month_in, option_at, pick, value_at, weekday_in}
use Rattle.time_record.specs.CellAnswers.{changed, holds, put_cell, put_flag, Reads, ReadsClock, ReadsWide}
use Rattle.time_record.specs.Inverse.{bits_back, bits_from}

-- ---- a change at one index

changed_same : {T : Type 0} (f : ℕ → T) (k : ℕ) (x : T) (i : ℕ) → i ≡ k → changed f k x i ≡ x
changed_same f k x i e = ap (λ b. cond b x (f i)) (eq-eqb i k e)

changed_other : {T : Type 0} (f : ℕ → T) (k : ℕ) (x : T) (i : ℕ) → i ≢ k → changed f k x i ≡ f i
changed_other f k x i e = ap (λ b. cond b x (f i)) (ne_eqb i k e)

-- g is f with x at k
agrees : {T : Type 0} (g f : ℕ → T) (k : ℕ) (x : T) → g k ≡ x → ((i : ℕ) → i ≢ k → g i ≡ f i) → (i : ℕ) → g i ≡ changed f k x i
agrees g f k x same other i = ⊎_elim
    (λ (e : i ≡ k). ap g e ∙ same ∙ sym (changed_same f k x i e))
    (λ (apart : i ≢ k). other i apart ∙ sym (changed_other f k x i apart))
    (cases_eq i k)

-- ---- the mask

-- `mask | 1 << k`
pub bit_set : (mask k : ℕ) → k < 32 → (i : ℕ) → bit (bit_or mask (1 * 2 ^ k % 2 ^ 32)) i ≡ changed (bit mask) k true i
bit_set mask k within = agrees (bit (bit_or mask (1 * 2 ^ k % 2 ^ 32))) (bit mask) k true
    (ap (λ d. eqb d 1) (bit_at_set_same w32 mask k within))
    (λ i apart. ap (λ d. eqb d 1) (bit_at_set_other w32 mask k within i apart))

pub bit_below : (mask k : ℕ) → mask < 2 ^ 27 → k < 27 → bit_or mask (1 * 2 ^ k % 2 ^ 32) < 2 ^ 27
bit_below mask k fits within =
    let one : 1 * 2 ^ k % 2 ^ 32 ≡ 2 ^ k = one_shl k 32 (omega (arith, within)) in
    or_lt 27 mask (1 * 2 ^ k % 2 ^ 32) fits (subst (λ x. x < 2 ^ 27) (sym one) (pow_below k 27 within))

-- `mask & !(1 << k)`
pub bit_cleared : (mask k : ℕ) → mask < 2 ^ 32 → k < 32 → (i : ℕ) →
    bit (bit_and mask (bit_not w32 (1 * 2 ^ k % 2 ^ 32))) i ≡ changed (bit mask) k false i
bit_cleared mask k fits within =
    let cleared = bit_and mask (bit_not w32 (1 * 2 ^ k % 2 ^ 32)) in
    let below : cleared < 2 ^ 32 = omega (arith, and_le_l mask (bit_not w32 (1 * 2 ^ k % 2 ^ 32)), fits) in
    agrees (bit cleared) (bit mask) k false
    (ap (λ d. eqb d 1) (bit_at_clear_same w32 mask k within))
    (λ i apart. ⊎_elim
    (λ (low : i < 32). ap (λ d. eqb d 1) (bit_at_clear_other w32 mask k within i low apart))
    (λ (high : 32 ≤ i). ap (λ d. eqb d 1) (bit_at_above cleared 32 i below high ∙ sym (bit_at_above mask 32 i fits high)))
    (cases_lt i 32))

-- ---- the cells

pick_byte : (i : ℕ) (x y z t : ℤ) → i < 16 → pick i x y z t ≡ x
pick_byte i x y z t h = ap (λ b. cond b x (cond (ltb i 19) y (cond (ltb i 22) z (cond (eqb i 22) t (pos 0))))) (lt-ltb i 16 h)

pick_short : (i : ℕ) (x y z t : ℤ) → 16 ≤ i → i < 19 → pick i x y z t ≡ y
pick_short i x y z t g h =
    ap (λ b. cond b x (cond (ltb i 19) y (cond (ltb i 22) z (cond (eqb i 22) t (pos 0))))) (le-ltb i 16 g)
    ∙ ap (λ b. cond b y (cond (ltb i 22) z (cond (eqb i 22) t (pos 0)))) (lt-ltb i 19 h)

pick_word : (i : ℕ) (x y z t : ℤ) → 19 ≤ i → i < 22 → pick i x y z t ≡ z
pick_word i x y z t g h =
    ap (λ b. cond b x (cond (ltb i 19) y (cond (ltb i 22) z (cond (eqb i 22) t (pos 0))))) (le-ltb i 16 (omega (arith, g)))
    ∙ ap (λ b. cond b y (cond (ltb i 22) z (cond (eqb i 22) t (pos 0)))) (le-ltb i 19 g)
    ∙ ap (λ b. cond b z (cond (eqb i 22) t (pos 0))) (lt-ltb i 22 h)

module _ (bytes shorts words : List ℤ) (stamp : ℤ) where
  abbrev value : ℕ → ℤ
  value = value_at bytes shorts words stamp

  -- cell k is a byte, a short or a word
  pub value_byte : (k : ℕ) → k < 16 → value k ≡ get_or bytes k (pos 0)
  value_byte k h = pick_byte k _ _ _ _ h

  pub value_short : (k : ℕ) → 16 ≤ k → k < 19 → value k ≡ get_or shorts (k - 16) (pos 0)
  value_short k g h = pick_short k _ _ _ _ g h

  pub value_word : (k : ℕ) → 19 ≤ k → k < 22 → value k ≡ get_or words (k - 19) (pos 0)
  value_word k g h = pick_word k _ _ _ _ g h

  -- a write to a byte, a short, a word or the timestamp
  pub value_set_byte : (k : ℕ) (v : ℤ) → length bytes ≡ 16 → k < 16 → (i : ℕ) →
      value_at (set bytes k v) shorts words stamp i ≡ changed value k v i
  value_set_byte k v sized h = agrees (value_at (set bytes k v) shorts words stamp) value k v
      (pick_byte k _ _ _ _ h ∙ get_or-set_same bytes k v (pos 0) (omega (arith, sized)))
      (λ i apart. ap (λ x. pick i x (get_or shorts (i - 16) (pos 0)) (get_or words (i - 19) (pos 0)) stamp)
      (get_or-set_other bytes k i v (pos 0) apart))

  pub value_set_short : (k : ℕ) (v : ℤ) → length shorts ≡ 3 → 16 ≤ k → k < 19 → (i : ℕ) →
      value_at bytes (set shorts (k - 16) v) words stamp i ≡ changed value k v i
  value_set_short k v sized g h = agrees (value_at bytes (set shorts (k - 16) v) words stamp) value k v
      (pick_short k _ _ _ _ g h ∙ get_or-set_same shorts (k - 16) v (pos 0) (omega (arith, sized)))
      (λ i apart. ⊎_elim
      (λ (low : i < 16). pick_byte i _ _ _ _ low ∙ sym (pick_byte i _ _ _ _ low))
      (λ (high : 16 ≤ i). ap (λ x. pick i (get_or bytes i (pos 0)) x (get_or words (i - 19) (pos 0)) stamp)
      (get_or-set_other shorts (k - 16) (i - 16) v (pos 0) (λ e. apart (omega (arith, e, g, high)))))
      (cases_lt i 16))

  pub value_set_word : (k : ℕ) (v : ℤ) → length words ≡ 3 → 19 ≤ k → k < 22 → (i : ℕ) →
      value_at bytes shorts (set words (k - 19) v) stamp i ≡ changed value k v i
  value_set_word k v sized g h = agrees (value_at bytes shorts (set words (k - 19) v) stamp) value k v
      (pick_word k _ _ _ _ g h ∙ get_or-set_same words (k - 19) v (pos 0) (omega (arith, sized)))
      (λ i apart. ⊎_elim
      (λ (low : i < 16). pick_byte i _ _ _ _ low ∙ sym (pick_byte i _ _ _ _ low))
      (λ (high : 16 ≤ i). ⊎_elim
      (λ (low : i < 19). pick_short i _ _ _ _ high low ∙ sym (pick_short i _ _ _ _ high low))
      (λ (above : 19 ≤ i). ap (λ x. pick i (get_or bytes i (pos 0)) (get_or shorts (i - 16) (pos 0)) x stamp)
      (get_or-set_other words (k - 19) (i - 19) v (pos 0) (λ e. apart (omega (arith, e, g, above)))))
      (cases_lt i 19))
      (cases_lt i 16))

  pub value_set_stamp : (v : ℤ) (i : ℕ) → value_at bytes shorts words v i ≡ changed value 22 v i
  value_set_stamp v = agrees (value_at bytes shorts words v) value 22 v refl
      (λ i apart.
      let word = λ (x : ℤ). cond (ltb i 22) (get_or words (i - 19) (pos 0)) x in
      ap (λ x. cond (ltb i 16) (get_or bytes i (pos 0)) (cond (ltb i 19) (get_or shorts (i - 16) (pos 0)) (word x)))
      (ap (λ b. cond b v (pos 0)) (ne_eqb i 22 apart) ∙ sym (ap (λ b. cond b stamp (pos 0)) (ne_eqb i 22 apart))))

-- ---- the invariant of the cells

kept_at : (Y i : ℕ) (at there : Bool) (v w : ℤ) → (at ≡ true → InCell Y i v) → IsCell Y i there w →
    IsCell Y i (cond at true there) (cond at v w)
kept_at Y i true there v w put kept = put refl
kept_at Y i false there v w put kept = kept

cells_after : (Y : ℕ) (b b' : ℕ → Bool) (w w' : ℕ → ℤ) (k : ℕ) (v : ℤ) →
    ((i : ℕ) → b' i ≡ changed b k true i) → ((i : ℕ) → w' i ≡ changed w k v i) → InCell Y k v →
    ((i : ℕ) → i < 23 → IsCell Y i (b i) (w i)) → (i : ℕ) → i < 23 → IsCell Y i (b' i) (w' i)
cells_after Y b b' w w' k v bits values put cells i h =
    let kept : IsCell Y i (changed b k true i) (changed w k v i) =
    kept_at Y i (eqb i k) (b i) v (w i) (λ e. subst (λ n. InCell Y n v) (sym (eqb-true i k e)) put) (cells i h) in
    subst (λ x. IsCell Y i x (w' i)) (sym (bits i)) (subst (λ x. IsCell Y i (changed b k true i) x) (sym (values i)) kept)

-- after a write to cell k
pub sound_after : (Y mask mask' : ℕ) (bytes shorts words bytes' shorts' words' : List ℤ) (stamp stamp' : ℤ) (k : ℕ) (v : ℤ) →
    IsSound Y mask bytes shorts words stamp → mask' < 2 ^ 27 → length bytes' ≡ 16 → length shorts' ≡ 3 → length words' ≡ 3 →
    ((i : ℕ) → bit mask' i ≡ changed (bit mask) k true i) →
    ((i : ℕ) → value_at bytes' shorts' words' stamp' i ≡ changed (value_at bytes shorts words stamp) k v i) →
    InCell Y k v → IsSound Y mask' bytes' shorts' words' stamp'
sound_after Y mask mask' bytes shorts words bytes' shorts' words' stamp stamp' k v sound fits b s w bits values put = record {
  in_mask = fits;
  bytes_length = b;
  shorts_length = s;
  words_length = w;
  cells = cells_after Y (bit mask) (bit mask') (value_at bytes shorts words stamp) (value_at bytes' shorts' words' stamp') k v bits values put sound.cells;
}

-- after a write to a flag
pub sound_flag : (Y mask mask' : ℕ) (bytes shorts words : List ℤ) (stamp : ℤ) (k : ℕ) (on : Bool) →
    IsSound Y mask bytes shorts words stamp → mask' < 2 ^ 27 → 23 ≤ k → ((i : ℕ) → bit mask' i ≡ changed (bit mask) k on i) →
    IsSound Y mask' bytes shorts words stamp
sound_flag Y mask mask' bytes shorts words stamp k on sound fits past bits = record {
  in_mask = fits;
  bytes_length = sound.bytes_length;
  shorts_length = sound.shorts_length;
  words_length = sound.words_length;
  cells = λ i h.
      let same : bit mask' i ≡ bit mask i = bits i ∙ changed_other (bit mask) k on i (omega (arith, past, h)) in
      subst (λ b. IsCell Y i b (value_at bytes shorts words stamp i)) (sym same) (sound.cells i h);
}

-- ---- the record after a write to a cell

typed : {T : Type 0} (f : ℤ → T) (at there : Bool) (v w : ℤ) →
    option_map f (cond (cond at true there) (Some (cond at v w)) None) ≡ cond at (Some (f v)) (option_map f (cond there (Some w) None))
typed f true there v w = refl
typed f false there v w = refl

plain : (at there : Bool) (v w : ℤ) →
    cond (cond at true there) (Some (cond at v w)) None ≡ cond at (Some v) (cond there (Some w) None)
plain true there v w = refl
plain false there v w = refl

put_changed : (b : ℕ → Bool) (w : ℕ → ℤ) (k : ℕ) (v : ℤ) → k < 23 →
    build (option_at (changed b k true) (changed w k v)) (changed b k true) ≡ put_cell k v (build (option_at b w) b)
put_changed b w k v h = λ j. record {
  year = plain (eqb 19 k) (b 19) v (w 19) j;
  year_century = plain (eqb 16 k) (b 16) v (w 16) j;
  year_last_two = typed unsigned_abs (eqb 0 k) (b 0) v (w 0) j;
  iso_year = plain (eqb 20 k) (b 20) v (w 20) j;
  iso_year_century = plain (eqb 17 k) (b 17) v (w 17) j;
  iso_year_last_two = typed unsigned_abs (eqb 1 k) (b 1) v (w 1) j;
  month = typed month_in (eqb 2 k) (b 2) v (w 2) j;
  sunday_week_number = typed unsigned_abs (eqb 3 k) (b 3) v (w 3) j;
  monday_week_number = typed unsigned_abs (eqb 4 k) (b 4) v (w 4) j;
  iso_week_number = typed unsigned_abs (eqb 5 k) (b 5) v (w 5) j;
  weekday = typed weekday_in (eqb 6 k) (b 6) v (w 6) j;
  ordinal = typed unsigned_abs (eqb 18 k) (b 18) v (w 18) j;
  day = typed unsigned_abs (eqb 7 k) (b 7) v (w 7) j;
  hour_24 = typed unsigned_abs (eqb 8 k) (b 8) v (w 8) j;
  hour_12 = typed unsigned_abs (eqb 9 k) (b 9) v (w 9) j;
  hour_12_is_pm = typed is_one (eqb 10 k) (b 10) v (w 10) j;
  minute = typed unsigned_abs (eqb 11 k) (b 11) v (w 11) j;
  second = typed unsigned_abs (eqb 12 k) (b 12) v (w 12) j;
  subsecond = typed unsigned_abs (eqb 21 k) (b 21) v (w 21) j;
  offset_hour = plain (eqb 13 k) (b 13) v (w 13) j;
  offset_minute = plain (eqb 14 k) (b 14) v (w 14) j;
  offset_second = plain (eqb 15 k) (b 15) v (w 15) j;
  unix_timestamp_nanos = plain (eqb 22 k) (b 22) v (w 22) j;
  offset_is_negative = changed_other b k true 23 (omega (arith, h)) j;
  year_century_is_negative = changed_other b k true 24 (omega (arith, h)) j;
  iso_year_century_is_negative = changed_other b k true 25 (omega (arith, h)) j;
  leap_second_allowed = changed_other b k true 26 (omega (arith, h)) j;
}

pub put_is : (b b' : ℕ → Bool) (w w' : ℕ → ℤ) (k : ℕ) (v : ℤ) → k < 23 →
    ((i : ℕ) → b' i ≡ changed b k true i) → ((i : ℕ) → w' i ≡ changed w k v i) →
    build (option_at b' w') b' ≡ put_cell k v (build (option_at b w) b)
put_is b b' w w' k v h bits values =
    (λ j. build (option_at (λ i. bits i j) (λ i. values i j)) (λ i. bits i j)) ∙ put_changed b w k v h

-- ---- the record after a write to a flag

flag_changed : (b : ℕ → Bool) (w : ℕ → ℤ) (k : ℕ) (on : Bool) → 23 ≤ k →
    build (option_at (changed b k on) w) (changed b k on) ≡ put_flag k on (build (option_at b w) b)
flag_changed b w k on past =
    let same : (i : ℕ) → i < 23 → changed b k on i ≡ b i = λ i h. changed_other b k on i (omega (arith, past, h)) in
    λ j. record {
      year = cond (same 19 (omega arith) j) (Some (w 19)) None;
      year_century = cond (same 16 (omega arith) j) (Some (w 16)) None;
      year_last_two = option_map unsigned_abs (cond (same 0 (omega arith) j) (Some (w 0)) None);
      iso_year = cond (same 20 (omega arith) j) (Some (w 20)) None;
      iso_year_century = cond (same 17 (omega arith) j) (Some (w 17)) None;
      iso_year_last_two = option_map unsigned_abs (cond (same 1 (omega arith) j) (Some (w 1)) None);
      month = option_map month_in (cond (same 2 (omega arith) j) (Some (w 2)) None);
      sunday_week_number = option_map unsigned_abs (cond (same 3 (omega arith) j) (Some (w 3)) None);
      monday_week_number = option_map unsigned_abs (cond (same 4 (omega arith) j) (Some (w 4)) None);
      iso_week_number = option_map unsigned_abs (cond (same 5 (omega arith) j) (Some (w 5)) None);
      weekday = option_map weekday_in (cond (same 6 (omega arith) j) (Some (w 6)) None);
      ordinal = option_map unsigned_abs (cond (same 18 (omega arith) j) (Some (w 18)) None);
      day = option_map unsigned_abs (cond (same 7 (omega arith) j) (Some (w 7)) None);
      hour_24 = option_map unsigned_abs (cond (same 8 (omega arith) j) (Some (w 8)) None);
      hour_12 = option_map unsigned_abs (cond (same 9 (omega arith) j) (Some (w 9)) None);
      hour_12_is_pm = option_map is_one (cond (same 10 (omega arith) j) (Some (w 10)) None);
      minute = option_map unsigned_abs (cond (same 11 (omega arith) j) (Some (w 11)) None);
      second = option_map unsigned_abs (cond (same 12 (omega arith) j) (Some (w 12)) None);
      subsecond = option_map unsigned_abs (cond (same 21 (omega arith) j) (Some (w 21)) None);
      offset_hour = cond (same 13 (omega arith) j) (Some (w 13)) None;
      offset_minute = cond (same 14 (omega arith) j) (Some (w 14)) None;
      offset_second = cond (same 15 (omega arith) j) (Some (w 15)) None;
      unix_timestamp_nanos = cond (same 22 (omega arith) j) (Some (w 22)) None;
      offset_is_negative = changed b k on 23;
      year_century_is_negative = changed b k on 24;
      iso_year_century_is_negative = changed b k on 25;
      leap_second_allowed = changed b k on 26;
    }

pub flag_is : (b b' : ℕ → Bool) (w : ℕ → ℤ) (k : ℕ) (on : Bool) → 23 ≤ k → ((i : ℕ) → b' i ≡ changed b k on i) →
    build (option_at b' w) b' ≡ put_flag k on (build (option_at b w) b)
flag_is b b' w k on past bits = (λ j. build (option_at (λ i. bits i j) w) (λ i. bits i j)) ∙ flag_changed b w k on past

-- ---- the values that are read

reads_wide : (k : ℕ) (option : ℕ → Option ℤ) (b : ℕ → Bool) →
    ReadsWide k (build option b) (option (suc (suc (suc (suc (suc (suc (suc (suc (suc (suc (suc (suc (suc (suc (suc (suc k)))))))))))))))))
reads_wide zero option b = refl
reads_wide (suc zero) option b = refl
reads_wide (suc (suc zero)) option b = refl
reads_wide (suc (suc (suc zero))) option b = refl
reads_wide (suc (suc (suc (suc zero)))) option b = refl
reads_wide (suc (suc (suc (suc (suc zero))))) option b = refl
reads_wide (suc (suc (suc (suc (suc (suc zero)))))) option b = refl
reads_wide (suc (suc (suc (suc (suc (suc (suc k))))))) option b = tt

reads_clock : (k : ℕ) (option : ℕ → Option ℤ) (b : ℕ → Bool) →
    ReadsClock k (build option b) (option (suc (suc (suc (suc (suc (suc (suc (suc k)))))))))
reads_clock zero option b = refl
reads_clock (suc zero) option b = refl
reads_clock (suc (suc zero)) option b = refl
reads_clock (suc (suc (suc zero))) option b = refl
reads_clock (suc (suc (suc (suc zero)))) option b = refl
reads_clock (suc (suc (suc (suc (suc zero))))) option b = refl
reads_clock (suc (suc (suc (suc (suc (suc zero)))))) option b = refl
reads_clock (suc (suc (suc (suc (suc (suc (suc zero))))))) option b = refl
reads_clock (suc (suc (suc (suc (suc (suc (suc (suc k)))))))) option b = reads_wide k option b

reads_cell : (k : ℕ) (option : ℕ → Option ℤ) (b : ℕ → Bool) → Reads k (build option b) (option k)
reads_cell zero option b = refl
reads_cell (suc zero) option b = refl
reads_cell (suc (suc zero)) option b = refl
reads_cell (suc (suc (suc zero))) option b = refl
reads_cell (suc (suc (suc (suc zero)))) option b = refl
reads_cell (suc (suc (suc (suc (suc zero))))) option b = refl
reads_cell (suc (suc (suc (suc (suc (suc zero)))))) option b = refl
reads_cell (suc (suc (suc (suc (suc (suc (suc zero))))))) option b = refl
reads_cell (suc (suc (suc (suc (suc (suc (suc (suc k)))))))) option b = reads_clock k option b

module _ (mask : ℕ) (bytes shorts words : List ℤ) (stamp : ℤ) where
  abbrev option : ℕ → Option ℤ
  option = option_at (bit mask) (value_at bytes shorts words stamp)

  pub reads_some : (k : ℕ) (r : Record) (x : ℤ) → build option (bit mask) ≡ r → true ≡ bit mask k →
      value_at bytes shorts words stamp k ≡ x → Reads k r (Some x)
  reads_some k r x e there same =
      subst (λ q. Reads k q (Some x)) e
      (subst (λ o. Reads k (build option (bit mask)) o)
      (ap (λ b. cond b (Some (value_at bytes shorts words stamp k)) None) (sym there) ∙ ap Some same)
      (reads_cell k option (bit mask)))

  pub reads_none : (k : ℕ) (r : Record) → build option (bit mask) ≡ r → false ≡ bit mask k → Reads k r None
  reads_none k r e there =
      subst (λ q. Reads k q None) e
      (subst (λ o. Reads k (build option (bit mask)) o)
      (ap (λ b. cond b (Some (value_at bytes shorts words stamp k)) None) (sym there))
      (reads_cell k option (bit mask)))

  pub read_in_cell : (Y : ℕ) → IsSound Y mask bytes shorts words stamp → (k : ℕ) (x : ℤ) → k < 23 → true ≡ bit mask k →
      value_at bytes shorts words stamp k ≡ x → InCell Y k x
  read_in_cell Y sound k x h there same =
      subst (λ v. InCell Y k v) same (subst (λ b. IsCell Y k b (value_at bytes shorts words stamp k)) (sym there) (sound.cells k h))

bits_from_at : (n i mask k : ℕ) → k < n → get_or (bits_from n i mask) k false ≡ bit mask (i + k)
bits_from_at zero i mask k h = absurd (omega (arith, h))
bits_from_at (suc n) i mask zero h = let e : i ≡ i + 0 = omega arith in ap (bit mask) e
bits_from_at (suc n) i mask (suc k) h =
    let e : suc i + k ≡ i + suc k = omega arith in
    bits_from_at n (suc i) mask k (omega (arith, h)) ∙ ap (bit mask) e

-- a bit of the mask is that of the record
pub bit_holds : (mask : ℕ) (bytes shorts words : List ℤ) (stamp : ℤ) (r : Record) (k : ℕ) → k < 27 →
    build (option_at (bit mask) (value_at bytes shorts words stamp)) (bit mask) ≡ r → bit mask k ≡ holds r k
bit_holds mask bytes shorts words stamp r k h e =
    let none : 0 + k ≡ k = omega arith in
    sym (ap (λ bits. get_or bits k false) (bits_back mask bytes shorts words stamp) ∙ bits_from_at 27 0 mask k h ∙ ap (bit mask) none)
    ∙ ap (λ q. holds q k) e

-- ---- the test of three bits

-- the bits of `mask & cells == cells`
all_set : (mask cells : ℕ) → bit_and mask cells ≡ cells → (i : ℕ) → bit cells i ≡ true → bit mask i ≡ true
all_set mask cells h i there =
    let same : bit_at (bit_and mask cells) i ≡ bit_at cells i = ap (λ n. bit_at n i) h in
    eq-eqb (bit_at mask i) 1 (omega (arith, same, bit_at_and mask cells i, eqb-true (bit_at cells i) 1 there, bit_at-lt mask i))

set_all : (mask cells : ℕ) → ((i : ℕ) → bit cells i ≡ true → bit mask i ≡ true) → bit_and mask cells ≡ cells
set_all mask cells all = same_from_bits (bit_and mask cells) cells (λ i. bit_at_and mask cells i ∙ ⊎_elim
    (λ (one : bit_at cells i ≡ 1). omega (arith, one, eqb-true (bit_at mask i) 1 (all i (eq-eqb (bit_at cells i) 1 one))))
    (λ (other : bit_at cells i ≢ 1). omega (arith, other, bit_at-lt cells i))
    (cases_eq (bit_at cells i) 1))

-- the bits of three cells
abbrev three : ℕ → ℕ → ℕ → ℕ → Bool
three a b c = changed (changed (changed (bit 0) a true) b true) c true

changed_there : (f : ℕ → Bool) (k i : ℕ) → f i ≡ true → changed f k true i ≡ true
changed_there f k i h = there (eqb i k) (f i) h
  where
    there : (at x : Bool) → x ≡ true → cond at true x ≡ true
    there true x h = refl
    there false x h = h

three_holds : (mask a b c : ℕ) → bit mask a ≡ true → bit mask b ≡ true → bit mask c ≡ true → (i : ℕ) → three a b c i ≡ true → bit mask i ≡ true
three_holds mask a b c p q r i h = ⊎_elim
    (λ (e : i ≡ c). ap (bit mask) e ∙ r)
    (λ (not_c : i ≢ c). ⊎_elim
    (λ (e : i ≡ b). ap (bit mask) e ∙ q)
    (λ (not_b : i ≢ b). ⊎_elim
    (λ (e : i ≡ a). ap (bit mask) e ∙ p)
    (λ (not_a : i ≢ a).
    let none : bit 0 i ≡ true = sym (changed_other (changed (changed (bit 0) a true) b true) c true i not_c
    ∙ changed_other (changed (bit 0) a true) b true i not_b ∙ changed_other (bit 0) a true i not_a) ∙ h in
    absurd (omega (arith, eqb-true (bit_at 0 i) 1 none, bit_at-zero i)))
    (cases_eq i a))
    (cases_eq i b))
    (cases_eq i c)

all_true : (p q r : Bool) → (p && (q && r)) ≡ true → (p ≡ true) × (q ≡ true) × (r ≡ true)
all_true true true true h = (refl, refl, refl)
all_true true true false h = absurd (false≢true h)
all_true true false r h = absurd (false≢true h)
all_true false q r h = absurd (false≢true h)

both_ways : (p q : Bool) → (p ≡ true → q ≡ true) → (q ≡ true → p ≡ true) → p ≡ q
both_ways true q there back = sym (there refl)
both_ways false true there back = back refl
both_ways false false there back = refl

-- `mask & cells == cells` if and only if the mask has the bits of three cells
pub three_set : (mask cells a b c : ℕ) → ((i : ℕ) → bit cells i ≡ three a b c i) →
    eqb (bit_and mask cells) cells ≡ (bit mask a && (bit mask b && bit mask c))
three_set mask cells a b c bits = both_ways (eqb (bit_and mask cells) cells) (bit mask a && (bit mask b && bit mask c))
    (λ h.
    let all = all_set mask cells (eqb-true (bit_and mask cells) cells h) in
    let one = changed (bit 0) a true in
    let two = changed one b true in
    let p : bit mask a ≡ true = all a (bits a ∙ changed_there two c a (changed_there one b a (changed_same (bit 0) a true a refl))) in
    let q : bit mask b ≡ true = all b (bits b ∙ changed_there two c b (changed_same one b true b refl)) in
    let r : bit mask c ≡ true = all c (bits c ∙ changed_same two c true c refl) in
    (λ j. p j && (q j && r j)))
    (λ h.
    let t = all_true (bit mask a) (bit mask b) (bit mask c) h in
    eq-eqb (bit_and mask cells) cells (set_all mask cells (λ i there. three_holds mask a b c t.0 t.1 t.2 i (sym (bits i) ∙ there))))
