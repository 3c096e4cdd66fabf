-- The first place of a byte and of a text.
use Rattle.std.proofs.Common.{false, refl, take, ◌≡◌, ℕ, zero, suc, ◌+◌, ◌-◌, ◌/◌, ◌%◌, ◌^◌, ◌<◌, ◌≤◌, Bool, true, not, List, [], ◌∷◌, length, map, get_or, replicate, drop, bit_and, sym, ap, arith, add-one, get_or-drop, length-drop, ◌∙◌, None, Some, Option}
use lib.Count.{count_trailing_zeros}
use lib.Lanes.{chunk, zip2, mask_l, top}
use Rattle.std.specs.List.{position_or_len, prefix_len}
use Rattle.std.specs.Option.{option_map}
use Rattle.std.proofs.lemmas.Bool.{not-true, both_ways, false_from_ne_true}
use Rattle.std.proofs.lemmas.List.{length-map}
use Rattle.std.proofs.lemmas.List.Sums.{position_or_len_is, prefix_len-le-length, prefix_len_passes}
use Rattle.std.proofs.lemmas.Simd.{length-zip2, get_or-zip2, length-replicate, get_or-replicate, length-chunk, get_or-chunk, mask_l-mod, leading_from_mask_l, trailing_mask_l}
use Rattle.std.proofs.lemmas.Bool.Decides.{nat_tests}
use Rattle.memchr.specs.Find.{Nowhere, IsFirst, Passes, IsFirstByte, is_byte, OccursAt, occurs_at, FindsNeedle}
use Rattle.memchr.proofs.lemmas.MatchLemmas.{occurs_at-true, OccursAt-true}
use Rattle.memchr.proofs.lemmas.FindLemmas.{Nowhere-wider, Nowhere-then}
use Rattle.restamp_place.specs.Places.{place_of}
use Rattle.restamp_place.proofs.WordLemmas.{tail_range}

-- no byte passes a test
pub position_or_len-none : (test : ℕ → Bool) (xs : List ℕ) → ((k : ℕ) → k < length xs → test (get_or xs k 0) ≡ false)
    → position_or_len test xs ≡ length xs
position_or_len-none test xs none = position_or_len_is test xs (length xs) 0 (omega arith) none (λ below. absurd (omega arith))

-- where a loop over bytes ends
pub ruleset first_places = (position_or_len_is, position_or_len-none)

-- a text in the rest of the bytes is one byte further on in all of them
OccursAt-tail : (x : ℕ) (bytes text : List ℕ) (n : ℕ) → OccursAt (x ∷ bytes) text (suc n) → OccursAt bytes text n
OccursAt-tail x bytes text n h = grind arith

OccursAt-onto : (x : ℕ) (bytes text : List ℕ) (n : ℕ) → OccursAt bytes text n → OccursAt (x ∷ bytes) text (suc n)
OccursAt-onto x bytes text n h = grind arith

-- the bytes start with the text
pub place_of-front : (text bytes : List ℕ) → occurs_at bytes text 0 ≡ true → place_of text bytes ≡ Some 0
place_of-front text [] h = rw h
place_of-front text (x ∷ bytes) h = rw h

place_of-later : (x : ℕ) (text bytes : List ℕ) → (OccursAt (x ∷ bytes) text 0 → ⊥)
    → place_of text (x ∷ bytes) ≡ option_map (λ n. n + 1) (place_of text bytes)
place_of-later x text bytes ne =
    rw (false_from_ne_true (occurs_at (x ∷ bytes) text 0) (λ h. ne (OccursAt-true (x ∷ bytes) text 0 h)))

pub place_of-found : (text bytes : List ℕ) (n : ℕ)
    → OccursAt bytes text n → ((k : ℕ) → k < n → OccursAt bytes text k → ⊥) → place_of text bytes ≡ Some n
place_of-found text bytes zero h before = place_of-front text bytes (occurs_at-true bytes text 0 h)
place_of-found text [] (suc n) h before = absurd (omega (arith, h.fits))
place_of-found text (x ∷ bytes) (suc n) h before =
    let later = place_of-found text bytes n (OccursAt-tail x bytes text n h)
    (λ k below is. before (suc k) (omega arith) (OccursAt-onto x bytes text k is)) in
    rw (place_of-later x text bytes (before 0 (omega arith)), later, add-one)

pub place_of-nowhere : (text bytes : List ℕ) → ((k : ℕ) → k < length bytes + 1 → OccursAt bytes text k → ⊥) → place_of text bytes ≡ None
place_of-nowhere text [] before = rw (false_from_ne_true (occurs_at [] text 0) (λ h. before 0 (omega arith) (OccursAt-true [] text 0 h)))
place_of-nowhere text (x ∷ bytes) before =
    let later = place_of-nowhere text bytes (λ k below is. before (suc k) (omega arith) (OccursAt-onto x bytes text k is)) in
    rw (place_of-later x text bytes (before 0 (omega arith)), later)

-- the result of a search for a text
pub place_of-is : (text bytes : List ℕ) (r : Option ℕ) → FindsNeedle bytes text 0 r → r ≡ place_of text bytes
place_of-is text bytes None nowhere = sym (place_of-nowhere text bytes (λ k below is. nowhere k (omega arith) below is))
place_of-is text bytes (Some n) first =
    sym (place_of-found text bytes n first.1 (λ k below is. first.0.before k (omega arith) below is))

-- the result of a test whether the rest of the bytes starts with a text
pub begins-stands : (text bytes : List ℕ) (n : ℕ) (found : Bool) → found ≡ occurs_at (take (length bytes - n) (drop n bytes)) text 0
    → n ≤ length bytes → found ≡ true → OccursAt bytes text n
begins-stands text bytes n found is inside e =
    let h = OccursAt-true (drop n bytes) text 0 (rw tail_range at (sym is ∙ e)) in
    record { fits = omega (arith, h.fits, length-drop n bytes); reads = grind (arith, h.reads, get_or-drop {A = ℕ}) }

pub stands-begins : (text bytes : List ℕ) (n : ℕ) (found : Bool) → found ≡ occurs_at (take (length bytes - n) (drop n bytes)) text 0
    → OccursAt bytes text n → found ≡ true
stands-begins text bytes n found is h =
    let here : OccursAt (drop n bytes) text 0 =
    record { fits = omega (arith, h.fits, length-drop n bytes); reads = grind (arith, h.reads, get_or-drop {A = ℕ}) } in
    rw (is, tail_range) (occurs_at-true (drop n bytes) text 0 here)

-- a byte of a text at its place
byte_at : (text bytes : List ℕ) (n i j : ℕ) → OccursAt bytes text n → j < length text → n + j ≡ i → get_or bytes i 0 ≡ get_or text j 0
byte_at text bytes n i j h below is = grind arith

-- the first byte of a text at its place
pub stands-first : (text bytes : List ℕ) (n : ℕ) → OccursAt bytes text n → 0 < length text → get_or bytes n 0 ≡ get_or text 0 0
stands-first text bytes n h some = byte_at text bytes n n 0 h some (omega arith)

half_below : (n : ℕ) → 0 < n → n / 2 < n
half_below n some = omega arith

-- sixteen bytes, joined with others by `&`
length-both : (xs ys : List ℕ) → length xs ≡ 16 → length ys ≡ 16 → length (zip2 bit_and xs ys) ≡ 16
length-both xs ys m n = rw (length-zip2 bit_and xs ys (rw (m, n)), m)

both_set : (xs ys : List ℕ) (k : ℕ) → length xs ≡ 16 → length ys ≡ 16 → k < 16 → get_or xs k 0 ≡ 255 → get_or ys k 0 ≡ 255
    → get_or (zip2 bit_and xs ys) k 0 ≡ 255
both_set xs ys k m n below p q = rw (get_or-zip2 bit_and xs ys k 0 0 0 (omega arith) (omega arith), p, q)

-- sixteen bytes compared with one, where equal bytes result in 255
module _ (hit : ℕ → ℕ → ℕ) (same : (x : ℕ) → hit x x ≡ 255) (bytes : List ℕ) where
  abbrev lanes : ℕ → ℕ → List ℕ
  lanes i x = zip2 hit (chunk i 16 bytes) (replicate 16 x)

  length-lanes : (i x : ℕ) → i + 16 ≤ length bytes → length (lanes i x) ≡ 16
  length-lanes i x room =
      let long = length-chunk i 16 bytes room in rw (length-zip2 hit (chunk i 16 bytes) (replicate 16 x) (rw (long, length-replicate)), long)

  lane_at : (i x j : ℕ) → i + 16 ≤ length bytes → j < 16 → get_or bytes (i + j) 0 ≡ x → get_or (lanes i x) j 0 ≡ 255
  lane_at i x j room below is =
      rw (
        get_or-zip2 hit (chunk i 16 bytes) (replicate 16 x) j 0 0 0 (omega (arith, length-chunk i 16 bytes room)) (omega (arith, length-replicate 16 x)),
        get_or-chunk i 16 bytes j 0 below,
        is,
        get_or-replicate 16 j x 0 below,
        same,
      )

  -- the first byte of a text, one in its middle and its last at sixteen places
  module _ (text : List ℕ) (at : ℕ) (some : 0 < length text) (room : at + 15 + length text ≤ length bytes) where
    abbrev lanes_of : ℕ → List ℕ
    lanes_of j = lanes (at + j) (get_or text j 0)

    abbrev two : List ℕ
    two = zip2 bit_and (lanes at (get_or text 0 0)) (lanes_of (length text / 2))

    abbrev three : List ℕ
    three = zip2 bit_and two (lanes_of (length text - 1))

    length-first : length (lanes at (get_or text 0 0)) ≡ 16
    length-first = length-lanes at _ (omega arith)

    length-of : (j : ℕ) → j < length text → length (lanes_of j) ≡ 16
    length-of j below = length-lanes (at + j) _ (omega arith)

    length-middle : length (lanes_of (length text / 2)) ≡ 16
    length-middle = length-of (length text / 2) (half_below (length text) some)

    length-last : length (lanes_of (length text - 1)) ≡ 16
    length-last = length-of (length text - 1) (omega arith)

    length-two : length two ≡ 16
    length-two = length-both _ _ length-first length-middle

    length-three : length three ≡ 16
    length-three = length-both two _ length-two length-last

    lane_set : (i k j : ℕ) → i ≡ at + j → at ≤ k → k < at + 16 → OccursAt bytes text k → j < length text
        → get_or (lanes i (get_or text j 0)) (k - at) 0 ≡ 255
    lane_set i k j there low below is inside =
        lane_at i _ (k - at) (omega arith) (omega arith) (byte_at text bytes k (i + (k - at)) j is inside (omega arith))

    all_set : (k : ℕ) → at ≤ k → k < at + 16 → OccursAt bytes text k → top 7 (get_or three (k - at) 0) ≡ true
    all_set k low below is =
        let first = lane_set at k 0 (omega arith) low below is some in
        let middle = lane_set (at + length text / 2) k (length text / 2) refl low below is (half_below (length text) some) in
        let last = lane_set (at + (length text - 1)) k (length text - 1) refl low below is (omega arith) in
        let front = both_set _ _ (k - at) length-first length-middle (omega arith) first middle in
        rw (both_set two _ (k - at) length-two length-last (omega arith) front last)

    abbrev mask : ℕ
    mask = mask_l (map (top 7) three) % 2 ^ 64

    mask_is : mask ≡ mask_l (map (top 7) three)
    mask_is = mask_l-mod (map (top 7) three) 64 (omega (arith, length-three, length-map three (top 7)))

    abbrev clear : ℕ
    clear = prefix_len (λ lane. not (top 7 lane)) three

    clear-le : clear ≤ 16
    clear-le = omega (arith, prefix_len-le-length (λ lane. not (top 7 lane)) three, length-three)

    before_clear : Nowhere (OccursAt bytes text) at (at + clear)
    before_clear k low below is =
        both_ways _ (not-true _ (prefix_len_passes (λ lane. not (top 7 lane)) three (k - at) 0 (omega arith)))
        (all_set k low (omega (arith, clear-le)) is)

    -- no lane is set in all three
    pub unset-nowhere : mask ≡ 0 → Nowhere (OccursAt bytes text) at (at + 16)
    unset-nowhere none k low below =
        before_clear k low (omega (arith, leading_from_mask_l (top 7) three (sym mask_is ∙ none), length-three))

    first_is : 0 < mask → count_trailing_zeros 64 mask ≡ clear
    first_is set = ap (count_trailing_zeros 64) mask_is ∙ trailing_mask_l (top 7) 64 three (omega (arith, length-three)) (omega (arith, mask_is))

    -- the first lane that is set in all three
    pub first-le : 0 < mask → count_trailing_zeros 64 mask ≤ 16
    first-le set = omega (arith, first_is set, clear-le)

    pub first-nowhere : 0 < mask → Nowhere (OccursAt bytes text) at (at + count_trailing_zeros 64 mask)
    first-nowhere set k low below = before_clear k low (omega (arith, first_is set))

-- the first of some places, if the text occurs at no place before them
pub first_further : (text bytes : List ℕ) (i m j l : ℕ) (r : Option ℕ) → Nowhere (OccursAt bytes text) i m → IsFirst (OccursAt bytes text) m j r
    → i ≤ m → j ≤ l → length bytes < j + length text → IsFirst (OccursAt bytes text) i l r
first_further text bytes i m j l None none nowhere low high room =
    Nowhere-wider l (λ k is. omega (arith, is.fits, room)) (Nowhere-then none nowhere)
first_further text bytes i m j l (Some n) none first low high room =
    (record { low = omega (arith, first.0.low); high = omega (arith, first.0.high); before = Nowhere-then none first.0.before }, first.1)

-- a text of one byte is where that byte is
module _ (text bytes : List ℕ) (one : length text ≡ 1) where
  stands-byte : (n : ℕ) → n < length bytes → Passes (is_byte (get_or text 0 0)) bytes n → OccursAt bytes text n
  stands-byte n below here = grind (arith, nat_tests)

  byte-stands : (n : ℕ) → OccursAt bytes text n → Passes (is_byte (get_or text 0 0)) bytes n
  byte-stands n h = grind (arith, nat_tests)

  -- the result of a search for that byte
  pub place_of-byte : (r : Option ℕ) → IsFirstByte (is_byte (get_or text 0 0)) bytes r → r ≡ place_of text bytes
  place_of-byte None nowhere =
      place_of-is text bytes None (λ k low below is. let fits = is.fits in nowhere k low (omega arith) (byte-stands k is))
  place_of-byte (Some n) first =
      let inside = first.0.high in
      place_of-is text bytes (Some n) (
        record { low = omega arith; high = omega arith; before = λ k low below is. first.0.before k low below (byte-stands k is) },
        stands-byte n inside first.1,
      )

-- where a search for a text ends
pub ruleset text_places = (place_of-is, place_of-front, place_of-nowhere)
