use Rattle.std.specs.Int.{to_le_bytes, w64}
use Rattle.std.proofs.Common.{◌≡◌, ℕ, zero, suc, ◌+◌, ◌-◌, ◌*◌, ◌^◌, ◌/◌, ◌%◌, ◌≤◌, ◌<◌, List, [], ◌∷◌, length, take, refl, ap, sym, ◌∙◌, arith, bit_and, subst, ⊎_elim}
use Rattle.std.proofs.lemmas.Bool.{cases_lt, eqb-true, eq-eqb}
use lib.Dec.{eqb}
use mathlib.Core.Bool.{Bool, true, false, ◌&&◌}
use Rattle.time_digits.specs.Digits.{AllDigits, digits_value}
use Rattle.time_digits.specs.Words.{first_bytes}
use Rattle.time_digits.proofs.WordBytes.{low_first, each, plus, sum_each, each_plus, each-same, length-plus, plus_below, all_below, AllBelow, below_power, bytes-unique, low_halves_below, below_low_halves, below_ten, three_joins, all_joined}
use Rattle.time_digits.proofs.combinator.words.join_word.Goals as goal

-- ---- Bytes of digits

-- the bytes of a word that is moved by `k` bytes
abbrev moved : ℕ → List ℕ → List ℕ
moved zero bytes = bytes
moved (suc k) bytes = 0 ∷ moved k bytes

abbrev Eight : List ℕ → Type 0
Eight (x0 ∷ x1 ∷ x2 ∷ x3 ∷ x4 ∷ x5 ∷ x6 ∷ x7 ∷ []) = Unit {0}
Eight _ = ⊥

moved_below : (k : ℕ) (xs : List ℕ) → AllBelow 10 xs → AllBelow 10 (moved k xs)
moved_below zero xs b = b
moved_below (suc k) xs b = (omega arith, moved_below k xs b)

abbrev decimal : List ℕ → ℕ
decimal [] = 0
decimal (x ∷ xs) = x * 10 ^ length xs + decimal xs

decimal_moved : (k : ℕ) (xs : List ℕ) → decimal (moved k xs) ≡ decimal xs
decimal_moved zero xs = refl
decimal_moved (suc k) xs = let h = decimal_moved k xs in omega arith

digits_value_plus : (xs : List ℕ) → digits_value (plus 48 xs) ≡ decimal xs
digits_value_plus [] = refl
digits_value_plus (x ∷ xs) =
    let e : x + 48 - 48 ≡ x = omega arith in
    rw (e, length-plus 48 xs, digits_value_plus xs) refl

AllDigits-plus : (xs : List ℕ) → AllBelow 10 xs → AllDigits (plus 48 xs)
AllDigits-plus [] b = tt
AllDigits-plus (x ∷ xs) b = ((omega arith, omega (arith, b.0)), AllDigits-plus xs b.1)

-- the values of digits
abbrev values : List ℕ → List ℕ
values [] = []
values (x ∷ xs) = (x - 48) ∷ values xs

values_of : (xs : List ℕ) → AllDigits xs → AllBelow 10 (values xs) × (plus 48 (values xs) ≡ xs)
values_of [] a = (tt, refl)
values_of (x ∷ xs) a =
    let h = values_of xs a.1 in
    let e : x - 48 + 48 ≡ x = omega (arith, a.0.0, a.0.1) in
    ((omega (arith, a.0.0, a.0.1), h.0), rw (e, h.1) refl)

module _ (d0 d1 d2 d3 d4 d5 d6 d7 w : ℕ) (l0 : d0 < 10) (l1 : d1 < 10) (l2 : d2 < 10) (l3 : d3 < 10) (l4 : d4 < 10) (l5 : d5 < 10)
    (l6 : d6 < 10) (l7 : d7 < 10) (e : w ≡ low_first 256 (d0 ∷ d1 ∷ d2 ∷ d3 ∷ d4 ∷ d5 ∷ d6 ∷ d7 ∷ [])) where
  joined : three_joins w
      ≡ d0 * 10 ^ 7 + (d1 * 10 ^ 6 + (d2 * 10 ^ 5 + (d3 * 10 ^ 4 + (d4 * 10 ^ 3 + (d5 * 10 ^ 2 + (d6 * 10 ^ 1 + (d7 * 10 ^ 0 + 0)))))))
  joined = all_joined d0 d1 d2 d3 d4 d5 d6 d7 w l0 l1 l2 l3 l4 l5 l6 l7 e ∙ omega arith

eight : (xs : List ℕ) (w : ℕ) → Eight xs → AllBelow 10 xs → w ≡ low_first 256 xs → three_joins w ≡ decimal xs
eight (x0 ∷ x1 ∷ x2 ∷ x3 ∷ x4 ∷ x5 ∷ x6 ∷ x7 ∷ []) w t (l0, (l1, (l2, (l3, (l4, (l5, (l6, (l7, end)))))))) e =
    joined _ _ _ _ _ _ _ _ _ l0 l1 l2 l3 l4 l5 l6 l7 e
eight xs w t b e = absurd t

-- ---- The first bytes of a word

-- The values pass both masks.
abbrev Masks : ℕ → ℕ → Type 0
Masks v high = (bit_and v high ≡ 0) × (bit_and ((v + 434041037028460038) % 18446744073709551616) high ≡ 0)

-- what the code finds of these bytes, by the masks of their values and by the values moved to the end
abbrev Right : List ℕ → ℕ → ℕ → ℕ → Type 0
Right bytes v high moved =
    (Masks v high → AllDigits bytes × (three_joins moved ≡ digits_value bytes)) × (AllDigits bytes → Masks v high)

-- The place of the first bytes in a word, and of their values in the word of values: the bytes above don't count.
module _ (k places : ℕ) (bs vs : List ℕ) (word v high end word_above above sums_above : ℕ) (bs_below : AllBelow 256 bs) (vs_below : AllBelow 256 vs)
    (as_many : length bs ≡ length vs) (power : 256 ^ length vs ≡ 2 ^ k)
    (mask : high ≡ low_first 256 (each 240 vs)) (mask_within : low_first 256 (each 240 vs) < 2 ^ k)
    (word_is : word ≡ word_above * 2 ^ k + low_first 256 bs) (is : v ≡ above * 2 ^ k + low_first 256 vs)
    (sum : (low : ℕ) → v ≡ above * 2 ^ k + low → low + low_first 256 (each 6 vs) < 2 ^ k
    → (v + 434041037028460038) % 18446744073709551616 ≡ sums_above * 2 ^ k + (low + low_first 256 (each 6 vs)))
    (forth : (low first : ℕ) → v ≡ above * 2 ^ k + low → word ≡ word_above * 2 ^ k + first → first < 2 ^ k
    → low + low_first 256 (each 48 vs) < 2 ^ k → low + low_first 256 (each 48 vs) ≡ first)
    (back : (low first x : ℕ) → v ≡ above * 2 ^ k + low → word ≡ word_above * 2 ^ k + first → low < 2 ^ k → x < 2 ^ k
    → x + low_first 256 (each 48 vs) ≡ first → x ≡ low)
    (moves : end ≡ low_first 256 (moved places vs)) (all : Eight (moved places vs)) where
  -- a list of as many bytes is below the same power
  within : (xs : List ℕ) → length xs ≡ length vs → AllBelow 256 xs → low_first 256 xs < 2 ^ k
  within xs l b = subst (λ p. low_first 256 xs < p) (ap (λ (n : ℕ). 256 ^ n) l ∙ power) (below_power xs b)

  sum_is : AllBelow 16 vs → (v + 434041037028460038) % 18446744073709551616 ≡ sums_above * 2 ^ k + low_first 256 (plus 6 vs)
  sum_is b =
      let e = sum_each 6 vs in
      let w = within (plus 6 vs) (length-plus 6 vs) (plus_below 16 6 256 vs (omega arith) b) in
      sum (low_first 256 vs) is (omega arith) ∙ ap (λ y. sums_above * 2 ^ k + y) e

  ten : Masks v high → AllBelow 10 vs
  ten masks =
      let first : bit_and (above * 2 ^ k + low_first 256 vs) (low_first 256 (each 240 vs)) ≡ 0 = let m = masks.0 in cc in
      let b = low_halves_below k above vs vs_below (within vs refl vs_below) mask_within first in
      let s = sum_is b in
      let p = plus_below 16 6 256 vs (omega arith) b in
      let e = each_plus 240 6 vs in
      let second : bit_and (sums_above * 2 ^ k + low_first 256 (plus 6 vs)) (low_first 256 (each 240 (plus 6 vs))) ≡ 0 = let m = masks.1 in cc in
      let high_within : low_first 256 (each 240 (plus 6 vs)) < 2 ^ k = rw e mask_within in
      below_ten vs (low_halves_below k sums_above (plus 6 vs) p (within (plus 6 vs) (length-plus 6 vs) p) high_within second)

  bytes_are : AllBelow 10 vs → plus 48 vs ≡ bs
  bytes_are b =
      let p = plus_below 10 48 256 vs (omega arith) b in
      let w = within (plus 48 vs) (length-plus 48 vs) p in
      let e = sum_each 48 vs in
      bytes-unique (plus 48 vs) bs (length-plus 48 vs ∙ sym as_many) p bs_below
      (sym e ∙ forth (low_first 256 vs) (low_first 256 bs) is word_is (within bs as_many bs_below) (omega arith))

  values_are : AllDigits bs → AllBelow 10 vs
  values_are a =
      let found = values_of bs a in
      let xs = values bs in
      let l : length xs ≡ length vs = sym (length-plus 48 xs) ∙ ap length found.1 ∙ as_many in
      let b = all_below 10 256 xs (omega arith) found.0 in
      let e : low_first 256 xs + low_first 256 (each 48 vs) ≡ low_first 256 bs =
      ap (λ ys. low_first 256 xs + low_first 256 ys) (each-same 48 vs xs (sym l)) ∙ sum_each 48 xs ∙ ap (low_first 256) found.1 in
      subst (AllBelow 10) (bytes-unique xs vs l b vs_below
      (back (low_first 256 vs) (low_first 256 bs) (low_first 256 xs) is word_is (within vs refl vs_below) (within xs l b) e)) found.0

  masks_of : AllBelow 10 vs → Masks v high
  masks_of b =
      let b16 = all_below 10 16 vs (omega arith) b in
      let p16 = plus_below 10 6 16 vs (omega arith) b in
      let p = plus_below 10 6 256 vs (omega arith) b in
      let s = sum_is b16 in
      let e = each_plus 240 6 vs in
      let high_within : low_first 256 (each 240 (plus 6 vs)) < 2 ^ k = rw e mask_within in
      let m0 = below_low_halves k above vs (within vs refl vs_below) mask_within b16 in
      let m1 = below_low_halves k sums_above (plus 6 vs) (within (plus 6 vs) (length-plus 6 vs) p) high_within p16 in
      (cc, cc)

  right_of : Right bs v high end
  right_of = (
    λ masks.
        let b = ten masks in
        let same = bytes_are b in
        let found = eight (moved places vs) end all (moved_below places vs b) moves in (
          subst AllDigits same (AllDigits-plus vs b),
          found ∙ decimal_moved places vs ∙ sym (digits_value_plus vs) ∙ ap digits_value same,
        ),
    λ a. masks_of (values_are a),
  )

-- the bytes of a word
below_256 : (n : ℕ) → n % 256 < 256
below_256 n = omega arith

bytes_below : (word : ℕ) → AllBelow 256 (to_le_bytes w64 word)
bytes_below word =
    (below_256 _, (below_256 _, (below_256 _, (below_256 _, (below_256 _, (below_256 _, (below_256 _, (below_256 _, tt))))))))

first_below : (word n : ℕ) → AllBelow 256 (first_bytes word n)
first_below word n = taken n (to_le_bytes w64 word) (bytes_below word) where
  taken : (n : ℕ) (xs : List ℕ) → AllBelow 256 xs → AllBelow 256 (take n xs)
  taken zero xs b = tt
  taken (suc n) [] b = tt
  taken (suc n) (x ∷ xs) b = (b.0, taken n xs b.1)

abbrev RightAt : ℕ → ℕ → ℕ → ℕ → Type 0
RightAt word v n s = Right (first_bytes word n) v (17361641481138401520 / 2 ^ s) (v * 2 ^ s % 18446744073709551616)

at : (word v n s k t : ℕ) → k ≡ n → t ≡ s → RightAt word v k t → RightAt word v n s
at word v n s k t e f r = subst (λ (m : ℕ). RightAt word v m s) e (subst (λ (u : ℕ). RightAt word v k u) f r)

module _ (word v : ℕ) (p : word < 2 ^ 64) (q : v < 2 ^ 64) (is : v ≡ (word + 14974415777481871312) % 18446744073709551616) where
  right_4 : RightAt word v 4 32
  right_4 = right_of 32 4 (first_bytes word 4) (first_bytes v 4) word v _ _ (word / 2 ^ 32) (v / 2 ^ 32)
      ((v + 434041037028460038) % 18446744073709551616 / 2 ^ 32)
      (first_below word 4) (first_below v 4) refl refl (omega arith) (omega arith) (omega arith) (omega arith)
      (λ low e b. omega arith) (λ low first e f b d. omega arith) (λ low first x e f b d g. omega arith) (omega arith) tt

  right_5 : RightAt word v 5 24
  right_5 = right_of 40 3 (first_bytes word 5) (first_bytes v 5) word v _ _ (word / 2 ^ 40) (v / 2 ^ 40)
      ((v + 434041037028460038) % 18446744073709551616 / 2 ^ 40)
      (first_below word 5) (first_below v 5) refl refl (omega arith) (omega arith) (omega arith) (omega arith)
      (λ low e b. omega arith) (λ low first e f b d. omega arith) (λ low first x e f b d g. omega arith) (omega arith) tt

  right_6 : RightAt word v 6 16
  right_6 = right_of 48 2 (first_bytes word 6) (first_bytes v 6) word v _ _ (word / 2 ^ 48) (v / 2 ^ 48)
      ((v + 434041037028460038) % 18446744073709551616 / 2 ^ 48)
      (first_below word 6) (first_below v 6) refl refl (omega arith) (omega arith) (omega arith) (omega arith)
      (λ low e b. omega arith) (λ low first e f b d. omega arith) (λ low first x e f b d g. omega arith) (omega arith) tt

  right_7 : RightAt word v 7 8
  right_7 = right_of 56 1 (first_bytes word 7) (first_bytes v 7) word v _ _ (word / 2 ^ 56) (v / 2 ^ 56)
      ((v + 434041037028460038) % 18446744073709551616 / 2 ^ 56)
      (first_below word 7) (first_below v 7) refl refl (omega arith) (omega arith) (omega arith) (omega arith)
      (λ low e b. omega arith) (λ low first e f b d. omega arith) (λ low first x e f b d g. omega arith) (omega arith) tt

  right_8 : RightAt word v 8 0
  right_8 = right_of 64 0 (first_bytes word 8) (first_bytes v 8) word v _ _ 0 0 0
      (first_below word 8) (first_below v 8) refl refl (omega arith) (omega arith) (omega arith) (omega arith)
      (λ low e b. omega arith) (λ low first e f b d. omega arith) (λ low first x e f b d g. omega arith) (omega arith) tt

  right : (n s : ℕ) → 4 ≤ n → n ≤ 8 → s ≡ 64 - 8 * n → RightAt word v n s
  right n s least most e =
      ⊎_elim (λ below. at word v n s 4 32 (omega arith) (omega arith) right_4)
      (λ above. ⊎_elim (λ below. at word v n s 5 24 (omega arith) (omega arith) right_5)
      (λ above. ⊎_elim (λ below. at word v n s 6 16 (omega arith) (omega arith) right_6)
      (λ above. ⊎_elim (λ below. at word v n s 7 8 (omega arith) (omega arith) right_7)
      (λ above. at word v n s 8 0 (omega arith) (omega arith) right_8)
      (cases_lt n 8))
      (cases_lt n 7))
      (cases_lt n 6))
      (cases_lt n 5)

parts : (s t : Bool) → (s && t) ≡ true → (s ≡ true) × (t ≡ true)
parts true true e = (refl, refl)
parts true false e = cc
parts false t e = cc

answers_both : (a b x y : ℕ) → (eqb a b && eqb x y) ≡ true → (a ≡ b) × (x ≡ y)
answers_both a b x y e = let h = parts (eqb a b) (eqb x y) e in (eqb-true a b h.0, eqb-true x y h.1)

both_false : (a b x y : ℕ) → (eqb a b && eqb x y) ≡ false → a ≡ b → x ≡ y → ⊥
both_false a b x y e p q = let f = eq-eqb a b p in let g = eq-eqb x y q in let t : (eqb a b && eqb x y) ≡ true = rw (f, g) refl in cc

pub returns-then-not-are_digits : goal.returns-then-not-are_digits
returns-then-not-are_digits c = λ digits.
    let masks = (right c.args.word _ (omega arith) (omega arith) refl c.args.n (64 - 8 * c.from.result) (omega arith) (omega arith) (omega arith)).1 digits in
    both_false _ _ _ _ c.if-not-are_digits.true masks.0 masks.1

pub returns : goal.returns
returns c =
    let found = (right c.args.word _ (omega arith) (omega arith) refl c.args.n (64 - 8 * c.from.result) (omega arith) (omega arith) (omega arith)).0
    (answers_both _ _ _ _ c.if-not-are_digits.false) in
    found
