-- The first digits of a fraction, and whether they represent all of it.
use Rattle.std.specs.Prelude.{if◌then◌else◌, ◌==◌, ◌||◌}
use Rattle.std.specs.Ordering.{int_eq}
use Rattle.std.proofs.Common.{◌≡◌, ◌≤◌, ◌<◌, ◌+◌, ◌-◌, ◌*◌, ◌^◌, ◌/◌, ◌%◌, ℕ, zero, suc, [], ◌∷◌, length, take, Bool, true, false, refl, sym, ap, subst, ◌∙◌, arith, ℤ, pos, neg_ℤ, int_lt, Some, None, rules}
use Rattle.std.proofs.lemmas.Bool.Decides.{nat_tests}
use Rattle.std.proofs.lemmas.List.{length-append, take-append-le}
use Rattle.std.proofs.Math.Nat.{div-div-eq-div-mul, pow-suc, pow-succ', mul_assoc}
use Rattle.std.proofs.Math.Seq.{take-length}
use Rattle.std.proofs.lemmas.Int.{ints}
use Rattle.time_values.specs.DisplayTexts.{fixed, significant}
use Rattle.time_values.specs.Calendar.{IsBetween}
use Rattle.time_formatting.specs.declared.parts.Unwritable.TheVariants.{Year, OffsetHour, OffsetSecond}

-- their length
pub fixed-length : (k n : ℕ) → length (fixed k n) ≡ k
unfolding fixed
fixed-length zero n = refl
fixed-length (suc k) n =
    let is = fixed-length k (n / 10) in
    length-append (fixed k (n / 10)) ((48 + n % 10) ∷ []) ∙ omega arith

-- one digit less, and then j more
digits_less : (n j : ℕ) → n / 10 / 10 ^ j ≡ n / 10 ^ suc j
digits_less n j = div-div-eq-div-mul n 10 (10 ^ j) ∙ ap (λ p. n / p) (sym (pow-succ' 10 j))

-- the first k of m digits are those of the number without its last j
pub take-fixed : (j k m n : ℕ) → m ≡ k + j → take k (fixed m n) ≡ fixed k (n / 10 ^ j)
unfolding fixed
take-fixed zero k m n is =
    let same : k ≡ m = omega (arith, is) in
    let long = fixed-length k n in
    let one : n ≡ n / 10 ^ 0 = omega arith in
    subst (λ i. take k (fixed i n) ≡ fixed k (n / 10 ^ 0)) same
    (ap (λ i. take i (fixed k n)) (sym long) ∙ take-length (fixed k n) ∙ ap (λ i. fixed k i) one)
take-fixed (suc j) k zero n is = absurd (omega (arith, is))
take-fixed (suc j) k (suc m) n is =
    let long = fixed-length m (n / 10) in
    take-append-le k (fixed m (n / 10)) ((48 + n % 10) ∷ []) (omega (arith, is, long))
    ∙ take-fixed j k m (n / 10) (omega (arith, is)) ∙ ap (λ i. fixed k i) (digits_less n j)

-- a number without its last j digits has k of them
pub front-below : (j k m n : ℕ) → m ≡ k + j → n < 10 ^ m → n / 10 ^ j < 10 ^ k
front-below zero k m n is below =
    let same : m ≡ k = omega (arith, is) in
    let one : n ≡ n / 10 ^ 0 = omega arith in
    subst (λ i. i < 10 ^ k) one (subst (λ i. n < 10 ^ i) same below)
front-below (suc j) k zero n is below = absurd (omega (arith, is))
front-below (suc j) k (suc m) n is below =
    subst (λ i. i < 10 ^ k) (digits_less n j) (front-below j k m (n / 10) (omega (arith, is)) (omega (arith, below)))

-- no digit is cut off
none-cut : (n j : ℕ) → j ≡ 0 → n / 10 ^ j * 10 ^ j ≡ n
none-cut n zero is = omega arith
none-cut n (suc j) is = absurd (omega (arith, is))

-- at most all digits count
pub significant-bound : (m n : ℕ) → significant m n ≤ m
unfolding significant
significant-bound zero n = omega arith
significant-bound (suc m) n = let less = significant-bound m (n / 10) in by_digit (n % 10 == 0) less
  where
    by_digit : (b : Bool) → significant m (n / 10) ≤ m → (if b then significant m (n / 10) else suc m) ≤ suc m
    by_digit true less = omega (arith, less)
    by_digit false less = omega arith

-- one more zero is cut off
zero-cut : (n j : ℕ) → n % 10 ≡ 0 → n / 10 / 10 ^ j * 10 ^ j ≡ n / 10 → n / 10 ^ suc j * 10 ^ suc j ≡ n
zero-cut n j digit is =
    ap (λ p. n / 10 ^ suc j * p) (pow-suc 10 j) ∙ sym (mul_assoc (n / 10 ^ suc j) (10 ^ j) 10)
    ∙ ap (λ q. q * 10 ^ j * 10) (sym (digits_less n j)) ∙ ap (λ q. q * 10) is ∙ omega (arith, digit)

-- one more digit is cut off, by whether it is 0
by_last : (b : Bool) (m n j : ℕ) → ((i : ℕ) → m ≡ significant m (n / 10) + i → n / 10 / 10 ^ i * 10 ^ i ≡ n / 10)
    → (n % 10 == 0) ≡ b → suc m ≡ (if b then significant m (n / 10) else suc m) + j → n / 10 ^ j * 10 ^ j ≡ n
by_last true m n zero before last is = none-cut n zero refl
by_last true m n (suc j) before last is =
    let digit : n % 10 ≡ 0 = grind (arith, nat_tests) in
    zero-cut n j digit (before j (omega (arith, is)))
by_last false m n j before last is = none-cut n j (omega (arith, is))

-- the zeros at the end that don't count are those that are cut off
pub zeros-cut : (m n j : ℕ) → m ≡ significant m n + j → n / 10 ^ j * 10 ^ j ≡ n
unfolding significant
zeros-cut zero n j is = none-cut n j (omega (arith, is))
zeros-cut (suc m) n j is = by_last (n % 10 == 0) m n j (λ i. zeros-cut m (n / 10) i) refl is

-- all digits up to the last that counts represent the number
pub keeps-auto : (n : ℕ) → n / 10 ^ (9 - significant 9 n) * 10 ^ (9 - significant 9 n) ≡ n
keeps-auto n = let bound = significant-bound 9 n in zeros-cut 9 n (9 - significant 9 n) (omega (arith, bound))

-- ---- Conditions of a text

pub writable_3339 : (y h s : ℤ)
    → (if int_lt y (pos 0) || int_lt (pos 9999) y then Some Year else
    if int_lt h (neg_ℤ (pos 23)) || int_lt (pos 23) h then Some OffsetHour else
    if int_eq s (pos 0) then None else Some OffsetSecond) ≡ None
    → IsBetween (pos 0) (pos 9999) y
writable_3339 y h s is = search rules

-- a moment that satisfies the conditions of a text has no error
pub none_3339 : (y h s : ℤ) → IsBetween (pos 0) (pos 9999) y → IsBetween (neg_ℤ (pos 23)) (pos 23) h → s ≡ pos 0
    → (if int_lt y (pos 0) || int_lt (pos 9999) y then Some Year else
    if int_lt h (neg_ℤ (pos 23)) || int_lt (pos 23) h then Some OffsetHour else
    if int_eq s (pos 0) then None else Some OffsetSecond) ≡ None
none_3339 y h s is_y is_h is_s = search rules

-- the first error of a moment that has one
pub first_3339 : (y h s : ℤ) → ¬ (IsBetween (pos 0) (pos 9999) y × IsBetween (neg_ℤ (pos 23)) (pos 23) h × (s ≡ pos 0))
    → Some (if int_lt y (pos 0) || int_lt (pos 9999) y then Year else
    if int_lt h (neg_ℤ (pos 23)) || int_lt (pos 23) h then OffsetHour else OffsetSecond)
    ≡ (if int_lt y (pos 0) || int_lt (pos 9999) y then Some Year else
    if int_lt h (neg_ℤ (pos 23)) || int_lt (pos 23) h then Some OffsetHour else
    if int_eq s (pos 0) then None else Some OffsetSecond)
first_3339 y h s is = search rules

writable_mail : (y s : ℤ)
    → (if int_lt y (pos 1900) || int_lt (pos 9999) y then Some Year else if int_eq s (pos 0) then None else Some OffsetSecond) ≡ None
    → IsBetween (pos 1900) (pos 9999) y
writable_mail y s is = search rules

pub writable_2822 : (y s : ℤ)
    → (if int_lt y (pos 1900) || int_lt (pos 9999) y then Some Year else if int_eq s (pos 0) then None else Some OffsetSecond) ≡ None
    → IsBetween (pos 0) (pos 9999) y
writable_2822 y s is = omega (arith, ints, writable_mail y s is)
