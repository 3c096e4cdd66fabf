-- Texts that are joined: if they are equal, so are their parts.
use Rattle.std.specs.Prelude.{◌||◌, if◌then◌else◌, ◌==◌, int_lt, nat_lt, max, ◌&&◌}
use Rattle.std.specs.Fmt.{decimal, signed_decimal}
use Rattle.std.specs.Str.Parse.{digits_value, AllDigits}
use Rattle.std.specs.Ordering.{int_eq}
use Rattle.std.proofs.Common.{◌≡◌, ◌≢◌, ◌<◌, ◌+◌, ◌^◌, ◌/◌, ◌%◌, ℕ, zero, suc, List, [], ◌∷◌, ◌++◌, length, refl, ap, ⊎_elim, ◌⊎◌, arith, rules, ◌≤◌, ◌-◌, ◌*◌, ℤ, pos, negsuc, unsigned_abs, Bool, true, false, take, get_or, sym, subst, ◌∙◌, inl, inr, codes, ◌+ℤ◌, ◌<ℤ◌, ◌≤ℤ◌}
use Rattle.std.proofs.lemmas.List.{length-append, length-take-le}
use Rattle.std.proofs.lemmas.Bool.Decides.{nat_tests}
use Rattle.std.proofs.lemmas.Fmt.{decimal_is_IsNumeral_wide}
use Rattle.std.proofs.lemmas.Str.Parse.{digit_from_value}
use Rattle.std.proofs.lemmas.Int.{ints}
use Rattle.time_values.specs.DisplayTexts.{fixed, significant, fraction_display, magnitude_display, year_sign_display, hour_display}
use Rattle.time_values.specs.Sign.{signed_by, same_sign, HasOneSign}
use Rattle.time_formatting.proofs.KeptDigits.{fixed-length, take-fixed, front-below, significant-bound, zeros-cut}

-- if their prefixes have one length
pub same_fronts : (a b c d : List ℕ) → length a ≡ length b → a ++ c ≡ b ++ d → (a ≡ b) × (c ≡ d)
same_fronts [] [] c d long e = (refl, e)
same_fronts [] (y ∷ b) c d long e = absurd (omega (arith, long))
same_fronts (x ∷ a) [] c d long e = absurd (omega (arith, long))
same_fronts (x ∷ a) (y ∷ b) c d long e =
    let first : x ≡ y = cc in
    let others : a ++ c ≡ b ++ d = cc in
    let parts = same_fronts a b c d (omega (arith, long)) others in
    let fronts : a ≡ b = parts.0 in
    (let whole : x ∷ a ≡ y ∷ b = cc in whole, parts.1)

-- if their ends have one length
pub same_ends : (a b c d : List ℕ) → length c ≡ length d → a ++ c ≡ b ++ d → (a ≡ b) × (c ≡ d)
same_ends a b c d long e =
    same_fronts a b c d (omega (arith, long, length-append a c, length-append b d, ap length e)) e

-- the text doesn't contain that byte
pub Lacks : ℕ → List ℕ → Type 0
Lacks c [] = Unit {0}
Lacks c (x ∷ xs) = (x ≢ c) × Lacks c xs

-- if they are split at the first byte of that kind
pub same_to : (c : ℕ) (a b x y : List ℕ) → Lacks c a → Lacks c b → a ++ c ∷ x ≡ b ++ c ∷ y → (a ≡ b) × (x ≡ y)
unfolding Lacks
same_to c [] [] x y none free e = (refl, let others : x ≡ y = cc in others)
same_to c [] (q ∷ b) x y none free e = absurd (free.0 (let first : q ≡ c = cc in first))
same_to c (p ∷ a) [] x y none free e = absurd (none.0 (let first : p ≡ c = cc in first))
same_to c (p ∷ a) (q ∷ b) x y none free e =
    let first : p ≡ q = cc in
    let others : a ++ c ∷ x ≡ b ++ c ∷ y = cc in
    let parts = same_to c a b x y none.1 free.1 others in
    let fronts : a ≡ b = parts.0 in
    (let whole : p ∷ a ≡ q ∷ b = cc in whole, parts.1)

pub Lacks-append : (c : ℕ) (a b : List ℕ) → Lacks c a → Lacks c b → Lacks c (a ++ b)
unfolding Lacks
Lacks-append c [] b none free = free
Lacks-append c (x ∷ a) b none free = (none.0, Lacks-append c a b none.1 free)

pub Lacks-one : (c x : ℕ) → x ≢ c → Lacks c (x ∷ [])
unfolding Lacks
Lacks-one c x other = (other, tt)

-- a text without a byte doesn't begin with it
pub Lacks-first : (c : ℕ) (x a : List ℕ) → Lacks c x → c ∷ a ≡ x → ⊥
unfolding Lacks
Lacks-first c [] a none e = absurd (cc)
Lacks-first c (y ∷ x) a none e = none.0 (let first : y ≡ c = cc in first)

-- digits contain no byte that isn't a digit
pub fixed-lacks : (c k n : ℕ) → (c < 48) ⊎ (57 < c) → Lacks c (fixed k n)
unfolding fixed Lacks
fixed-lacks c zero n other = tt
fixed-lacks c (suc k) n other =
    Lacks-append c (fixed k (n / 10)) ((48 + n % 10) ∷ []) (fixed-lacks c k (n / 10) other)
    (Lacks-one c (48 + n % 10) (λ e. ⊎_elim (λ low. omega arith) (λ high. omega arith) other))

-- equal texts of k digits represent one number
pub fixed-same : (k m n : ℕ) → m < 10 ^ k → n < 10 ^ k → fixed k m ≡ fixed k n → m ≡ n
unfolding fixed
fixed-same zero m n small few e = omega (arith, small, few)
fixed-same (suc k) m n small few e =
    let parts = same_ends (fixed k (m / 10)) (fixed k (n / 10)) ((48 + m % 10) ∷ []) ((48 + n % 10) ∷ []) refl e in
    let fronts = fixed-same k (m / 10) (n / 10) (omega (arith, small)) (omega (arith, few)) parts.0 in
    let last : 48 + m % 10 ≡ 48 + n % 10 = cc in
    omega (arith, fronts, last)

-- ---- Parts of values that print alike are equal

-- the digits of a year are its last k digits, for some k
magnitude-fixed : (n : ℕ) → n < 10 ^ 6 → (k : ℕ) × (n < 10 ^ k) × (magnitude_display n ≡ fixed k n)
magnitude-fixed n small = by_four (nat_lt n 10_000) refl
  where
    by_five : (b : Bool) → nat_lt n 10_000 ≡ false → nat_lt n 100_000 ≡ b → (k : ℕ) × (n < 10 ^ k) × (magnitude_display n ≡ fixed k n)
    by_five true not_four five = (5, grind (arith, nat_tests), rw (not_four, five) refl)
    by_five false not_four not_five = (6, small, rw (not_four, not_five) refl)

    by_four : (b : Bool) → nat_lt n 10_000 ≡ b → (k : ℕ) × (n < 10 ^ k) × (magnitude_display n ≡ fixed k n)
    by_four true four = (4, grind (arith, nat_tests), rw four refl)
    by_four false not_four = by_five (nat_lt n 100_000) not_four refl

magnitude-same : (m n : ℕ) → m < 10 ^ 6 → n < 10 ^ 6 → magnitude_display m ≡ magnitude_display n → m ≡ n
magnitude-same m n small few e =
    let one = magnitude-fixed m small in
    let other = magnitude-fixed n few in
    let texts : fixed one.0 m ≡ fixed other.0 n = sym one.2 ∙ e ∙ other.2 in
    let long : one.0 ≡ other.0 = sym (fixed-length one.0 m) ∙ ap length texts ∙ fixed-length other.0 n in
    fixed-same one.0 m n one.1 (subst (λ k. n < 10 ^ k) (sym long) other.1)
    (texts ∙ ap (λ k. fixed k n) (sym long))

pub magnitude-lacks : (c n : ℕ) → n < 10 ^ 6 → (c < 48) ⊎ (57 < c) → Lacks c (magnitude_display n)
magnitude-lacks c n small other =
    let one = magnitude-fixed n small in
    subst (Lacks c) (sym one.2) (fixed-lacks c one.0 n other)

not_below : (m : ℕ) → int_lt (pos m) (pos 0) ≡ false
not_below m = search rules

-- a year and its sign
abbrev pub year_shown : ℤ → List ℕ
year_shown y = year_sign_display y ++ magnitude_display (unsigned_abs y)

abbrev later_shown : Bool → ℕ → List ℕ
later_shown b m = (if b then codes "+" else []) ++ magnitude_display m

year-later : (m : ℕ) → year_shown (pos m) ≡ later_shown (int_lt (pos 9999) (pos m)) m
year-later m = rw (not_below m) refl

later-same : (b c : Bool) (m n : ℕ) → m < 10 ^ 6 → n < 10 ^ 6 → later_shown b m ≡ later_shown c n → m ≡ n
later-same true true m n small few e = magnitude-same m n small few (let digits : magnitude_display m ≡ magnitude_display n = cc in digits)
later-same true false m n small few e = absurd (Lacks-first 43 (magnitude_display n) (magnitude_display m) (magnitude-lacks 43 n few (inl (omega arith))) e)
later-same false true m n small few e =
    absurd (Lacks-first 43 (magnitude_display m) (magnitude_display n) (magnitude-lacks 43 m small (inl (omega arith))) (sym e))
later-same false false m n small few e = magnitude-same m n small few e

no_minus : (b : Bool) (m : ℕ) (a : List ℕ) → m < 10 ^ 6 → 45 ∷ a ≡ later_shown b m → ⊥
no_minus true m a small e = let first : ◌≡◌ {A = ℕ} 45 43 = ap (λ t. get_or t 0 0) e in omega (arith, first)
no_minus false m a small e = Lacks-first 45 (magnitude_display m) a (magnitude-lacks 45 m small (inl (omega arith))) e

pub year-same : (y z : ℤ) → unsigned_abs y < 10 ^ 6 → unsigned_abs z < 10 ^ 6 → year_shown y ≡ year_shown z → y ≡ z
year-same (pos m) (pos n) small few e =
    ap pos (later-same (int_lt (pos 9999) (pos m)) (int_lt (pos 9999) (pos n)) m n small few (sym (year-later m) ∙ e ∙ year-later n))
year-same (pos m) (negsuc n) small few e =
    absurd (no_minus (int_lt (pos 9999) (pos m)) m (magnitude_display (suc n)) small (sym e ∙ year-later m))
year-same (negsuc m) (pos n) small few e =
    absurd (no_minus (int_lt (pos 9999) (pos n)) n (magnitude_display (suc m)) few (e ∙ year-later n))
year-same (negsuc m) (negsuc n) small few e =
    let same : suc m ≡ suc n = magnitude-same (suc m) (suc n) small few (let digits : magnitude_display (suc m) ≡ magnitude_display (suc n) = cc in digits) in
    let less : m ≡ n = cc in
    ap negsuc less

pub year-lacks : (y : ℤ) → unsigned_abs y < 10 ^ 6 → Lacks 32 (year_shown y)
year-lacks (pos m) small = subst (Lacks 32) (sym (year-later m)) (by_sign (int_lt (pos 9999) (pos m)))
  where
    by_sign : (b : Bool) → Lacks 32 (later_shown b m)
    by_sign true = Lacks-append 32 (43 ∷ []) (magnitude_display m) (Lacks-one 32 43 (λ e. omega (arith, e))) (magnitude-lacks 32 m small (inl (omega arith)))
    by_sign false = magnitude-lacks 32 m small (inl (omega arith))
year-lacks (negsuc m) small =
    Lacks-append 32 (45 ∷ []) (magnitude_display (suc m)) (Lacks-one 32 45 (λ e. omega (arith, e))) (magnitude-lacks 32 (suc m) small (inl (omega arith)))

-- an hour before its colon
hour-lacks : (h : ℕ) → h < 24 → Lacks 58 (hour_display h)
hour-lacks h small = by_ten (nat_lt h 10) refl
  where
    by_ten : (b : Bool) → nat_lt h 10 ≡ b → Lacks 58 (hour_display h)
    by_ten true less = let few : h < 10 = grind (arith, nat_tests) in rw less (Lacks-one 58 (48 + h) (λ e. omega (arith, e, few)))
    by_ten false more = rw more (fixed-lacks 58 2 h (inr (omega arith)))

pub hour-same : (h g : ℕ) (x y : List ℕ) → h < 24 → g < 24 → hour_display h ++ 58 ∷ x ≡ hour_display g ++ 58 ∷ y → (h ≡ g) × (x ≡ y)
hour-same h g x y small few e =
    let parts = same_to 58 (hour_display h) (hour_display g) x y (hour-lacks h small) (hour-lacks g few) e in
    (by_ten (nat_lt h 10) (nat_lt g 10) refl refl parts.0, parts.1)
  where
    by_ten : (b c : Bool) → nat_lt h 10 ≡ b → nat_lt g 10 ≡ c → hour_display h ≡ hour_display g → h ≡ g
    by_ten true true less low e =
        let bytes : (48 + h) ∷ [] ≡ (48 + g) ∷ [] = rw (less, low) at e in
        let byte : 48 + h ≡ 48 + g = cc in
        omega (arith, byte)
    by_ten true false less high e =
        let bytes : (48 + h) ∷ [] ≡ fixed 2 g = rw (less, high) at e in
        absurd (omega (arith, ap length bytes, fixed-length 2 g))
    by_ten false true more low e =
        let bytes : fixed 2 h ≡ (48 + g) ∷ [] = rw (more, low) at e in
        absurd (omega (arith, ap length bytes, fixed-length 2 h))
    by_ten false false more high e =
        let bytes : fixed 2 h ≡ fixed 2 g = rw (more, high) at e in
        fixed-same 2 h g (omega (arith, small)) (omega (arith, few)) bytes

-- the number of digits of a fraction of a second that are written, at least one
abbrev pub at_least_one : ℕ → ℕ
at_least_one n = max (significant 9 n) 1

-- they represent all of it
all-kept : (n : ℕ) → n < 10 ^ 9 → n / 10 ^ (9 - at_least_one n) * 10 ^ (9 - at_least_one n) ≡ n
all-kept n small = by_count (significant 9 n) refl
  where
    by_count : (k : ℕ) → significant 9 n ≡ k → n / 10 ^ (9 - max k 1) * 10 ^ (9 - max k 1) ≡ n
    by_count zero none =
        let cut = zeros-cut 9 n 9 (omega (arith, none)) in
        omega (arith, cut, small)
    by_count (suc k) some =
        let bound = significant-bound 9 n in
        let one : max (suc k) 1 ≡ suc k = omega arith in
        subst (λ i. n / 10 ^ (9 - i) * 10 ^ (9 - i) ≡ n) (sym one) (zeros-cut 9 n (9 - suc k) (omega (arith, bound, some)))

fraction-is : (n : ℕ) → fraction_display (at_least_one n) n ≡ 46 ∷ take (at_least_one n) (fixed 9 n)
fraction-is n = let some : (at_least_one n == 0) ≡ false = grind (arith, nat_tests) in rw some refl

count-within : (n : ℕ) → at_least_one n ≤ 9
count-within n = let bound = significant-bound 9 n in omega (arith, bound)

pub fraction-same : (m n : ℕ) → m < 10 ^ 9 → n < 10 ^ 9 → fraction_display (at_least_one m) m ≡ fraction_display (at_least_one n) n → m ≡ n
fraction-same m n small few e =
    let bytes : 46 ∷ take (at_least_one m) (fixed 9 m) ≡ 46 ∷ take (at_least_one n) (fixed 9 n) = sym (fraction-is m) ∙ e ∙ fraction-is n in
    let digits : take (at_least_one m) (fixed 9 m) ≡ take (at_least_one n) (fixed 9 n) = cc in
    let within = count-within m in
    let other = count-within n in
    let long = length-take-le (at_least_one m) (fixed 9 m) (omega (arith, within, fixed-length 9 m)) in
    let longer = length-take-le (at_least_one n) (fixed 9 n) (omega (arith, other, fixed-length 9 n)) in
    let count : at_least_one m ≡ at_least_one n = sym long ∙ ap length digits ∙ longer in
    by_count (at_least_one m) (at_least_one n) within count digits (all-kept m small) (all-kept n few)
  where
    by_count : (k l : ℕ) → k ≤ 9 → k ≡ l → take k (fixed 9 m) ≡ take l (fixed 9 n)
        → m / 10 ^ (9 - k) * 10 ^ (9 - k) ≡ m → n / 10 ^ (9 - l) * 10 ^ (9 - l) ≡ n → m ≡ n
    by_count k l within count digits one other =
        let sum : 9 ≡ k + (9 - k) = omega (arith, within) in
        let same : take k (fixed 9 m) ≡ take k (fixed 9 n) = digits ∙ ap (λ i. take i (fixed 9 n)) (sym count) in
        let kept : n / 10 ^ (9 - k) * 10 ^ (9 - k) ≡ n = subst (λ i. n / 10 ^ (9 - i) * 10 ^ (9 - i) ≡ n) (sym count) other in
        let texts : fixed k (m / 10 ^ (9 - k)) ≡ fixed k (n / 10 ^ (9 - k)) =
        sym (take-fixed (9 - k) k 9 m sum) ∙ same ∙ take-fixed (9 - k) k 9 n sum in
        let fronts = fixed-same k (m / 10 ^ (9 - k)) (n / 10 ^ (9 - k)) (front-below (9 - k) k 9 m sum small) (front-below (9 - k) k 9 n sum few) texts in
        sym one ∙ ap (λ i. i * 10 ^ (9 - k)) fronts ∙ kept

-- the sign of an offset and the magnitudes of its parts determine them
abbrev behind : ℤ → ℤ → ℤ → Bool
behind h m s = int_lt h (pos 0) || int_lt m (pos 0) || int_lt s (pos 0)

signed-zero : (b : Bool) → pos 0 ≡ signed_by b (pos 0)
signed-zero true = refl
signed-zero false = refl

or-true : (b : Bool) → (b || true) ≡ true
or-true true = refl
or-true false = refl

pub signed-hours : (h m s : ℤ) → m ≡ same_sign h m → s ≡ same_sign h (same_sign m s) → h ≡ signed_by (behind h m s) (pos (unsigned_abs h))
signed-hours (pos zero) m s one two = signed-zero (behind (pos zero) m s)
signed-hours (pos (suc h)) (pos m) (pos s) one two = rw (not_below (suc h), not_below m, not_below s) refl
signed-hours (pos (suc h)) (pos m) (negsuc s) one two = absurd (cc)
signed-hours (pos (suc h)) (negsuc m) s one two = absurd (cc)
signed-hours (negsuc h) m s one two = refl

pub signed-minutes : (h m s : ℤ) → m ≡ same_sign h m → s ≡ same_sign h (same_sign m s) → m ≡ signed_by (behind h m s) (pos (unsigned_abs m))
signed-minutes h (pos zero) s one two = signed-zero (behind h (pos zero) s)
signed-minutes (pos zero) (pos (suc m)) (pos s) one two = rw (not_below (suc m), not_below s) refl
signed-minutes (pos zero) (pos (suc m)) (negsuc s) one two = absurd (cc)
signed-minutes (pos zero) (negsuc m) s one two = refl
signed-minutes (pos (suc h)) (pos (suc m)) (pos s) one two = rw (not_below (suc h), not_below (suc m), not_below s) refl
signed-minutes (pos (suc h)) (pos (suc m)) (negsuc s) one two = absurd (cc)
signed-minutes (pos (suc h)) (negsuc m) s one two = absurd (cc)
signed-minutes (negsuc h) (pos (suc m)) s one two = one
signed-minutes (negsuc h) (negsuc m) s one two = refl

pub signed-seconds : (h m s : ℤ) → m ≡ same_sign h m → s ≡ same_sign h (same_sign m s) → s ≡ signed_by (behind h m s) (pos (unsigned_abs s))
signed-seconds h m (pos zero) one two = signed-zero (behind h m (pos zero))
signed-seconds h m (negsuc s) one two =
    let last : behind h m (negsuc s) ≡ true = or-last (int_lt h (pos 0)) (int_lt m (pos 0)) in
    rw last refl
  where
    or-last : (b c : Bool) → (b || c || true) ≡ true
    or-last true c = refl
    or-last false true = refl
    or-last false false = refl
signed-seconds (pos zero) (pos m) (pos (suc s)) one two = rw (not_below m, not_below (suc s)) refl
signed-seconds (pos zero) (negsuc m) (pos (suc s)) one two = absurd (cc)
signed-seconds (pos (suc h)) (pos m) (pos (suc s)) one two = rw (not_below (suc h), not_below m, not_below (suc s)) refl
signed-seconds (pos (suc h)) (negsuc m) (pos (suc s)) one two = absurd (cc)
signed-seconds (negsuc h) (pos zero) (pos (suc s)) one two = absurd (cc)
signed-seconds (negsuc h) (pos (suc m)) (pos (suc s)) one two = absurd (cc)
signed-seconds (negsuc h) (negsuc m) (pos (suc s)) one two = absurd (cc)

pub same_sign_byte : (b c : Bool) → ◌≡◌ {A = ℕ} (if b then 45 else 43) (if c then 45 else 43) → b ≡ c
same_sign_byte true true e = refl
same_sign_byte true false e = absurd (omega (arith, e))
same_sign_byte false true e = absurd (omega (arith, e))
same_sign_byte false false e = refl

-- decimal numbers
decimal-value : (n : ℕ) → n < 10 ^ 64 → digits_value 10 (decimal n) ≡ n
decimal-value n small = (decimal_is_IsNumeral_wide n small).1

decimal-minus : (n : ℕ) (a : List ℕ) → n < 10 ^ 64 → decimal n ≡ 45 ∷ a → ⊥
decimal-minus n a small e =
    let digits = subst (AllDigits 10) e (decimal_is_IsNumeral_wide n small).0.1 in
    omega (arith, digit_from_value 45 digits.0)

pub decimal-same : (y z : ℤ) → unsigned_abs y < 10 ^ 64 → unsigned_abs z < 10 ^ 64 → signed_decimal y ≡ signed_decimal z → y ≡ z
decimal-same (pos m) (pos n) small few e = ap pos (sym (decimal-value m small) ∙ ap (digits_value 10) e ∙ decimal-value n few)
decimal-same (pos m) (negsuc n) small few e = absurd (decimal-minus m (decimal (suc n)) small e)
decimal-same (negsuc m) (pos n) small few e = absurd (decimal-minus n (decimal (suc m)) few (sym e))
decimal-same (negsuc m) (negsuc n) small few e =
    let digits : decimal (suc m) ≡ decimal (suc n) = cc in
    let same : suc m ≡ suc n = sym (decimal-value (suc m) small) ∙ ap (digits_value 10) digits ∙ decimal-value (suc n) few in
    let less : m ≡ n = cc in
    ap negsuc less

-- ---- The parts of an offset have the sign of their sum

pub hours_below : (h m s : ℤ) → HasOneSign h m s → (h +ℤ m) <ℤ pos 0 → h ≤ℤ pos 0
hours_below (pos zero) m s one is = omega (arith, ints)
hours_below (pos (suc h)) m s (one, _) is = absurd (omega (arith, ints, one, is))
hours_below (negsuc h) m s one is = omega (arith, ints)

pub minutes_below : (h m s : ℤ) → HasOneSign h m s → (h +ℤ m) <ℤ pos 0 → m ≤ℤ pos 0
minutes_below (pos zero) m s one is = omega (arith, ints, is)
minutes_below (pos (suc h)) m s (one, _) is = absurd (omega (arith, ints, one, is))
minutes_below (negsuc h) m s (one, _) is = omega (arith, ints, one)

-- the text of an offset whose sum is below 0 has a minus
pub minus_below : (h m : ℤ) → (h +ℤ m) <ℤ pos 0 → (parts : List ℕ)
    → (if int_eq h (pos 0) && int_eq m (pos 0) then codes "Z" else
    ((if int_lt h (pos 0) || int_lt m (pos 0) then 45 else 43) ∷ parts)) ≡ 45 ∷ parts
minus_below (pos h) (pos m) is parts = absurd (omega (arith, ints, is))
minus_below (pos h) (negsuc m) is parts = search rules
minus_below (negsuc h) m is parts = refl
