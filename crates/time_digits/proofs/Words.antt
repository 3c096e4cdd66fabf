-- Runs of an exact number of digits, by the first bytes of a text.
use Rattle.std.proofs.Common.{◌≡◌, ℕ, zero, suc, ◌+◌, ◌-◌, ◌≤◌, List, [], ◌∷◌, ◌++◌, length, take, drop, replicate, refl, ap, sym, ◌∙◌, inl, arith, subst, length-append, append_assoc}
use Rattle.std.proofs.lemmas.List.{length-drop, length-take-le, take-append-drop, take-append-le, take-replicate, take_all}
use Rattle.time_digits.specs.Digits.{Cut, NoCut, IsDigitByte, AllDigits, digits_value, IsDigitRun}
use Rattle.time_digits.proofs.Runs.{AllDigits-take, IsDigitRun-unique}

-- ---- Runs

first_of_run : (n : ℕ) (text rest : List ℕ) → length text ≡ n → take n (text ++ rest) ≡ text
first_of_run n text rest l = take-append-le n text rest (omega arith) ∙ take_all n text (omega arith)

-- no run begins if the first bytes aren't all digits
pub exact_none : (n : ℕ) (s : List ℕ) → (n ≤ length s → AllDigits (take n s) → ⊥) → NoCut (IsDigitRun n n) s
exact_none n s none text rest v e run =
    let l : length text ≡ n = omega (arith, run.enough, run.within) in
    let first : take n s ≡ text = ap (λ t. take n t) e ∙ first_of_run n text rest l in
    none (omega (arith, ap length e, length-append text rest)) (subst AllDigits (sym first) run.digits)

-- the first eight of nine digits
eight_of : (text rest : List ℕ) (v : ℕ) → IsDigitRun 9 9 text rest v
    → IsDigitRun 8 8 (take 8 text) (drop 8 text ++ rest) (digits_value (take 8 text))
eight_of text rest v run =
    let l : length text ≡ 9 = omega (arith, run.enough, run.within) in
    let k : length (take 8 text) ≡ 8 = length-take-le 8 text (omega arith) in
    record { digits = AllDigits-take 8 text run.digits; enough = omega arith; within = omega arith; ends = inl k; is = refl }

eight_and_more : (s text rest : List ℕ) → s ≡ text ++ rest → s ≡ take 8 text ++ (drop 8 text ++ rest)
eight_and_more s text rest e =
    e ∙ ap (λ t. t ++ rest) (sym (take-append-drop 8 text)) ∙ append_assoc (take 8 text) (drop 8 text) rest

-- no nine digits without eight digits
pub eight_none : (s : List ℕ) → NoCut (IsDigitRun 8 8) s → NoCut (IsDigitRun 9 9) s
eight_none s none text rest v e run =
    none (take 8 text) (drop 8 text ++ rest) (digits_value (take 8 text)) (eight_and_more s text rest e) (eight_of text rest v run)

AllDigits-drop : (n : ℕ) (xs : List ℕ) → AllDigits xs → AllDigits (drop n xs)
AllDigits-drop zero xs h = h
AllDigits-drop (suc n) [] h = tt
AllDigits-drop (suc n) (x ∷ xs) h = AllDigits-drop n xs h.1

one_digit : (d rest : List ℕ) → length d ≡ 1 → AllDigits d → NoCut IsDigitByte (d ++ rest) → ⊥
one_digit [] rest l all none = absurd (omega arith)
one_digit (c ∷ []) rest l all none = none (c ∷ []) rest c refl (refl, all.0)
one_digit (c ∷ d ∷ more) rest l all none = absurd (omega arith)

-- no nine digits if no digit follows eight
pub ninth_none : (s mid : List ℕ) (a : ℕ) → Cut (IsDigitRun 8 8) s mid a → NoCut IsDigitByte mid → NoCut (IsDigitRun 9 9) s
ninth_none s mid a eight none text rest v e run =
    let is = IsDigitRun-unique 8 8 8 eight.0 (take 8 text) mid (drop 8 text ++ rest) a (digits_value (take 8 text)) eight.2 (eight_of text rest v run)
    (sym eight.1 ∙ eight_and_more s text rest e) in
    let l : length (drop 8 text) ≡ 1 = omega (arith, length-drop 8 text, run.enough, run.within) in
    one_digit (drop 8 text) rest l (AllDigits-drop 8 text run.digits) (subst (NoCut IsDigitByte) is.1 none)

-- ---- The first bytes of a text, in a word

-- a zero byte isn't a digit, so digits end before the zeros
enough_digits : (n k : ℕ) (s : List ℕ) → n ≤ length s + k → AllDigits (take n (s ++ replicate k 0)) → n ≤ length s
enough_digits zero k s h digits = omega arith
enough_digits (suc n) zero [] h digits = absurd (omega arith)
enough_digits (suc n) (suc k) [] h digits = absurd (omega (arith, digits.0.0))
enough_digits (suc n) k (c ∷ s) h digits = let rest = enough_digits n k s (omega arith) digits.1 in omega arith

take_take : (n m : ℕ) (s : List ℕ) → n ≤ m → take n (take m s) ≡ take n s
take_take zero m s h = refl
take_take (suc n) zero s h = absurd (omega arith)
take_take (suc n) (suc m) [] h = refl
take_take (suc n) (suc m) (c ∷ s) h = ap (λ t. c ∷ t) (take_take n m s (omega arith))

-- at most eight bytes, filled up with zeros
filled : (n m k : ℕ) (s : List ℕ) → n ≡ length s + m → m ≤ k → s ++ replicate m 0 ≡ take n (s ++ replicate k 0)
filled n m k [] e h = let i : n ≡ m = omega (arith, e) in rw i (sym (take-replicate m k 0 h))
filled zero m k (c ∷ s) e h = absurd (omega (arith, e))
filled (suc n) m k (c ∷ s) e h = ap (λ t. c ∷ t) (filled n m k s (omega (arith, e)) h)

pub short_filled : (s : List ℕ) → length s ≤ 8 → s ++ replicate (8 - length s) 0 ≡ take 8 (s ++ replicate 8 0)
short_filled s short = filled 8 (8 - length s) 8 s (omega arith) (omega arith)

pub enough_of : (n : ℕ) (s bytes : List ℕ) → n ≤ 8 → bytes ≡ take 8 (s ++ replicate 8 0) → AllDigits (take n bytes) → n ≤ length s
enough_of n s bytes most is digits =
    enough_digits n 8 s (omega arith) (subst AllDigits (ap (λ t. take n t) is ∙ take_take n 8 (s ++ replicate 8 0) most) digits)

pub first_of : (n : ℕ) (s bytes : List ℕ) → n ≤ 8 → bytes ≡ take 8 (s ++ replicate 8 0) → n ≤ length s → take n bytes ≡ take n s
first_of n s bytes most is enough =
    ap (λ t. take n t) is ∙ take_take n 8 (s ++ replicate 8 0) most ∙ take-append-le n s (replicate 8 0) enough
