-- The functions of the pieces agree with their relations.
use Rattle.std.proofs.Common.{◌≡◌, ℕ, zero, suc, get_or, ◌-◌, ◌<◌, ◌≤◌, ◌⊎◌, List, [], ◌∷◌, ◌++◌, length, length-append, take, drop, true, ◌&&◌, refl, ap, sym, ◌∙◌, subst, inl, inr, arith, ◌^◌, Option, Some, None, IfSome, Ok, Err}
use Rattle.std.specs.Prelude.{nat_le, nat_eq}
use Rattle.std.proofs.lemmas.Bool.{le-leb, leb-true, leb-false, eq-eqb, eqb-true, and_parts, and_from, cases_Bool}
use Rattle.std.proofs.lemmas.List.{take-append-drop, length-take-le}
use Rattle.std.proofs.lemmas.Option.{none-some, cond_some, slice_get_past}
use Rattle.std.proofs.Math.Bool.{and-false}
use Rattle.std.proofs.Math.Seq.{take-append_seam, drop-append_seam}
use Rattle.time_digits.proofs.WordBytes.{take-drop}
use Rattle.time_digits.specs.Digits.{Cut, NoCut, Finds, IsByte, IsSign, IsDigit, AllDigits, digits_value, NoDigitFirst, IsDigitRun}
use Rattle.time_values.specs.Names.{month_number, month_refusal}
use Rattle.time_values.specs.Refusal.{Constructs}
use Rattle.time_values.specs.declared.error.ComponentRange.{ComponentRange}
use Rattle.time_values.specs.declared.month.Month.{Month}
use Rattle.time_components.proofs.NumberLemmas.{each_month}
use Rattle.time_digits.proofs.Runs.{IsDigitRun-below}
use Rattle.time_digits.specs.declared.ParsedItem.{ParsedItem}
use Rattle.time_digits.specs.declared.Sign.{Sign}
use Rattle.time_digits.specs.declared.Sign.TheVariants.{Negative, Positive}
use Rattle.time_readers.specs.IsoPieces.{Number, is_digit, all_digits, digits, leading_digits, byte, point, plain, fraction, after_point, number, sign, months, numbered, Returns}
use Rattle.time_readers.specs.IsoTimes.{round_of}
use Rattle.time_readers.proofs.OneMailDate.{round_whole}

pub is_digit-true : (c : ℕ) → IsDigit c → is_digit c ≡ true
is_digit-true c d = and_from (nat_le 48 c) (nat_le c 57) (le-leb 48 c d.0) (le-leb c 57 d.1)

pub is_digit-tells : (c : ℕ) → is_digit c ≡ true → IsDigit c
is_digit-tells c e = let both = and_parts (nat_le 48 c) (nat_le c 57) e in (leb-true 48 c both.0, leb-true c 57 both.1)

pub all_digits-true : (s : List ℕ) → AllDigits s → all_digits s ≡ true
all_digits-true [] h = refl
all_digits-true (c ∷ s) h = and_from (is_digit c) (all_digits s) (is_digit-true c h.0) (all_digits-true s h.1)

pub all_digits-tells : (s : List ℕ) → all_digits s ≡ true → AllDigits s
all_digits-tells [] e = tt
all_digits-tells (c ∷ s) e = let both = and_parts (is_digit c) (all_digits s) e in (is_digit-tells c both.0, all_digits-tells s both.1)

-- a run of exactly n digits is the first n bytes, and the bytes after them are the rest
module _ (n : ℕ) (s rest : List ℕ) (v : ℕ) (cut : Cut (IsDigitRun n n) s rest v) where
  cut-long : length cut.0 ≡ n
  cut-long = omega (arith, cut.2.enough, cut.2.within)

  cut-front : take n s ≡ cut.0
  cut-front = ap (take n) cut.1 ∙ ap (λ k. take k (cut.0 ++ rest)) (sym cut-long) ∙ take-append_seam cut.0 rest

  cut-back : drop n s ≡ rest
  cut-back = ap (drop n) cut.1 ∙ ap (λ k. drop k (cut.0 ++ rest)) (sym cut-long) ∙ drop-append_seam cut.0 rest

  cut-room : n ≤ length s
  cut-room = omega (arith, cut-long, ap length cut.1, length-append cut.0 rest)

-- `digits` finds a run of exactly n digits
pub digits-cut : (n : ℕ) (s rest : List ℕ) (v : ℕ) → Cut (IsDigitRun n n) s rest v → digits n s ≡ Some (rest, v)
unfolding digits
digits-cut n s rest v cut =
    let front = cut-front n s rest v cut in
    let room : nat_le n (length s) ≡ true = le-leb n (length s) (cut-room n s rest v cut) in
    let all : all_digits (take n s) ≡ true = ap all_digits front ∙ all_digits-true cut.0 cut.2.digits in
    rw (room, all, front, cut-back n s rest v cut, cut.2.is) refl

-- `digits` finds nothing if there is no such run
pub digits-no_cut : (n : ℕ) (s : List ℕ) → NoCut (IsDigitRun n n) s → digits n s ≡ None
unfolding digits
digits-no_cut n s none =
    elim (cases_Bool (nat_le n (length s) && all_digits (take n s))) [
      | inl e ↦
          let both = and_parts (nat_le n (length s)) (all_digits (take n s)) e in
          let long = length-take-le n s (leb-true n (length s) both.0) in
          absurd (none (take n s) (drop n s) (digits_value (take n s)) (sym (take-append-drop n s)) (record {
            digits = all_digits-tells (take n s) both.1;
            enough = omega arith;
            within = omega arith;
            ends = inl long;
            is = refl;
          }))
      | inr e ↦ rw e refl
    ]

pub byte-cut : (b : ℕ) (s rest : List ℕ) → Cut (IsByte b) s rest tt → byte b s ≡ Some rest
unfolding byte
byte-cut b s rest cut = rw (cut.1, cut.2, eq-eqb b b refl) refl

pub byte-no_cut : (b : ℕ) (s : List ℕ) → NoCut (IsByte b) s → byte b s ≡ None
unfolding byte
byte-no_cut b [] none = refl
byte-no_cut b (c ∷ s) none =
    elim (cases_Bool (nat_eq c b)) [
      | inl e ↦ let same = eqb-true c b e in absurd (none (c ∷ []) s tt refl (ap (λ d. d ∷ []) same))
      | inr e ↦ rw e refl
    ]

-- the digits that a loop has passed are all digits at the front of the bytes
pub leading-are : (n : ℕ) (s : List ℕ) → n ≤ length s → AllDigits (take n s)
    → (n ≡ length s) ⊎ NoDigitFirst (drop n s) → leading_digits s ≡ take n s
leading-are zero [] h all ends = refl
leading-are zero (c ∷ s) h all (inl e) = absurd (omega (arith, e))
leading-are zero (c ∷ s) h all (inr ends) =
    elim (cases_Bool (is_digit c)) [
      | inl e ↦ absurd (ends (is_digit-tells c e))
      | inr e ↦ rw e refl
    ]
leading-are (suc n) [] h all ends = refl
leading-are (suc n) (c ∷ s) h all (inl e) =
    let first = is_digit-true c all.0 in
    let others = leading-are n s (omega arith) all.1 (inl (omega (arith, e))) in
    rw (first, others) refl
leading-are (suc n) (c ∷ s) h all (inr ends) =
    let first = is_digit-true c all.0 in
    let others = leading-are n s (omega arith) all.1 (inr ends) in
    rw (first, others) refl

pub point-first : (s rest : List ℕ) → byte 46 s ≡ Some rest → point s ≡ Some rest
unfolding point
point-first s rest e = rw e refl

pub point-second : (s : List ℕ) → byte 46 s ≡ None → point s ≡ byte 44 s
unfolding point
point-second s e = rw e refl

pub number-none : (s : List ℕ) → digits 2 s ≡ None → number s ≡ None
unfolding number
number-none s e = rw e refl

pub number-plain : (s mid : List ℕ) (whole : ℕ) → digits 2 s ≡ Some (mid, whole) → point mid ≡ None → number s ≡ Some (mid, plain whole)
unfolding number
number-plain s mid whole e p = rw (e, p) refl

-- a point without a digit after it isn't part of a number
pub number-no_digit : (s mid after : List ℕ) (whole count : ℕ) → digits 2 s ≡ Some (mid, whole) → point mid ≡ Some after
    → leading_digits after ≡ take count after → count ≡ 0 → number s ≡ None
unfolding number
number-no_digit s mid after whole count e p leads nothing = rw (e, p, leads, nothing) refl

split_digits : (after : List ℕ) (whole count : ℕ) → leading_digits after ≡ take count after → 1 ≤ count → count ≤ length after
    → after_point whole (leading_digits after) after ≡ Some
    (take (length after - count) (drop count after), fraction whole (take count after))
split_digits after whole zero leads some h = absurd (omega arith)
split_digits [] whole (suc count) leads some h = absurd (omega arith)
split_digits (c ∷ cs) whole (suc count) leads some h =
    let long = length-take-le count cs (omega arith) in
    let rest = take-drop (c ∷ cs) (suc count) h in
    rw (leads, rest, long) refl

pub number-fraction : (s mid after : List ℕ) (whole count : ℕ) → digits 2 s ≡ Some (mid, whole) → point mid ≡ Some after
    → leading_digits after ≡ take count after → 1 ≤ count → count ≤ length after
    → number s ≡ Some (take (length after - count) (drop count after), fraction whole (take count after))
unfolding number
number-fraction s mid after whole count e p leads some h = rw (e, p) (split_digits after whole count leads some h)

pub byte-first : (b : ℕ) (s rest : List ℕ) → byte b s ≡ Some rest → s ≡ b ∷ rest
unfolding byte
byte-first b [] rest e = absurd (none-some rest e)
byte-first b (c ∷ s) rest e =
    let same = cond_some (nat_eq c b) s rest e in
    let first = eqb-true c b same.0 in
    rw (first, same.1) refl

-- a number doesn't begin with a colon
pub colon-no_number : (s rest : List ℕ) → byte 58 s ≡ Some rest → number s ≡ None
unfolding number digits
colon-no_number s rest e = rw (byte-first 58 s rest e, and-false (nat_le 2 (length (58 ∷ rest)))) refl

-- the result of a parser of a run of digits is that of the function `digits`
pub finds-digits : (n : ℕ) (s : List ℕ) (answer : Option (ParsedItem ℕ)) → Finds (IsDigitRun n n) (λ v. v) s answer
    → Returns (digits n s) answer
finds-digits n s None none = digits-no_cut n s none
finds-digits n s (Some p) cut = digits-cut n s p.0.now p.1 cut

pub digits-below : (n : ℕ) (s : List ℕ) (answer : Option (ParsedItem ℕ)) → Finds (IsDigitRun n n) (λ v. v) s answer
    → IfSome answer (λ p. p.1 < 10 ^ n)
digits-below n s None none = tt
digits-below n s (Some p) cut = IsDigitRun-below n n cut.0 p.0.now p.1 cut.2

pub sign-cut : (s rest : List ℕ) (v : Sign) → Cut IsSign s rest v → sign s ≡ Some (rest, v)
unfolding sign
sign-cut s rest Negative cut = rw (cut.1, cut.2) refl
sign-cut s rest Positive cut = rw (cut.1, cut.2) refl

pub sign-no_cut : (s : List ℕ) → NoCut IsSign s → sign s ≡ None
unfolding sign
sign-no_cut [] none = refl
sign-no_cut (c ∷ s) none =
    elim (cases_Bool (nat_eq c 45)) [
      | inl e ↦ let same = eqb-true c 45 e in absurd (none (c ∷ []) s Negative refl (ap (λ d. d ∷ []) same))
      | inr e ↦ elim (cases_Bool (nat_eq c 43)) [
        | inl f ↦ let same = eqb-true c 43 f in absurd (none (c ∷ []) s Positive refl (ap (λ d. d ∷ []) same))
        | inr f ↦ rw (e, f) refl
      ]
    ]

pub finds-sign : (s : List ℕ) (answer : Option (ParsedItem Sign)) → Finds IsSign (λ v. v) s answer → Returns (sign s) answer
finds-sign s None none = sign-no_cut s none
finds-sign s (Some p) cut = sign-cut s p.0.now p.1 cut

-- the number of a month finds that month
pub month-numbered : (m : Month) → numbered months (month_number m) ≡ Some m
month-numbered =
    each_month (λ m. numbered months (month_number m) ≡ Some m) (refl, refl, refl, refl, refl, refl, refl, refl, refl, refl, refl, refl)

pub numbered-past : {A : Type 0} (all : List A) (n : ℕ) → length all < n → numbered all n ≡ None
numbered-past all zero h = refl
numbered-past all (suc n) h = slice_get_past all n (omega arith)

-- the month that a constructor returned for a number is the month of that number
pub month-answered : (n : ℕ) (m : Month) → Constructs (month_refusal n) (λ (x : Month). month_number x ≡ n) (Ok m)
    → numbered months n ≡ Some m
month-answered n m h =
    elim (cases_Bool (nat_le n 12)) [
      | inl e ↦ let is : month_number m ≡ n = rw e at h in subst (λ k. numbered months k ≡ Some m) is (month-numbered m)
      | inr e ↦ absurd (rw e at h)
    ]

pub month-refused : (n : ℕ) (e : ComponentRange) → Constructs (month_refusal n) (λ (x : Month). month_number x ≡ n) (Err e)
    → numbered months n ≡ None
month-refused n error h =
    elim (cases_Bool (nat_le n 12)) [
      | inl e ↦ absurd (rw e at h)
      | inr e ↦ numbered-past months n (leb-false n 12 e)
    ]

-- a text in which 0 digits are counted doesn't begin with a digit
none_counted : (s : List ℕ) (n : ℕ) → n ≡ 0 → (n ≡ 1) ⊎ NoDigitFirst (drop n s) → NoDigitFirst s
none_counted s n e (inl one) = absurd (omega (arith, e, one))
none_counted s n e (inr ends) = subst (λ k. NoDigitFirst (drop k s)) e ends

-- two digits and a fraction of exactly n digits
fraction_parts : (n whole v : ℕ) (after rest : List ℕ) (cut : Cut (IsDigitRun n n) after rest v)
    → ◌≡◌ {A = Option (List ℕ × Number)} (Some (take (length after - n) (drop n after), fraction whole (take n after)))
    (Some (rest, fraction whole cut.0))
fraction_parts n whole v after rest cut =
    rw (take-drop after n (cut-room n after rest v cut), cut-back n after rest v cut, cut-front n after rest v cut) refl

number-exact : (n : ℕ) (s mid after rest : List ℕ) (whole v : ℕ) → digits 2 s ≡ Some (mid, whole) → point mid ≡ Some after
    → (cut : Cut (IsDigitRun n n) after rest v) → 1 ≤ n → NoDigitFirst rest → number s ≡ Some (rest, fraction whole cut.0)
number-exact n s mid after rest whole v e p cut some ends =
    let all = subst AllDigits (sym (cut-front n after rest v cut)) cut.2.digits in
    let none = subst NoDigitFirst (sym (cut-back n after rest v cut)) ends in
    let room = cut-room n after rest v cut in
    number-fraction s mid after whole n e p (leading-are n after room all (inr none)) some room
    ∙ fraction_parts n whole v after rest cut

-- a fraction of nine digits, which are nanoseconds
pub number-nine : (s mid after rest : List ℕ) (whole v : ℕ) → digits 2 s ≡ Some (mid, whole) → point mid ≡ Some after
    → Cut (IsDigitRun 9 9) after rest v → (more : ℕ) → more ≡ 0 → (more ≡ 1) ⊎ NoDigitFirst (drop more rest)
    → (d : List ℕ) × (number s ≡ Some (rest, fraction whole d)) × (round_of d 1_000_000_000 ≡ v) × (v < 1_000_000_000)
number-nine s mid after rest whole v e p cut more nothing counted =
    let ends = none_counted rest more nothing counted in
    let round = round_whole cut.0 1_000_000_000 (ap (λ n. 10 ^ n) (cut-long 9 after rest v cut)) in (
      cut.0,
      number-exact 9 s mid after rest whole v e p cut (omega arith) ends,
      sym round ∙ sym cut.2.is,
      IsDigitRun-below 9 9 cut.0 rest v cut.2,
    )

-- one digit
pub run_one : (s : List ℕ) (value : ℕ) → 1 ≤ length s → IsDigit (get_or s 0 0) → value ≡ get_or s 0 0 - 48
    → Cut (IsDigitRun 1 1) s (take (length s - 1) (drop 1 s)) value
run_one [] value h i e = absurd (omega arith)
run_one (a ∷ s) value h i e = (
  a ∷ [],
  ap (λ r. a ∷ r) (sym (take-drop (a ∷ s) 1 h)),
  record { digits = (i, tt); enough = omega arith; within = omega arith; ends = inl refl; is = omega arith },
)
