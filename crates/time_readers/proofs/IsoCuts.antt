-- Each piece of ISO 8601, as a function, finds exactly the prefix that spells its value.
use Rattle.std.proofs.Common.{◌≡◌, ℕ, ℤ, pos, List, [], ◌∷◌, ◌++◌, length, take, drop, ◌&&◌, false, refl, ap, sym, ◌∙◌, subst, inl, inr, arith, append_assoc, Option, Some, None}
use Rattle.std.specs.Prelude.{nat_le, nat_eq, option_map}
use Rattle.std.proofs.lemmas.Bool.{leb-true, and_parts, cases_Bool, eqb-true, both_ways}
use Rattle.std.proofs.lemmas.List.{take-append-drop, length-take-le}
use Rattle.std.proofs.lemmas.Option.{none-some, same_Some, some_pair_parts, option_and_then_some}
use Rattle.std.proofs.Math.Seq.{drop-append_seam}
use Rattle.time_digits.specs.Digits.{IsSign, sign_byte, Cut, AllDigits, digits_value, NoDigitFirst, IsDigitRun}
use Rattle.time_readers.specs.IsoPieces.{IsYear, IsMappedDigits, IsPoint, NoPointFirst, IsNumber, is_digit, all_digits, digits, leading_digits, byte, point, Number, plain, fraction, after_point, after_whole, number, mapped_digits, sign, with_sign, year_after, year, month, weekday, positive, up_to, numbered, months, weekdays, not_zero, at_most}
use Rattle.time_readers.specs.Laws.{IsoPiecesAreCuts}
use Rattle.time_components.specs.Spelling.{IsSigned}
use Rattle.time_digits.specs.declared.Padding.TheVariants as padding
use Rattle.time_digits.specs.declared.Sign.{Sign}
use Rattle.time_digits.specs.declared.Sign.TheVariants.{Negative, Positive}
use Rattle.time_readers.proofs.IsoPieces.{is_digit-true, is_digit-tells, all_digits-tells, digits-cut, sign-cut, sign-no_cut}
use Rattle.time_components.proofs.NumberLemmas.{no_sign_first, signed_cut}

pub digits-tells : (n : ℕ) (s rest : List ℕ) (v : ℕ) → digits n s ≡ Some (rest, v) → Cut (IsDigitRun n n) s rest v
unfolding digits
digits-tells n s rest v e =
    elim (cases_Bool (nat_le n (length s) && all_digits (take n s))) [
      | inl t ↦
          let both = and_parts (nat_le n (length s)) (all_digits (take n s)) t in
          let long = length-take-le n s (leb-true n (length s) both.0) in
          let same = some_pair_parts (drop n s) rest (digits_value (take n s)) v (rw t at e) in (
            take n s,
            sym (take-append-drop n s) ∙ ap (λ r. take n s ++ r) same.0,
            record {
              digits = all_digits-tells (take n s) both.1;
              enough = omega arith;
              within = omega arith;
              ends = inl long;
              is = sym same.1;
            },
          )
      | inr t ↦ absurd (none-some (rest, v) (rw t at e))
    ]

pub leading-all : (s : List ℕ) → AllDigits (leading_digits s)
leading-all [] = tt
leading-all (c ∷ s) = elim (cases_Bool (is_digit c)) [
  | inl e ↦ rw e (is_digit-tells c e, leading-all s)
  | inr e ↦ rw e tt
]

-- the digits in front of a text that doesn't begin with a digit
pub leading-front : (ds rest : List ℕ) → AllDigits ds → NoDigitFirst rest → leading_digits (ds ++ rest) ≡ ds
leading-front [] [] all ends = refl
leading-front [] (c ∷ rest) all ends = elim (cases_Bool (is_digit c)) [
  | inl e ↦ absurd (ends (is_digit-tells c e))
  | inr e ↦ rw e refl
]
leading-front (d ∷ ds) rest all ends = rw (is_digit-true d all.0, leading-front ds rest all.1 ends) refl

pub point-none : (s : List ℕ) → NoPointFirst s → point s ≡ None
unfolding point byte
point-none [] h = refl
point-none (c ∷ s) h = elim (cases_Bool (nat_eq c 46)) [
  | inl e ↦ absurd (h (inl (eqb-true c 46 e)))
  | inr e ↦ elim (cases_Bool (nat_eq c 44)) [
    | inl f ↦ absurd (h (inr (eqb-true c 44 f)))
    | inr f ↦ rw (e, f) refl
  ]
]

pub point-some : (c : ℕ) (s : List ℕ) → IsPoint c → point (c ∷ s) ≡ Some s
unfolding point byte
point-some c s (inl e) = rw e refl
point-some c s (inr e) = rw e refl

-- the function finds each prefix that the relation allows
pub number-found : (s rest : List ℕ) (n : Number) → Cut IsNumber s rest n → number s ≡ Some (rest, n)
unfolding number
number-found s rest (plain v) cut =
    rw (digits-cut 2 s rest v (cut.0, cut.1, cut.2.0), point-none rest cut.2.1) refl
number-found s rest (fraction v []) cut = absurd (omega (arith, cut.2.some))
number-found s rest (fraction v (d ∷ ds)) cut =
    let f = cut.2 in
    let text : s ≡ f.whole ++ (f.mark ∷ (d ∷ ds) ++ rest) =
    cut.1 ∙ ap (λ t. t ++ rest) f.cut ∙ append_assoc f.whole (f.mark ∷ (d ∷ ds)) rest in
    let whole = digits-cut 2 s (f.mark ∷ (d ∷ ds) ++ rest) v (f.whole, text, f.run) in
    let front = leading-front (d ∷ ds) rest f.all f.ends in
    let back = drop-append_seam (d ∷ ds) rest in
    rw (whole, point-some f.mark ((d ∷ ds) ++ rest) f.is_point, front, back) refl

-- the relation allows each prefix that the function finds
leading-after : (s : List ℕ) → s ≡ leading_digits s ++ drop (length (leading_digits s)) s
leading-after [] = refl
leading-after (c ∷ s) = elim (cases_Bool (is_digit c)) [
  | inl e ↦ rw e (ap (λ r. c ∷ r) (leading-after s))
  | inr e ↦ rw e refl
]

leading-ends : (s : List ℕ) → NoDigitFirst (drop (length (leading_digits s)) s)
leading-ends [] = tt
leading-ends (c ∷ s) = elim (cases_Bool (is_digit c)) [
  | inl e ↦ rw e (leading-ends s)
  | inr e ↦ rw e (λ d. both_ways (is_digit c) e (is_digit-true c d))
]

point-tells : (s after : List ℕ) → point s ≡ Some after → (c : ℕ) × IsPoint c × (s ≡ c ∷ after)
unfolding point byte
point-tells [] after e = absurd (none-some after e)
point-tells (c ∷ s) after e = elim (cases_Bool (nat_eq c 46)) [
  | inl f ↦ let same = same_Some s after (rw f at e) in (c, inl (eqb-true c 46 f), ap (λ r. c ∷ r) same)
  | inr f ↦ elim (cases_Bool (nat_eq c 44)) [
    | inl g ↦ let same = same_Some s after (rw (f, g) at e) in (c, inr (eqb-true c 44 g), ap (λ r. c ∷ r) same)
    | inr g ↦ absurd (none-some after (rw (f, g) at e))
  ]
]

no_point-tells : (s : List ℕ) → point s ≡ None → NoPointFirst s
no_point-tells [] e = tt
no_point-tells (c ∷ s) e = λ p. none-some s (sym e ∙ point-some c s p)

digits-after : (s mid after rest : List ℕ) (v : ℕ) (n : Number) (ds : List ℕ) → Cut (IsDigitRun 2 2) s mid v
    → (c : ℕ) × IsPoint c × (mid ≡ c ∷ after) → leading_digits after ≡ ds → after_point v ds after ≡ Some (rest, n)
    → Cut IsNumber s rest n
digits-after s mid after rest v n [] run mark leads e = absurd (none-some (rest, n) e)
digits-after s mid after rest v n (d ∷ ds) run mark leads e =
    let is = some_pair_parts (drop (length (d ∷ ds)) after) rest (fraction v (d ∷ ds)) n e in
    let back : after ≡ (d ∷ ds) ++ rest =
    leading-after after ∙ ap (λ l. l ++ drop (length l) after) leads ∙ ap (λ r. (d ∷ ds) ++ r) is.0 in
    let marked : mid ≡ mark.0 ∷ ((d ∷ ds) ++ rest) = mark.2 ∙ ap (λ r. mark.0 ∷ r) back in
    let ends : NoDigitFirst rest =
    subst NoDigitFirst is.0 (subst (λ l. NoDigitFirst (drop (length l) after)) leads (leading-ends after)) in
    subst (λ m. Cut IsNumber s rest m) is.1 (
      run.0 ++ mark.0 ∷ (d ∷ ds),
      run.1 ∙ ap (λ r. run.0 ++ r) marked ∙ sym (append_assoc run.0 (mark.0 ∷ (d ∷ ds)) rest),
      record {
        whole = run.0;
        mark = mark.0;
        cut = refl;
        run = subst (λ r. IsDigitRun 2 2 run.0 r v) marked run.2;
        is_point = mark.1;
        all = subst AllDigits leads (leading-all after);
        some = omega arith;
        ends = ends;
      },
    )

whole-after : (s mid rest : List ℕ) (v : ℕ) (n : Number) (p : Option (List ℕ)) → Cut (IsDigitRun 2 2) s mid v
    → point mid ≡ p → after_whole v mid p ≡ Some (rest, n) → Cut IsNumber s rest n
whole-after s mid rest v n None run none e =
    let is = some_pair_parts mid rest (plain v) n e in
    subst (λ m. Cut IsNumber s rest m) is.1
    (subst (λ r. Cut IsNumber s r (plain v)) is.0 (run.0, run.1, (run.2, no_point-tells mid none)))
whole-after s mid rest v n (Some after) run mark e =
    digits-after s mid after rest v n (leading_digits after) run (point-tells mid after mark) refl e

pub number-tells : (s rest : List ℕ) (n : Number) → number s ≡ Some (rest, n) → Cut IsNumber s rest n
unfolding number
number-tells s rest n e =
    option_and_then_some (λ f. after_whole f.1 f.0 (point f.0)) (digits 2 s) (rest, n) e
    (λ x d h. whole-after s x.0 rest x.1 n (point x.0) (digits-tells 2 s x.0 x.1 d) refl h)

-- n digits, whose number has a value
parse_by : {A : Type 0} (n : ℕ) (says : ℕ → Option A) (s mid rest : List ℕ) (v : ℕ) (a : A) (o : Option A)
    → digits n s ≡ Some (mid, v) → says v ≡ o → option_map {U = List ℕ × A} (λ b. (mid, b)) o ≡ Some (rest, a)
    → Cut (IsMappedDigits n says) s rest a
parse_by n says s mid rest v a None d is e = absurd (none-some (rest, a) e)
parse_by n says s mid rest v a (Some b) d is e =
    let same = some_pair_parts mid rest b a e in
    let run = digits-tells n s mid v d in
    subst (λ x. Cut (IsMappedDigits n says) s rest x) same.1
    (subst (λ r. Cut (IsMappedDigits n says) s r b) same.0 (run.0, run.1, (v, run.2, is)))

pub said-tells : {A : Type 0} (n : ℕ) (says : ℕ → Option A) (s rest : List ℕ) (a : A)
    → mapped_digits n says s ≡ Some (rest, a) → Cut (IsMappedDigits n says) s rest a
said-tells n says s rest a e =
    option_and_then_some (λ f. option_map (λ b. (f.0, b)) (says f.1)) (digits n s) (rest, a) e
    (λ x d h. parse_by n says s x.0 rest x.1 a (says x.1) d refl h)

pub said-found : {A : Type 0} (n : ℕ) (says : ℕ → Option A) (s rest : List ℕ) (a : A)
    → Cut (IsMappedDigits n says) s rest a → mapped_digits n says s ≡ Some (rest, a)
said-found n says s rest a cut =
    let is = cut.2.2 in
    rw (digits-cut n s rest cut.2.0 (cut.0, cut.1, cut.2.1), is) refl

-- a sign
pub sign-tells : (s rest : List ℕ) (v : Sign) → sign s ≡ Some (rest, v) → Cut IsSign s rest v
unfolding sign
sign-tells [] rest v e = absurd (none-some (rest, v) e)
sign-tells (c ∷ s) rest v e = elim (cases_Bool (nat_eq c 45)) [
  | inl f ↦
      let same = some_pair_parts s rest Negative v (rw f at e) in
      subst (λ x. Cut IsSign (c ∷ s) rest x) same.1
      (c ∷ [], ap (λ r. c ∷ r) same.0, ap (λ d. d ∷ []) (eqb-true c 45 f))
  | inr f ↦ elim (cases_Bool (nat_eq c 43)) [
    | inl g ↦
        let same = some_pair_parts s rest Positive v (rw (f, g) at e) in
        subst (λ x. Cut IsSign (c ∷ s) rest x) same.1
        (c ∷ [], ap (λ r. c ∷ r) same.0, ap (λ d. d ∷ []) (eqb-true c 43 g))
    | inr g ↦ absurd (none-some (rest, v) (rw (f, g) at e))
  ]
]

-- a year
year_alone : (s rest : List ℕ) (v : ℤ) (o : Option (List ℕ × ℕ))
    → digits 4 s ≡ o → option_map {U = List ℕ × ℤ} (λ f. (f.0, pos f.1)) o ≡ Some (rest, v) → Cut IsYear s rest v
year_alone s rest v None d e = absurd (none-some (rest, v) e)
year_alone s rest v (Some f) d e =
    let same = some_pair_parts f.0 rest (pos f.1) v e in
    let run = digits-tells 4 s f.0 f.1 d in
    subst (λ r. Cut IsYear s r v) same.0 (run.0, run.1, ((Positive, f.1), sym same.1, inr (refl, refl, run.2)))

year_signed : (s mid rest : List ℕ) (sg : Sign) (v : ℤ) (o : Option (List ℕ × ℕ))
    → Cut IsSign s mid sg → digits 6 mid ≡ o → option_map {U = List ℕ × ℤ} (λ f. (f.0, with_sign sg f.1)) o ≡ Some (rest, v)
    → Cut IsYear s rest v
year_signed s mid rest sg v None first d e = absurd (none-some (rest, v) e)
year_signed s mid rest sg v (Some f) first d e =
    let same = some_pair_parts f.0 rest (with_sign sg f.1) v e in
    let run = digits-tells 6 mid f.0 f.1 d in
    let cut = signed_cut false (IsDigitRun 6 6) (IsDigitRun 4 4) s mid f.0 sg f.1 first run in
    subst (λ r. Cut IsYear s r v) same.0 (cut.0, cut.1, ((sg, f.1), sym same.1, cut.2))

year_by : (s rest : List ℕ) (v : ℤ) (o : Option (List ℕ × Sign))
    → sign s ≡ o → year_after s o ≡ Some (rest, v) → Cut IsYear s rest v
year_by s rest v None d e = year_alone s rest v (digits 4 s) refl e
year_by s rest v (Some f) d e =
    year_signed s f.0 rest f.1 v (digits 6 f.0) (sign-tells s f.0 f.1 d) refl e

pub year-tells : (s rest : List ℕ) (v : ℤ) → year s ≡ Some (rest, v) → Cut IsYear s rest v
unfolding year
year-tells s rest v e = year_by s rest v (sign s) refl e

year_of : (s rest text : List ℕ) (v : ℤ) (sg : Sign) (n : ℕ) → s ≡ text ++ rest → v ≡ with_sign sg n
    → IsSigned false (IsDigitRun 6 6) (IsDigitRun 4 4) text rest (sg, n) → year s ≡ Some (rest, v)
unfolding year
year_of s rest text v sg n e is (inl (tail, cut, run)) =
    let first = sign-cut s (tail ++ rest) sg (sign_byte sg ∷ [], e ∙ ap (λ t. t ++ rest) cut, refl) in
    let number = digits-cut 6 (tail ++ rest) rest n (tail, refl, run) in
    rw (first, number, is) refl
year_of s rest text v sg n e is (inr (free, plus, run)) =
    let none = sign-no_cut s
    (λ t r u cut mark.
    no_sign_first padding.Zero 4 4 text rest r n u (omega arith) run
    (sym e ∙ cut ∙ ap (λ x. x ++ r) mark)) in
    let number = digits-cut 4 s rest n (text, e, run) in
    rw (none, number, is, plus) refl

pub year-found : (s rest : List ℕ) (v : ℤ) → Cut IsYear s rest v → year s ≡ Some (rest, v)
year-found s rest v cut = year_of s rest cut.0 v cut.2.0.0 cut.2.0.1 cut.1 cut.2.1 cut.2.2

-- each piece finds exactly the prefixes that its relation allows
pub pieces-are_cuts : IsoPiecesAreCuts
unfolding month weekday positive up_to
pieces-are_cuts = record {
  digits = λ n s rest v. (digits-tells n s rest v, digits-cut n s rest v);
  sign = λ s rest v. (sign-tells s rest v, sign-cut s rest v);
  year = λ s rest v. (year-tells s rest v, year-found s rest v);
  month = λ s rest v. (said-tells 2 (numbered months) s rest v, said-found 2 (numbered months) s rest v);
  weekday = λ s rest v. (said-tells 1 (numbered weekdays) s rest v, said-found 1 (numbered weekdays) s rest v);
  positive = λ n s rest v. (said-tells n not_zero s rest v, said-found n not_zero s rest v);
  up_to = λ greatest n s rest v.
      (said-tells n (at_most greatest) s rest v, said-found n (at_most greatest) s rest v);
  number = λ s rest v. (number-tells s rest v, number-found s rest v);
}
