-- The text of a number is a run of digits that represents it.
use Rattle.std.specs.Prelude.{unsigned_abs, ◌==◌}
use Rattle.std.specs.Fmt.{decimal}
use Rattle.std.specs.Int.{w128, cast_signed as to_z, cast_unsigned as of_z}
use Rattle.std.proofs.Common.{◌≡◌, ℕ, suc, ◌^◌, ◌<◌, ◌≤◌, ◌/◌, ℤ, pos, negsuc, length, arith, ◌⊎◌, zero, ◌+◌, ◌-◌, ◌*◌, ◌%◌, Bool, true, false, List, [], ◌∷◌, ◌++◌, replicate, inl, inr, refl, ap, subst, sym, ◌∙◌, codes}
use Rattle.std.proofs.lemmas.Fmt.{length-decimal-le_wide}
use Rattle.std.proofs.Math.Nat.{div-le_self}
use Rattle.std.proofs.lemmas.Int.{ints, to_z-of_z}
use Rattle.std.proofs.lemmas.Bool.Decides.{nat_tests}
use Rattle.time_values.specs.MovedClocks.{IsNear}
use Rattle.time_values.specs.DisplayTexts.{fixed}
use Rattle.time_formatting.proofs.KeptDigits.{fixed-length}
use Rattle.time_digits.specs.Digits.{AllDigits, IsDigitRun, IsPaddedRun, NoDigitFirst, NoSpaceFirst, digits_value}
use Rattle.time_digits.specs.declared.Padding.{Padding}
use Rattle.time_digits.specs.declared.Padding.TheVariants as padding
use Rattle.time_digits.proofs.Runs.{AllDigits-push, digits_value-push}
use Rattle.time_formatting.specs.Numbers.{whole, filled, padded}
use Rattle.time_formatting.specs.Components.{PaddedStops}

-- ---- Counts of units have few digits

pub count_short : (unit : ℕ) (z : ℤ) → 1 ≤ unit → unsigned_abs z < 10 ^ 30 → length (decimal (unsigned_abs (whole unit z))) ≤ 31
count_short unit (pos n) least short =
    let most = div-le_self n unit in length-decimal-le_wide 31 (n / unit) (omega arith) (omega arith) (omega arith)
count_short unit (negsuc n) least short =
    let most = div-le_self n unit in length-decimal-le_wide 31 (suc (n / unit)) (omega arith) (omega arith) (omega arith)

pub same_few : (n z : ℤ) → z ≡ n → unsigned_abs n < 10 ^ 30 → unsigned_abs z < 10 ^ 30
same_few n z is few = rw is few

-- a moment's nanoseconds have at most 30 digits
pub near_short : (n : ℤ) → IsNear n → unsigned_abs (to_z w128 (of_z w128 n)) < 10 ^ 30
near_short n near =
    let kept = to_z-of_z w128 n (omega (arith, ints)) in rw kept (omega (arith, ints))

pub fixed-digits : (k n : ℕ) → AllDigits (fixed k n)
unfolding fixed
fixed-digits zero n = tt
fixed-digits (suc k) n = AllDigits-push (fixed k (n / 10)) (48 + n % 10) (fixed-digits k (n / 10)) (omega arith, omega arith)

pub fixed-value : (k n : ℕ) → n < 10 ^ k → digits_value (fixed k n) ≡ n
unfolding fixed
fixed-value zero n below = omega arith
fixed-value (suc k) n below =
    let is = fixed-value k (n / 10) (omega arith) in
    digits_value-push (fixed k (n / 10)) (48 + n % 10) ∙ omega arith

-- a number with all its digits
pub fixed_run : (least most k n : ℕ) (rest : List ℕ) → least ≤ k → k ≤ most → n < 10 ^ k → (k ≡ most) ⊎ NoDigitFirst rest
    → IsDigitRun least most (fixed k n) rest n
fixed_run least most k n rest few within below ends =
    let long = fixed-length k n in record {
      digits = fixed-digits k n;
      enough = omega arith;
      within = omega arith;
      ends = elim ends [ inl all ↦ inl (long ∙ all) | inr none ↦ inr none ];
      is = sym (fixed-value k n below);
    }

no_space : (text rest : List ℕ) → 1 ≤ length text → AllDigits text → NoSpaceFirst (text ++ rest)
no_space [] rest some all = absurd (omega arith)
no_space (c ∷ text) rest some all = λ e. omega (arith, all.0.0)

-- digits alone are a run with each padding
pub run_padded : (p : Padding) (least most : ℕ) (text rest : List ℕ) (n : ℕ) → 1 ≤ least → IsDigitRun least most text rest n
    → IsPaddedRun p least most text rest n
run_padded padding.Zero least most text rest n some run = run
run_padded padding.None least most text rest n some run = record {
  digits = run.digits;
  enough = omega (arith, run.enough);
  within = run.within;
  ends = run.ends;
  is = run.is;
}
run_padded padding.Space least most text rest n some run = record {
  spaces = 0;
  digits = text;
  cut = refl;
  few = omega arith;
  all = inr (no_space text rest (omega (arith, run.enough)) run.digits);
  run = record {
    digits = run.digits;
    enough = omega (arith, run.enough);
    within = omega (arith, run.within);
    ends = elim run.ends [ inl all ↦ inl (omega (arith, all)) | inr none ↦ inr none ];
    is = run.is;
  };
}

-- digits, and those from the first one that isn't 0, or the last
record IsStripped (digits : List ℕ) : Type 0 where
  zeros : ℕ
  left : List ℕ
  all : AllDigits left
  some : 1 ≤ length left
  long : zeros + length left ≡ length digits
  same : digits_value left ≡ digits_value digits
  zeroed : filled (codes "0") digits ≡ digits
  spaced : filled (codes " ") digits ≡ replicate zeros 32 ++ left
  bare : filled [] digits ≡ left

stripped_more : (c d : ℕ) (ds : List ℕ) (b : Bool) → (c == 48) ≡ b → AllDigits (c ∷ d ∷ ds) → IsStripped (d ∷ ds) → IsStripped (c ∷ d ∷ ds)
stripped_more c d ds true is all less =
    let zero : c ≡ 48 = grind (arith, nat_tests) in record {
      zeros = suc less.zeros;
      left = less.left;
      all = less.all;
      some = less.some;
      long = omega (arith, less.long);
      same = less.same ∙ omega arith ∙ ap (λ x. (x - 48) * 10 ^ length (d ∷ ds) + digits_value (d ∷ ds)) (sym zero);
      zeroed = rw is (ap (λ t. 48 ∷ t) less.zeroed ∙ ap (λ x. x ∷ d ∷ ds) (sym zero));
      spaced = rw is (ap (λ t. 32 ∷ t) less.spaced);
      bare = rw is less.bare;
    }
stripped_more c d ds false is all less = record {
  zeros = 0;
  left = c ∷ d ∷ ds;
  all = all;
  some = omega arith;
  long = omega arith;
  same = refl;
  zeroed = rw is refl;
  spaced = rw is refl;
  bare = rw is refl;
}

stripped : (digits : List ℕ) → 1 ≤ length digits → AllDigits digits → IsStripped digits
stripped [] some all = absurd (omega arith)
stripped (c ∷ []) some all = record {
  zeros = 0;
  left = c ∷ [];
  all = all;
  some = some;
  long = omega arith;
  same = refl;
  zeroed = refl;
  spaced = refl;
  bare = refl;
}
stripped (c ∷ d ∷ ds) some all = stripped_more c d ds (c == 48) refl all (stripped (d ∷ ds) (omega arith) all.1)

left_run : (least most n : ℕ) (digits rest : List ℕ) (s : IsStripped digits) → n ≡ digits_value digits → least ≤ length s.left → length s.left ≤ most
    → (length s.left ≡ most) ⊎ NoDigitFirst rest → IsDigitRun least most s.left rest n
left_run least most n digits rest s is enough within ends = record {
  digits = s.all;
  enough = enough;
  within = within;
  ends = ends;
  is = is ∙ sym s.same;
}

-- A number with a padding has its full width, or no digit follows. Without a padding no digit follows in any case.
pub padded_run : (p : Padding) (k most n : ℕ) (rest : List ℕ) → 1 ≤ k → k ≤ most → n < 10 ^ k
    → ((k ≡ most) × PaddedStops p rest) ⊎ NoDigitFirst rest → IsPaddedRun p k most (padded p k n) rest n
padded_run padding.Zero k most n rest some within below ends =
    let s = stripped (fixed k n) (omega (arith, fixed-length k n)) (fixed-digits k n) in
    subst (λ t. IsDigitRun k most t rest n) (sym s.zeroed)
    (fixed_run k most k n rest (omega arith) within below (elim ends [ inl both ↦ inl both.0 | inr none ↦ inr none ]))
padded_run padding.None k most n rest some within below ends =
    let long = fixed-length k n in
    let s = stripped (fixed k n) (omega (arith, long)) (fixed-digits k n) in
    subst (λ t. IsDigitRun 1 most t rest n) (sym s.bare)
    (left_run 1 most n (fixed k n) rest s (sym (fixed-value k n below)) s.some (omega (arith, s.long, long))
    (elim ends [ inl both ↦ inr both.1 | inr none ↦ inr none ]))
padded_run padding.Space k most n rest some within below ends =
    let long = fixed-length k n in
    let s = stripped (fixed k n) (omega (arith, long)) (fixed-digits k n) in
    let all = s.long in record {
      spaces = s.zeros;
      digits = s.left;
      cut = s.spaced;
      few = omega (arith, all, s.some, long);
      all = inr (no_space s.left rest s.some s.all);
      run = left_run (k - s.zeros) (most - s.zeros) n (fixed k n) rest s (sym (fixed-value k n below)) (omega (arith, all, long)) (omega (arith, all, long))
          (elim ends [ inl both ↦ inl (omega (arith, all, long, both.0)) | inr none ↦ inr none ]);
    }
