-- The digits of a fraction of a second: the first nine count, and later ones are skipped.
use Rattle.std.proofs.Common.{◌≡◌, ℕ, ◌+◌, ◌-◌, ◌*◌, ◌≤◌, List, [], ◌∷◌, ◌++◌, length, take, drop, ap, sym, ◌∙◌, inl, arith, length-append, append_assoc, ◌^◌, ◌<◌, ◌⊎◌, get_or, refl, inr, subst, mul-le-mul_right, add-mul}
use Rattle.std.proofs.lemmas.List.{length-take-le, take-append-drop, take-append-le, append-nil, take_all, length-take}
use Rattle.std.proofs.lemmas.Bool.{cases_lt}
use Rattle.std.proofs.lemmas.Nat.{pow-add}
use Rattle.std.proofs.Math.ListN.{drop_of_length-le}
use Rattle.time_digits.specs.Digits.{IsDigitByte, Cut, AllDigits, digits_value, IsDigitRun, NoCut, IsDigit, NoDigitFirst, IsDigitRunUpTo, fraction_nanoseconds, IsFraction}
use Rattle.time_digits.proofs.Runs.{AllDigits-push, digits_value-push, AllDigits-append, AllDigits-take, digits_value-below, pow-mono, IsDigitRun-below}
use Rattle.time_digits.proofs.WordBytes.{first_byte, first_three}

-- ---- Runs of an exact number of digits

-- the first bytes are digits
pub exact_cut : (n v : ℕ) (s : List ℕ) → n ≤ length s → AllDigits (take n s) → v ≡ digits_value (take n s) → Cut (IsDigitRun n n) s (drop n s) v
exact_cut n v s h digits is =
    let l : length (take n s) ≡ n = length-take-le n s h in (
      take n s,
      sym (take-append-drop n s),
      record { digits = digits; enough = omega arith; within = omega arith; ends = inl l; is = is },
    )

-- a digit after eight digits
pub nine_cut : (s mid rest : List ℕ) (a c : ℕ) → Cut (IsDigitRun 8 8) s mid a → Cut IsDigitByte mid rest c → Cut (IsDigitRun 9 9) s rest (10 * a + (c - 48))
nine_cut s mid rest a c eight ninth =
    let l = length-append eight.0 (c ∷ []) in
    let long : length (eight.0 ++ c ∷ []) ≡ 9 = omega (arith, eight.2.enough, eight.2.within) in (
      eight.0 ++ c ∷ [],
      eight.1 ∙ ap (λ t. eight.0 ++ t) (ninth.1 ∙ ap (λ t. t ++ rest) ninth.2.0) ∙ sym (append_assoc eight.0 (c ∷ []) rest),
      record {
        digits = AllDigits-push eight.0 c eight.2.digits ninth.2.1;
        enough = omega arith;
        within = omega arith;
        ends = inl long;
        is = ap (λ v. 10 * v + (c - 48)) eight.2.is ∙ sym (digits_value-push eight.0 c);
      },
    )

-- one more digit is skipped
pub digits_more : (s digits rest : List ℕ) → s ≡ digits ++ rest → AllDigits digits → 1 ≤ length rest → IsDigit (get_or rest 0 0)
    → (more : List ℕ) × (s ≡ more ++ take (length rest - 1) (drop 1 rest)) × AllDigits more
digits_more s digits rest e all h d =
    let c = get_or rest 0 0 in
    let tail = take (length rest - 1) (drop 1 rest) in
    let whole = e ∙ ap (λ r. digits ++ r) (first_byte rest h) ∙ sym (append_assoc digits (c ∷ []) tail) in
    (digits ++ c ∷ [], whole, AllDigits-push digits c all d)

tens : (k : ℕ) → k ≤ 9 → 10 ^ k * 10 ^ (9 - k) ≡ 10 ^ 9
tens k h =
    let all : k + (9 - k) ≡ 9 = omega arith in
    sym (pow-add 10 k (9 - k)) ∙ ap (λ n. 10 ^ n) all

one_more : (v u p : ℕ) → v < p → 1 ≤ u → v * u < p * u
one_more v u p h one =
    let more : (v + 1) * u ≤ p * u = mul-le-mul_right u (omega arith) in
    let sum : (v + 1) * u ≡ v * u + u = omega (arith, add-mul v 1 u) in
    omega arith

-- a number of at most nine decimal places is less than a second
pub nanoseconds_below : (digits n : ℕ) → digits ≤ 9 → n < 10 ^ digits → n * 10 ^ (9 - digits) < 10 ^ 9
nanoseconds_below digits n h below =
    let second = tens digits h in
    let one = pow-mono 0 (9 - digits) (omega arith) in
    let less = one_more n (10 ^ (9 - digits)) (10 ^ digits) below (omega arith) in
    omega arith

-- a fraction of a second is less than a second
pub fraction_nanoseconds-below : (text : List ℕ) → AllDigits text → fraction_nanoseconds text ≤ 999999999
fraction_nanoseconds-below text all =
    let nine = take 9 text in
    let within : length nine ≤ 9 = omega (arith, length-take 9 text) in
    let below = nanoseconds_below (length nine) (digits_value nine) within (digits_value-below nine (AllDigits-take 9 text all)) in
    let left : 9 - length text ≡ 9 - length nine = omega (arith, length-take 9 text) in
    let same = ap (λ k. digits_value nine * 10 ^ k) left in
    omega arith

read_count : (s text rest : List ℕ) → s ≡ text ++ rest → length s - length rest ≡ length text
read_count s text rest e = omega (arith, ap length e, length-append text rest)

-- the nanoseconds of the digits that a parser of up to nine digits read fit
pub fraction_fits : (s rest : List ℕ) (value unit greatest : ℕ) → Cut (IsDigitRunUpTo greatest 1 9) s rest value
    → unit ≡ 10 ^ (9 - (length s - length rest)) → value * unit < 10 ^ 9
fraction_fits s rest value unit greatest cut worth =
    let run = cut.2.0 in
    let count = read_count s cut.0 rest cut.1 in
    let below : value < 10 ^ length cut.0 = rw run.is (digits_value-below cut.0 run.digits) in
    let small = nanoseconds_below (length cut.0) value run.within below in
    let same : value * unit ≡ value * 10 ^ (9 - length cut.0) = ap (λ u. value * u) worth ∙ ap (λ k. value * 10 ^ (9 - k)) count in
    omega arith

no_more : (digits rest : List ℕ) → AllDigits digits → NoDigitFirst (digits ++ rest) → length digits ≡ 0
no_more [] rest all ends = refl
no_more (d ∷ digits) rest all ends = absurd (ends all.0)

-- nine digits and any after them, or fewer digits with none after them, in nanoseconds
nine_count : (text more : List ℕ) → (length text ≡ 9) ⊎ (length more ≡ 0) → length text ≤ 9
    → digits_value text * 10 ^ (9 - length text) ≡ fraction_nanoseconds (text ++ more)
nine_count text more (inl nine) h =
    let first : take 9 (text ++ more) ≡ text = take-append-le 9 text more (omega arith) ∙ take_all 9 text h in
    let places : 9 - length text ≡ 9 - length (text ++ more) = omega (arith, length-append text more) in
    ap (λ n. digits_value text * 10 ^ n) places ∙ ap (λ t. digits_value t * 10 ^ (9 - length (text ++ more))) (sym first)
nine_count text [] (inr none) h =
    let first : take 9 text ≡ text = take_all 9 text h in
    ap (λ t. digits_value t * 10 ^ (9 - length text)) (sym first) ∙ ap fraction_nanoseconds (sym (append-nil text))
nine_count text (c ∷ more) (inr none) h = absurd (omega arith)

-- The digits that a parser of up to nine digits read, and those after them, are the digits of a fraction.
pub record IsRead (text more : List ℕ) (nanoseconds : ℕ) : Type 0 where
  pub digits : AllDigits (text ++ more)
  pub ended : (length text ≡ 9) ⊎ (length more ≡ 0)
  pub is : nanoseconds ≡ fraction_nanoseconds (text ++ more)

-- the digits that a parser of up to nine digits left unread, and those that it read
pub read_more : (s text more rest : List ℕ) (value unit : ℕ) → s ≡ text ++ (more ++ rest) → IsDigitRun 1 9 text (more ++ rest) value
    → AllDigits more → unit ≡ 10 ^ (9 - (length s - length (more ++ rest))) → IsRead text more (value * unit)
read_more s text more rest value unit e run all worth =
    let ended : (length text ≡ 9) ⊎ (length more ≡ 0) =
    elim run.ends [ inl nine ↦ inl nine | inr none ↦ inr (no_more more rest all none) ] in
    let count = read_count s text (more ++ rest) e in
    record {
      digits = AllDigits-append text more run.digits all;
      ended = ended;
      is = ap (λ u. value * u) worth ∙ ap (λ k. value * 10 ^ (9 - k)) count ∙ ap (λ v. v * 10 ^ (9 - length text)) run.is
          ∙ nine_count text more ended run.within;
    }

-- all leading digits
pub fraction_cut : (s mid rest : List ℕ) (value unit greatest : ℕ) → Cut (IsDigitRunUpTo greatest 1 9) s mid value
    → unit ≡ 10 ^ (9 - (length s - length mid)) → (digits : List ℕ) × (mid ≡ digits ++ rest) × AllDigits digits × NoDigitFirst rest
    → Cut IsFraction s rest (value * unit)
fraction_cut s mid rest value unit greatest cut worth over =
    let text = cut.0 in
    let more = over.0 in
    let run = subst (λ t. IsDigitRun 1 9 text t value) over.1 cut.2.0 in
    let whole : s ≡ text ++ (more ++ rest) = cut.1 ∙ ap (λ r. text ++ r) over.1 in
    let read = read_more s text more rest value unit whole run over.2 (worth ∙ ap (λ m. 10 ^ (9 - (length s - length m))) over.1) in (
      text ++ more,
      whole ∙ sym (append_assoc text more rest),
      record { digits = read.digits; enough = omega (arith, length-append text more, run.enough); ends = over.3; is = read.is },
    )

-- nine digits, and those that are dropped
pub fraction_nine : (s mid rest : List ℕ) (value : ℕ) → Cut (IsDigitRun 9 9) s mid value
    → (digits : List ℕ) × (mid ≡ digits ++ rest) × AllDigits digits × NoDigitFirst rest → Cut IsFraction s rest value
fraction_nine s mid rest value cut over =
    let run = cut.2 in
    let long : length cut.0 ≡ 9 = omega (arith, run.enough, run.within) in
    let up_to : IsDigitRun 1 9 cut.0 mid value = record {
      digits = run.digits;
      enough = omega arith;
      within = run.within;
      ends = run.ends;
      is = run.is;
    } in
    let count = read_count s cut.0 mid cut.1 in
    let worth : 1 ≡ 10 ^ (9 - (length s - length mid)) = sym (ap (λ k. 10 ^ (9 - k)) (count ∙ long)) in
    let found = fraction_cut s mid rest value 1 value (cut.0, cut.1, (up_to, omega arith)) worth over in
    subst (λ v. Cut IsFraction s rest v) (omega arith) found

-- if a parser of one to nine digits finds nothing, no prefix of the input is nine or more digits, or one or more that no digit follows
pub no_digits : (greatest : ℕ) (s text rest : List ℕ) → 10 ^ 9 ≤ greatest + 1 → NoCut (IsDigitRunUpTo greatest 1 9) s → s ≡ text ++ rest
    → AllDigits text → 1 ≤ length text → (9 ≤ length text) ⊎ NoDigitFirst rest → ⊥
no_digits greatest s text rest room none e all enough ends =
    let nine = take 9 text in
    let l = length-take 9 text in
    let within : length nine ≤ 9 = omega arith in
    let digits = AllDigits-take 9 text all in
    let small = pow-mono (length nine) 9 within in
    let below = digits_value-below nine digits in
    let cut : s ≡ nine ++ (drop 9 text ++ rest) =
    e ∙ ap (λ t. t ++ rest) (sym (take-append-drop 9 text)) ∙ append_assoc nine (drop 9 text) rest in
    let over : (length nine ≡ 9) ⊎ NoDigitFirst (drop 9 text ++ rest) = elim (cases_lt (length text) 9) [
      | inl short ↦ elim ends [
        | inl long ↦ absurd (omega arith)
        | inr none ↦ inr (subst (λ d. NoDigitFirst (d ++ rest)) (sym (drop_of_length-le text {i = 9} (omega arith))) none)
      ]
      | inr long ↦ inl (omega arith)
    ] in
    let run : IsDigitRun 1 9 nine (drop 9 text ++ rest) (digits_value nine) =
    record { digits = digits; enough = omega arith; within = within; ends = over; is = refl } in
    none nine (drop 9 text ++ rest) (digits_value nine) cut (run, omega arith)

pub fraction_none : (greatest : ℕ) (s : List ℕ) → 10 ^ 9 ≤ greatest + 1 → NoCut (IsDigitRunUpTo greatest 1 9) s → NoCut IsFraction s
fraction_none greatest s room none text rest v e found =
    no_digits greatest s text rest room none e found.digits found.enough (inr found.ends)

-- ---- Runs of three digits, and the fractions of a second of three digits and of six

-- three leading digits
pub three_cut : (s : List ℕ) (value : ℕ) → 3 ≤ length s → IsDigit (get_or s 0 0) → IsDigit (get_or s 1 0) → IsDigit (get_or s 2 0)
    → value ≡ 100 * (get_or s 0 0 - 48) + 10 * (get_or s 1 0 - 48) + (get_or s 2 0 - 48)
    → Cut (IsDigitRun 3 3) s (take (length s - 3) (drop 3 s)) value
three_cut s value h i j k e = (
  get_or s 0 0 ∷ get_or s 1 0 ∷ get_or s 2 0 ∷ [],
  first_three s h,
  record { digits = (i, (j, (k, tt))); enough = omega arith; within = omega arith; ends = inl refl; is = omega arith },
)

pub three_below : (s rest : List ℕ) (value : ℕ) → Cut (IsDigitRun 3 3) s rest value → value < 1000
three_below s rest value cut = IsDigitRun-below 3 3 cut.0 rest value cut.2

no_digit : (s : List ℕ) → NoCut IsDigitByte s → NoDigitFirst s
no_digit [] none = tt
no_digit (c ∷ s) none = λ digit. none (c ∷ []) s c refl (refl, digit)

three_long : (text rest : List ℕ) (value : ℕ) → IsDigitRun 3 3 text rest value → length text ≡ 3
three_long text rest value run = omega (arith, run.enough, run.within)

-- the value of a few digits
nanoseconds_of : (text : List ℕ) (n : ℕ) → length text ≡ n → n ≤ 9 → fraction_nanoseconds text ≡ digits_value text * 10 ^ (9 - n)
nanoseconds_of text n l h =
    ap (λ t. digits_value t * 10 ^ (9 - length text)) (take_all 9 text (omega arith)) ∙ ap (λ k. digits_value text * 10 ^ (9 - k)) l

-- a fraction of three digits
pub three_fraction : (s rest : List ℕ) (a : ℕ) → Cut (IsDigitRun 3 3) s rest a → NoCut IsDigitByte rest
    → Cut IsFraction s rest (1000000 * a)
three_fraction s rest a cut none =
    let run = cut.2 in
    let said = nanoseconds_of cut.0 3 (three_long cut.0 rest a run) (omega arith) in (
      cut.0,
      cut.1,
      record {
        digits = run.digits;
        enough = omega (arith, run.enough);
        ends = no_digit rest none;
        is = omega (arith, run.is, said);
      },
    )

six_value : (t u : List ℕ) → length t ≡ 3 → length u ≡ 3 → digits_value (t ++ u) ≡ 1000 * digits_value t + digits_value u
six_value (a ∷ b ∷ c ∷ []) (d ∷ e ∷ f ∷ []) l k = omega arith
six_value [] u l k = absurd (omega arith)
six_value (a ∷ []) u l k = absurd (omega arith)
six_value (a ∷ b ∷ []) u l k = absurd (omega arith)
six_value (a ∷ b ∷ c ∷ d ∷ t) u l k = absurd (omega arith)
six_value (a ∷ b ∷ c ∷ []) [] l k = absurd (omega arith)
six_value (a ∷ b ∷ c ∷ []) (d ∷ []) l k = absurd (omega arith)
six_value (a ∷ b ∷ c ∷ []) (d ∷ e ∷ []) l k = absurd (omega arith)
six_value (a ∷ b ∷ c ∷ []) (d ∷ e ∷ f ∷ g ∷ u) l k = absurd (omega arith)

-- a fraction of six digits
pub six_fraction : (s mid rest : List ℕ) (a b : ℕ) → Cut (IsDigitRun 3 3) s mid a → Cut (IsDigitRun 3 3) mid rest b
    → NoCut IsDigitByte rest → Cut IsFraction s rest (1000000 * a + 1000 * b)
six_fraction s mid rest a b first second none =
    let t = first.0 in
    let u = second.0 in
    let lt = three_long t mid a first.2 in
    let lu = three_long u rest b second.2 in
    let long : length (t ++ u) ≡ 6 = omega (arith, length-append t u) in
    let said = nanoseconds_of (t ++ u) 6 long (omega arith) in (
      t ++ u,
      first.1 ∙ ap (λ r. t ++ r) second.1 ∙ sym (append_assoc t u rest),
      record {
        digits = AllDigits-append t u first.2.digits second.2.digits;
        enough = omega arith;
        ends = no_digit rest none;
        is = omega (arith, first.2.is, second.2.is, said, six_value t u lt lu);
      },
    )
