-- Runs of digits: adding a digit to one, and that at most one cut of a text is a run.
use Rattle.std.proofs.Common.{◌≡◌, ℕ, zero, suc, ◌+◌, ◌-◌, ◌*◌, ◌^◌, ◌<◌, ◌≤◌, ◌⊎◌, List, [], ◌∷◌, ◌++◌, length, take, drop, get_or, refl, ap, sym, ◌∙◌, inl, inr, arith, subst, length-append, pow-suc, mul_assoc, mul_comm, mul-le-mul_right, replicate, append_assoc, Option, Some, None}
use Rattle.std.proofs.lemmas.List.{length-take, length-take-le, take_all, take-append-drop, take_more}
use Rattle.std.proofs.lemmas.Bool.{cases_lt}
use Rattle.time_digits.specs.Digits.{Cut, NoCut, IsDigit, AllDigits, digits_value, NoDigitFirst, IsDigitRun, IsDigitRunUpTo, Finds, NoSpaceFirst, IsSpacedRun, IsPaddedRun, IsPaddedRunUpTo}
use Rattle.time_digits.specs.declared.Padding.{Padding}
use Rattle.time_digits.specs.declared.Padding.TheVariants as padding
use Rattle.time_digits.specs.declared.ParsedItem.{ParsedItem}
use Rattle.time_digits.proofs.WordBytes.{take-drop, IsUnique}

pub AllDigits-push : (xs : List ℕ) (c : ℕ) → AllDigits xs → IsDigit c → AllDigits (xs ++ c ∷ [])
AllDigits-push [] c h d = (d, tt)
AllDigits-push (x ∷ xs) c h d = (h.0, AllDigits-push xs c h.1 d)

ten_times : (d p : ℕ) → d * (10 * p) ≡ 10 * (d * p)
ten_times d p = omega (arith, mul_assoc d 10 p, mul_assoc 10 d p, mul_comm d 10)

pow_next : (n : ℕ) → 10 ^ suc n ≡ 10 * 10 ^ n
pow_next n = omega (arith, pow-suc 10 n)

pub digits_value-push : (xs : List ℕ) (c : ℕ) → digits_value (xs ++ c ∷ []) ≡ 10 * digits_value xs + (c - 48)
digits_value-push [] c = omega arith
digits_value-push (x ∷ xs) c =
    let one_more : length (xs ++ c ∷ []) ≡ suc (length xs) = omega (arith, length-append xs (c ∷ [])) in
    let place : (x - 48) * 10 ^ length (xs ++ c ∷ []) ≡ 10 * ((x - 48) * 10 ^ length xs) =
    ap (λ n. (x - 48) * 10 ^ n) one_more ∙ ap (λ p. (x - 48) * p) (pow_next (length xs)) ∙ ten_times (x - 48) (10 ^ length xs) in
    let others = digits_value-push xs c in
    omega arith

pub digits_value-below : (xs : List ℕ) → AllDigits xs → digits_value xs < 10 ^ length xs
digits_value-below [] h = omega arith
digits_value-below (x ∷ xs) h =
    let others = digits_value-below xs h.1 in
    let first : (x - 48) * 10 ^ length xs ≤ 9 * 10 ^ length xs = mul-le-mul_right (10 ^ length xs) (omega (arith, h.0)) in
    let place = pow-suc 10 (length xs) in
    omega arith

pub pow-mono : (m n : ℕ) → m ≤ n → 10 ^ m ≤ 10 ^ n
pow-mono m zero h = let same : m ≡ 0 = omega arith in rw same (omega arith)
pow-mono m (suc n) h =
    let place = pow-suc 10 n in
    elim (cases_lt n m) [
      | inl past ↦ let same : m ≡ suc n = omega arith in rw same (omega arith)
      | inr before ↦ let less = pow-mono m n before in omega arith
    ]

pub AllDigits-append : (xs ys : List ℕ) → AllDigits xs → AllDigits ys → AllDigits (xs ++ ys)
AllDigits-append [] ys p q = q
AllDigits-append (x ∷ xs) ys p q = (p.0, AllDigits-append xs ys p.1 q)

pub AllDigits-take : (n : ℕ) (xs : List ℕ) → AllDigits xs → AllDigits (take n xs)
AllDigits-take zero xs h = tt
AllDigits-take (suc n) [] h = tt
AllDigits-take (suc n) (x ∷ xs) h = (h.0, AllDigits-take n xs h.1)

pub AllDigits-at : (xs : List ℕ) (n : ℕ) → AllDigits xs → n < length xs → IsDigit (get_or xs n 0)
AllDigits-at [] n h below = absurd (omega arith)
AllDigits-at (x ∷ xs) zero h below = h.0
AllDigits-at (x ∷ xs) (suc n) h below = AllDigits-at xs n h.1 (omega arith)

-- the value with one more digit
pub digits_value-more : (s : List ℕ) (count : ℕ) → count < length s
    → digits_value (take (count + 1) s) ≡ 10 * digits_value (take count s) + (get_or s count 0 - 48)
digits_value-more s count h =
    let more : take (count + 1) s ≡ take count s ++ get_or s count 0 ∷ [] = take_more s count 0 h in
    ap digits_value more ∙ digits_value-push (take count s) (get_or s count 0)

-- the value split at the last digit
pub digits_value-last : (s : List ℕ) (count : ℕ) → count + 1 ≡ length s
    → digits_value s ≡ 10 * digits_value (take count s) + (get_or s count 0 - 48)
digits_value-last s count e =
    ap digits_value (sym (take_all (count + 1) s (omega arith))) ∙ digits_value-more s count (omega arith)

-- one more digit fits if the greatest number has more digits
pub digits_value-fits : (s : List ℕ) (count places greatest : ℕ) → AllDigits s → count < length s
    → 10 ^ (places - 1) ≤ greatest → count + 1 < places
    → 10 * digits_value (take count s) + (get_or s count 0 - 48) ≤ greatest
digits_value-fits s count places greatest all h room few =
    let l : length (take count s) ≡ count = length-take-le count s (omega arith) in
    let below : digits_value (take count s) < 10 ^ count =
    subst (λ n. digits_value (take count s) < 10 ^ n) l (digits_value-below (take count s) (AllDigits-take count s all)) in
    let nine = AllDigits-at s count all h in
    let place = pow-suc 10 count in
    let wide = pow-mono (suc count) (places - 1) (omega arith) in
    omega arith

-- Two runs of digits in one text end at one place, after `done` digits.
one_end : (a b x y : List ℕ) (done most : ℕ) → AllDigits a → AllDigits b → a ++ x ≡ b ++ y → done + length a ≤ most → done + length b ≤ most
    → (done + length a ≡ most) ⊎ NoDigitFirst x → (done + length b ≡ most) ⊎ NoDigitFirst y → (a ≡ b) × (x ≡ y)
one_end [] [] x y n m da db e la lb ea eb = (refl, e)
one_end [] (d ∷ b) x y n m da db e la lb (inl all) eb = absurd (omega arith)
one_end [] (d ∷ b) x y n m da db e la lb (inr ends) eb = absurd (subst NoDigitFirst e ends db.0)
one_end (c ∷ a) [] x y n m da db e la lb ea (inl all) = absurd (omega arith)
one_end (c ∷ a) [] x y n m da db e la lb ea (inr ends) = absurd (subst NoDigitFirst (sym e) ends da.0)
one_end (c ∷ a) (d ∷ b) x y n m da db e la lb ea eb =
    let tails : a ++ x ≡ b ++ y = cc in
    let ea' : ((n + 1) + length a ≡ m) ⊎ NoDigitFirst x = elim ea [ inl q ↦ inl (omega arith) | inr q ↦ inr q ] in
    let eb' : ((n + 1) + length b ≡ m) ⊎ NoDigitFirst y = elim eb [ inl q ↦ inl (omega arith) | inr q ↦ inr q ] in
    let is = one_end a b x y (n + 1) m da.1 db.1 tails (omega arith) (omega arith) ea' eb' in
    let text = is.0 in
    let rest = is.1 in
    (cc, rest)

-- two texts of digits, each followed by a text that doesn't begin with a digit
pub AllDigits-unique : (a b x y : List ℕ) → AllDigits a → AllDigits b → a ++ x ≡ b ++ y → NoDigitFirst x → NoDigitFirst y → (a ≡ b) × (x ≡ y)
AllDigits-unique a b x y p q e ends ends' = one_end a b x y 0 (length a + length b) p q e (omega arith) (omega arith) (inr ends) (inr ends')

-- at most one cut of a text is a run
pub IsDigitRun-unique : (least least' most : ℕ) (a b x y : List ℕ) (v w : ℕ) → IsDigitRun least most a x v → IsDigitRun least' most b y w
    → a ++ x ≡ b ++ y → (a ≡ b) × (x ≡ y) × (v ≡ w)
IsDigitRun-unique least least' most a b x y v w p q e =
    let ep : (0 + length a ≡ most) ⊎ NoDigitFirst x = elim p.ends [ inl h ↦ inl (omega arith) | inr h ↦ inr h ] in
    let eq : (0 + length b ≡ most) ⊎ NoDigitFirst y = elim q.ends [ inl h ↦ inl (omega arith) | inr h ↦ inr h ] in
    let is = one_end a b x y 0 most p.digits q.digits e (omega (arith, p.within)) (omega (arith, q.within)) ep eq in
    (is.0, is.1, p.is ∙ ap digits_value is.0 ∙ sym q.is)

pub IsDigitRun-one : (least most : ℕ) → IsUnique (IsDigitRun least most)
IsDigitRun-one least most a b x y v w p q e = let is = IsDigitRun-unique least least most a b x y v w p q e in (is.1, is.2)

-- the leading digits, as many as allowed, are a run
pub leading_run : (s : List ℕ) (count most : ℕ) → count ≤ length s → count ≤ most → AllDigits (take count s)
    → (count ≡ most) ⊎ NoDigitFirst (drop count s)
    → IsDigitRun 0 most (take count s) (drop count s) (digits_value (take count s))
leading_run s count most in_range within digits all =
    let l : length (take count s) ≡ count = length-take-le count s in_range in
    record {
      digits = digits;
      enough = omega arith;
      within = omega arith;
      ends = elim all [ inl most ↦ inl (l ∙ most) | inr none ↦ inr none ];
      is = refl;
    }

-- too few digits
pub IsDigitRun-short : (least most greatest count value : ℕ) (s : List ℕ)
    → IsDigitRun 0 most (take count s) (drop count s) value → count < least → NoCut (IsDigitRunUpTo greatest least most) s
IsDigitRun-short least most greatest count value s found h text rest v e (run, small) =
    let whole = sym e ∙ sym (take-append-drop count s) in
    let is = IsDigitRun-unique least 0 most text (take count s) rest (drop count s) v value run found whole in
    let l : length text ≡ length (take count s) = ap length is.0 in
    let m : length (take count s) ≤ count = omega (arith, length-take count s) in
    omega (arith, run.enough)

-- too great a value
pub IsDigitRun-great : (least most greatest count value : ℕ) (s : List ℕ)
    → IsDigitRun 0 most (take count s) (drop count s) value → greatest < value → NoCut (IsDigitRunUpTo greatest least most) s
IsDigitRun-great least most greatest count value s found h text rest v e (run, small) =
    let whole = sym e ∙ sym (take-append-drop count s) in
    let is = IsDigitRun-unique least 0 most text (take count s) rest (drop count s) v value run found whole in
    let same : v ≡ value = is.2 in
    omega arith

-- the value of a run is bounded by its number of digits
pub IsDigitRun-below : (least most : ℕ) (text rest : List ℕ) (value : ℕ) → IsDigitRun least most text rest value → value < 10 ^ most
IsDigitRun-below least most text rest value run =
    let below = digits_value-below text run.digits in
    let wide = pow-mono (length text) most run.within in
    omega (arith, run.is)

-- a run in a text has one value
pub IsDigitRun-same : (least most : ℕ) (s rest : List ℕ) (value : ℕ) → Cut (IsDigitRun least most) s rest value
    → (text after : List ℕ) (v : ℕ) → s ≡ text ++ after → IsDigitRun least most text after v → v ≡ value
IsDigitRun-same least most s rest value cut text after v e run =
    (IsDigitRun-unique least least most text cut.0 after rest v value run cut.2 (sym e ∙ cut.1)).2

-- the value of a run of digits at the start of a text
pub run_says : {N : Type 0} (least most : ℕ) (f : ℕ → N) (a b x y : List ℕ) (v w : ℕ) (m k : N) → IsDigitRun least most a x v
    → IsDigitRun least most b y w → a ++ x ≡ b ++ y → m ≡ f v → k ≡ f w → (x ≡ y) × (m ≡ k)
run_says least most f a b x y v w m k p q e says says' =
    let is = IsDigitRun-unique least least most a b x y v w p q e in
    (is.1, says ∙ ap f is.2 ∙ sym says')

-- ---- Runs of digits with a padding

no_space : (x y : List ℕ) → x ≡ 32 ∷ y → NoSpaceFirst x → ⊥
no_space x y e h = subst NoSpaceFirst e h refl

-- Two paddings of one text are equal, after `done` spaces.
one_padding : (k j : ℕ) (x y : List ℕ) (done most : ℕ) → replicate k 32 ++ x ≡ replicate j 32 ++ y → done + k ≤ most → done + j ≤ most
    → (done + k ≡ most) ⊎ NoSpaceFirst x → (done + j ≡ most) ⊎ NoSpaceFirst y → (k ≡ j) × (x ≡ y)
one_padding zero zero x y n m e lk lj ek ej = (refl, e)
one_padding zero (suc j) x y n m e lk lj (inl all) ej = absurd (omega arith)
one_padding zero (suc j) x y n m e lk lj (inr ends) ej = absurd (no_space x (replicate j 32 ++ y) e ends)
one_padding (suc k) zero x y n m e lk lj ek (inl all) = absurd (omega arith)
one_padding (suc k) zero x y n m e lk lj ek (inr ends) = absurd (no_space y (replicate k 32 ++ x) (sym e) ends)
one_padding (suc k) (suc j) x y n m e lk lj ek ej =
    let tails : replicate k 32 ++ x ≡ replicate j 32 ++ y = cc in
    let ek' : ((n + 1) + k ≡ m) ⊎ NoSpaceFirst x = elim ek [ inl q ↦ inl (omega arith) | inr q ↦ inr q ] in
    let ej' : ((n + 1) + j ≡ m) ⊎ NoSpaceFirst y = elim ej [ inl q ↦ inl (omega arith) | inr q ↦ inr q ] in
    let is = one_padding k j x y (n + 1) m tails (omega arith) (omega arith) ek' ej' in
    (ap suc is.0, is.1)

-- a padded text takes all leading spaces
spaces_same : (least most : ℕ) (s tail text rest : List ℕ) (k v : ℕ) → s ≡ replicate k 32 ++ tail → k ≤ least - 1
    → (k ≡ least - 1) ⊎ NoSpaceFirst tail → s ≡ text ++ rest → (run : IsSpacedRun least most text rest v)
    → (k ≡ run.spaces) × (tail ≡ run.digits ++ rest)
spaces_same least most s tail text rest k v cut few all e run =
    let whole : s ≡ replicate run.spaces 32 ++ (run.digits ++ rest) =
    e ∙ ap (λ t. t ++ rest) run.cut ∙ append_assoc (replicate run.spaces 32) run.digits rest in
    let here : (0 + k ≡ least - 1) ⊎ NoSpaceFirst tail = elim all [ inl q ↦ inl (omega arith) | inr q ↦ inr q ] in
    let there : (0 + run.spaces ≡ least - 1) ⊎ NoSpaceFirst (run.digits ++ rest) = elim run.all [ inl q ↦ inl (omega arith) | inr q ↦ inr q ] in
    one_padding k run.spaces tail (run.digits ++ rest) 0 (least - 1) (sym cut ∙ whole) (omega arith) (omega (arith, run.few)) here there

spaced_cut : (greatest least most k : ℕ) (s tail rest : List ℕ) (v : ℕ) → s ≡ replicate k 32 ++ tail → k ≤ least - 1
    → (k ≡ least - 1) ⊎ NoSpaceFirst tail → Cut (IsDigitRunUpTo greatest (least - k) (most - k)) tail rest v
    → Cut (IsPaddedRunUpTo greatest padding.Space least most) s rest v
spaced_cut greatest least most k s tail rest v cut few all found = (
  replicate k 32 ++ found.0,
  cut ∙ ap (λ t. replicate k 32 ++ t) found.1 ∙ sym (append_assoc (replicate k 32) found.0 rest),
  (
    record {
      spaces = k;
      digits = found.0;
      cut = refl;
      few = few;
      all = elim all [ inl q ↦ inl q | inr q ↦ inr (subst NoSpaceFirst found.1 q) ];
      run = found.2.0;
    },
    found.2.1,
  ),
)

spaced_none : (greatest least most k : ℕ) (s tail : List ℕ) → s ≡ replicate k 32 ++ tail → k ≤ least - 1
    → (k ≡ least - 1) ⊎ NoSpaceFirst tail → NoCut (IsDigitRunUpTo greatest (least - k) (most - k)) tail
    → NoCut (IsPaddedRunUpTo greatest padding.Space least most) s
spaced_none greatest least most k s tail cut few all none text rest v e (run, small) =
    let same = spaces_same least most s tail text rest k v cut few all e run in
    none run.digits rest v same.1 (subst (λ n. IsDigitRun (least - n) (most - n) run.digits rest v) (sym same.0) run.run, small)

-- what a parser finds after the spaces, it finds in the whole text
pub after_spaces : {A : Type 0} (value : A → ℕ) (greatest least most k : ℕ) (s tail : List ℕ) (answer : Option (ParsedItem A))
    → s ≡ replicate k 32 ++ tail → k ≤ least - 1 → (k ≡ least - 1) ⊎ NoSpaceFirst tail
    → Finds (IsDigitRunUpTo greatest (least - k) (most - k)) value tail answer
    → Finds (IsPaddedRunUpTo greatest padding.Space least most) value s answer
after_spaces value greatest least most k s tail None cut few all none = spaced_none greatest least most k s tail cut few all none
after_spaces value greatest least most k s tail (Some p) cut few all found =
    spaced_cut greatest least most k s tail p.0.now (value p.1) cut few all found

IsSpacedRun-unique : (least most : ℕ) → IsUnique (IsSpacedRun least most)
IsSpacedRun-unique least most a b x y v w p q e =
    let whole : a ++ x ≡ replicate p.spaces 32 ++ (p.digits ++ x) = ap (λ t. t ++ x) p.cut ∙ append_assoc (replicate p.spaces 32) p.digits x in
    let same = spaces_same least most (a ++ x) (p.digits ++ x) b y p.spaces w whole p.few p.all e q in
    let run = subst (λ n. IsDigitRun (least - n) (most - n) p.digits x v) same.0 p.run in
    let is = IsDigitRun-unique (least - q.spaces) (least - q.spaces) (most - q.spaces) p.digits q.digits x y v w run q.run same.1 in
    (is.1, is.2)

-- at most one cut of a text is a run with the padding
pub IsPaddedRun-unique : (padding : Padding) (least most : ℕ) → IsUnique (IsPaddedRun padding least most)
IsPaddedRun-unique padding.Space least most = IsSpacedRun-unique least most
IsPaddedRun-unique padding.Zero least most = IsDigitRun-one least most
IsPaddedRun-unique padding.None least most = IsDigitRun-one 1 most

no_space_first : (text rest : List ℕ) → 1 ≤ length text → AllDigits text → NoSpaceFirst (text ++ rest)
no_space_first [] rest long digits = absurd (omega arith)
no_space_first (c ∷ text) rest long digits = λ e. omega (arith, digits.0.0)

-- as many digits as there are places are a run with each padding
full_places : (padding : Padding) (places : ℕ) (text rest : List ℕ) (v : ℕ) → 1 ≤ places → IsDigitRun places places text rest v
    → IsPaddedRun padding places places text rest v
full_places padding.Zero places text rest v some run = run
full_places padding.None places text rest v some run = record {
  digits = run.digits;
  enough = omega (arith, run.enough);
  within = run.within;
  ends = run.ends;
  is = run.is;
}
full_places padding.Space places text rest v some run =
    let all : places ≡ places - 0 = omega arith in
    record {
      spaces = 0;
      digits = text;
      cut = refl;
      few = omega arith;
      all = inr (no_space_first text rest (omega (arith, run.enough)) run.digits);
      run = subst (λ n. IsDigitRun n n text rest v) all run;
    }

pub full_run : (padding : Padding) (least most : ℕ) (text rest : List ℕ) (v : ℕ) → 1 ≤ least → least ≡ most
    → IsDigitRun least least text rest v → IsPaddedRun padding least most text rest v
full_run padding least most text rest v some same run =
    subst (λ n. IsPaddedRun padding least n text rest v) same (full_places padding least text rest v some run)

-- the value of a padded run is bounded by its number of places
pub IsPaddedRun-below : (padding : Padding) (least most : ℕ) (text rest : List ℕ) (v : ℕ) → IsPaddedRun padding least most text rest v → v < 10 ^ most
IsPaddedRun-below padding.Space least most text rest v p =
    let below = IsDigitRun-below (least - p.spaces) (most - p.spaces) p.digits rest v p.run in
    let wide = pow-mono (most - p.spaces) most (omega arith) in
    omega arith
IsPaddedRun-below padding.Zero least most text rest v p = IsDigitRun-below least most text rest v p
IsPaddedRun-below padding.None least most text rest v p = IsDigitRun-below 1 most text rest v p

-- a space and a digit
pub spaced_digit_cut : (s : List ℕ) (v : ℕ) → 2 ≤ length s → get_or s 0 0 ≡ 32 → IsDigit (get_or s 1 0) → v ≡ get_or s 1 0 - 48 →
    Cut (IsPaddedRun padding.Space 2 2) s (take (length s - 2) (drop 2 s)) v
spaced_digit_cut [] v h i j k = absurd (omega arith)
spaced_digit_cut (a ∷ []) v h i j k = absurd (omega arith)
spaced_digit_cut (a ∷ b ∷ s) v h i j k = (
  32 ∷ b ∷ [],
  ap (λ c. c ∷ b ∷ s) i ∙ ap (λ r. 32 ∷ b ∷ r) (sym (take-drop (a ∷ b ∷ s) 2 h)),
  record {
    spaces = 1;
    digits = b ∷ [];
    cut = refl;
    few = omega arith;
    all = inl refl;
    run = record { digits = (j, tt); enough = omega arith; within = omega arith; ends = inl refl; is = omega arith };
  },
)

no_run_behind : (s text rest : List ℕ) (v : ℕ) → NoCut (IsDigitRun 2 2) s → (2 ≤ length s → get_or s 0 0 ≡ 32 → ¬ IsDigit (get_or s 1 0)) →
    s ≡ text ++ rest → (spaces : ℕ) (digits : List ℕ) → text ≡ replicate spaces 32 ++ digits → spaces ≤ 1 →
    IsDigitRun (2 - spaces) (2 - spaces) digits rest v → ⊥
no_run_behind s text rest v none other e zero digits cut few run = none digits rest v (e ∙ ap (λ t. t ++ rest) cut) run
no_run_behind s text rest v none other e (suc zero) [] cut few run = absurd (omega (arith, run.enough))
no_run_behind s text rest v none other e (suc zero) (c ∷ []) cut few run =
    let whole : s ≡ 32 ∷ c ∷ rest = e ∙ ap (λ t. t ++ rest) cut in
    (subst (λ x. (2 ≤ length x → get_or x 0 0 ≡ 32 → ¬ IsDigit (get_or x 1 0)) → ⊥) (sym whole) (λ f. f (omega arith) refl run.digits.0)) other
no_run_behind s text rest v none other e (suc zero) (c ∷ d ∷ digits) cut few run = absurd (omega (arith, run.within))
no_run_behind s text rest v none other e (suc (suc spaces)) digits cut few run = absurd (omega arith)

-- neither two digits nor a space and a digit
pub no_spaced_digit : (s : List ℕ) → NoCut (IsDigitRun 2 2) s → (2 ≤ length s → get_or s 0 0 ≡ 32 → ¬ IsDigit (get_or s 1 0)) →
    NoCut (IsPaddedRun padding.Space 2 2) s
no_spaced_digit s none other text rest v e run = no_run_behind s text rest v none other e run.spaces run.digits run.cut run.few run.run
