-- Names in texts.
use Rattle.std.specs.Char.{to_ascii_lowercase, is_ascii_uppercase, is_ascii_lowercase}
use Rattle.std.specs.List.{find}
use Rattle.std.specs.Str.{str_to_ascii_lowercase, bytes_eq}
use Rattle.std.proofs.Common.{◌≡◌, ℕ, ◌≤◌, List, [], ◌∷◌, ◌++◌, length, take, drop, map, refl, ap, sym, ◌∙◌, arith, Bool, true, false, length-append, ◌≢◌, suc, ◌+◌, ◌-◌, ◌*◌, ◌/◌, ◌^◌, ◌<◌, get_or, inl, inr, append_assoc, mul_assoc, add-mul, mul_comm, pow-suc, Option, Some, subst, ◌&&◌}
use Rattle.std.proofs.lemmas.List.{length-map, map-append, take-append-drop, length-take-le, take_all}
use Rattle.std.proofs.lemmas.Bool.{cases_lt, false≢true}
use Rattle.std.proofs.lemmas.Bool.Decides.{nat_tests}
use Rattle.time_values.specs.declared.month.Month.{Month}
use Rattle.time_values.specs.declared.weekday.Weekday.{Weekday}
use Rattle.time_values.specs.Names.{month_name, weekday_name}
use Rattle.time_digits.specs.Digits.{Cut, IsDigit, AllDigits, digits_value, NoDigitFirst, IsDigitRun, fraction_nanoseconds, Form, NoCut}
use Rattle.time_digits.proofs.WordBytes.{first_byte, IsUnique}
use Rattle.time_digits.proofs.Fractions.{nanoseconds_below}
use Rattle.time_digits.proofs.Runs.{AllDigits-push, digits_value-push, digits_value-below}
use Rattle.time_components.specs.Spelling.{IsNamed, HasMappedValue, number, IsFractionRun, Value, IsNameOf, IsShortOf, month, weekday}
use Rattle.time_components.specs.ShortNames.{is_title_case, IsTitleCase, letters_of, IsEnding}
use Rattle.time_components.proofs.NumberLemmas.{each_month, each_weekday, months, weekdays}

-- a name and its text have one length
pub IsNamed-length : (case_sensitive : Bool) (name text : List ℕ) → IsNamed case_sensitive name text → length text ≡ length name
IsNamed-length true name text e = ap length e
IsNamed-length false name text e = sym (length-map text to_ascii_lowercase) ∙ ap length e ∙ length-map name to_ascii_lowercase

-- two texts of one length at the start of equal texts
pub same_front : (a b x y : List ℕ) → length a ≡ length b → a ++ x ≡ b ++ y → (a ≡ b) × (x ≡ y)
same_front [] [] x y l e = (refl, e)
same_front [] (d ∷ b) x y l e = absurd (omega arith)
same_front (c ∷ a) [] x y l e = absurd (omega arith)
same_front (c ∷ a) (d ∷ b) x y l e =
    let tails : a ++ x ≡ b ++ y = cc in
    let is = same_front a b x y (omega arith) tails in
    let front = is.0 in
    (cc, is.1)

-- a text of two names in sequence
pub IsNamed-append : (case_sensitive : Bool) (a b s t : List ℕ) → IsNamed case_sensitive a s → IsNamed case_sensitive b t
    → IsNamed case_sensitive (a ++ b) (s ++ t)
IsNamed-append true a b s t h k = cc
IsNamed-append false a b s t h k = simp map-append (cc)

-- a text of a name in two parts, split into a text of each part
pub record Parted (case_sensitive : Bool) (a b text : List ℕ) : Type 0 where
  pub front : List ℕ
  pub back : List ℕ
  pub cut : text ≡ front ++ back
  pub first : IsNamed case_sensitive a front
  pub second : IsNamed case_sensitive b back

pub IsNamed-parts : (case_sensitive : Bool) (a b text : List ℕ) → IsNamed case_sensitive (a ++ b) text → Parted case_sensitive a b text
IsNamed-parts true a b text e = record { front = a; back = b; cut = e; first = refl; second = refl }
IsNamed-parts false a b text e =
    let front = take (length a) text in
    let back = drop (length a) text in
    let cut : text ≡ front ++ back = sym (take-append-drop (length a) text) in
    let lower = map to_ascii_lowercase in
    let both_lower : lower front ++ lower back ≡ lower a ++ lower b =
    sym (map-append to_ascii_lowercase front back) ∙ ap lower (sym cut) ∙ e ∙ map-append to_ascii_lowercase a b in
    let whole : length text ≡ length (a ++ b) = IsNamed-length false (a ++ b) text e in
    let enough : length a ≤ length text = omega (arith, length-append a b) in
    let long : length (lower front) ≡ length (lower a) =
    length-map front to_ascii_lowercase ∙ length-take-le (length a) text enough ∙ sym (length-map a to_ascii_lowercase) in
    let is = same_front (lower front) (lower a) (lower back) (lower b) long both_lower in
    record { front = front; back = back; cut = cut; first = is.0; second = is.1 }

-- ---- A fraction of a second, digit by digit

-- The text before the rest is at most nine digits, worth `nanoseconds`; one unit of the last of them is `unit` nanoseconds.
pub record IsBegun (s rest : List ℕ) (unit nanoseconds : ℕ) : Type 0 where
  pub text : List ℕ
  pub cut : s ≡ text ++ rest
  pub digits : AllDigits text
  pub within : length text ≤ 9
  pub counts : unit ≡ 10 ^ (9 - length text)
  pub says : nanoseconds ≡ digits_value text * unit

pub begun_none : (s : List ℕ) → IsBegun s s 1000000000 0
begun_none s = record { text = []; cut = refl; digits = tt; within = omega arith; counts = refl; says = refl }

-- the unit of the next place, if there is one
next_unit : (k unit : ℕ) → k ≤ 9 → unit ≡ 10 ^ (9 - k) → unit / 10 ≢ 0
    → (k + 1 ≤ 9) × (unit / 10 ≡ 10 ^ (9 - (k + 1))) × (unit ≡ 10 * (unit / 10))
next_unit k unit within counts some = elim (cases_lt k 9) [
  | inl below ↦
      let next : 9 - k ≡ suc (9 - (k + 1)) = omega arith in
      let place = ap (λ n. 10 ^ n) next ∙ pow-suc 10 (9 - (k + 1)) in
      (omega arith, omega arith, omega arith)
  | inr past ↦
      let all : 9 - k ≡ 0 = omega arith in
      let one : unit ≡ 1 = counts ∙ ap (λ n. 10 ^ n) all in
      absurd (some (omega arith))
]

-- one more digit
pub begun_more : (s rest : List ℕ) (unit nanoseconds d : ℕ) → IsBegun s rest unit nanoseconds → 1 ≤ length rest → IsDigit (get_or rest 0 0)
    → d ≡ get_or rest 0 0 - 48 → unit / 10 ≢ 0
    → IsBegun s (take (length rest - 1) (drop 1 rest)) (unit / 10) (nanoseconds + unit / 10 * d)
begun_more s rest unit nanoseconds d begun h digit said some =
    let c = get_or rest 0 0 in
    let text = begun.text in
    let value = digits_value text in
    let u = unit / 10 in
    let tail = take (length rest - 1) (drop 1 rest) in
    let next = next_unit (length text) unit begun.within begun.counts some in
    let long : length (text ++ c ∷ []) ≡ length text + 1 = omega (arith, length-append text (c ∷ [])) in
    let whole : digits_value (text ++ c ∷ []) * u ≡ (10 * value) * u + (c - 48) * u =
    ap (λ v. v * u) (digits_value-push text c) ∙ add-mul (10 * value) (c - 48) u in
    let tens : (10 * value) * u ≡ value * (10 * u) = ap (λ v. v * u) (mul_comm 10 value) ∙ mul_assoc value 10 u in
    let before : nanoseconds ≡ value * (10 * u) = begun.says ∙ ap (λ w. value * w) next.2 in
    let turned : u * d ≡ (c - 48) * u = ap (λ n. u * n) said ∙ mul_comm u (c - 48) in
    record {
      text = text ++ c ∷ [];
      cut = begun.cut ∙ ap (λ r. text ++ r) (first_byte rest h) ∙ sym (append_assoc text (c ∷ []) tail);
      digits = AllDigits-push text c begun.digits digit;
      within = omega arith;
      counts = next.1 ∙ ap (λ n. 10 ^ (9 - n)) (sym long);
      says = omega arith;
    }

pub begun_below : (s rest : List ℕ) (unit nanoseconds : ℕ) → IsBegun s rest unit nanoseconds → nanoseconds < 10 ^ 9
begun_below s rest unit nanoseconds begun =
    let below = nanoseconds_below (length begun.text) (digits_value begun.text) begun.within (digits_value-below begun.text begun.digits) in
    let same = ap (λ u. digits_value begun.text * u) begun.counts in
    omega (arith, begun.says)

-- some digits, with no digit after them
pub begun_cut : (s rest : List ℕ) (unit nanoseconds : ℕ) → IsBegun s rest unit nanoseconds → unit ≢ 1000000000 → NoDigitFirst rest
    → Cut (HasMappedValue number (IsFractionRun 1 32)) s rest (number nanoseconds)
begun_cut s rest unit nanoseconds begun some ends =
    let text = begun.text in
    let enough : 1 ≤ length text = elim (cases_lt 0 (length text)) [
      | inl one ↦ one
      | inr none ↦
          let no : length text ≡ 0 = omega arith in
          absurd (some (begun.counts ∙ ap (λ n. 10 ^ (9 - n)) no))
    ] in
    let all : take 9 text ≡ text = take_all 9 text begun.within in
    let is : nanoseconds ≡ fraction_nanoseconds text = begun.says ∙ ap (λ u. digits_value text * u) begun.counts
    ∙ ap (λ t. digits_value t * 10 ^ (9 - length text)) (sym all) in
    let run : IsDigitRun 1 32 text rest (digits_value text) = record {
      digits = begun.digits;
      enough = enough;
      within = omega (arith, begun.within);
      ends = inr ends;
      is = refl;
    } in
    (text, begun.cut, (nanoseconds, refl, (run, is)))

-- ---- Names at the start of a text, by their first three letters

-- values with different keys differ: a key determines its value
pub told_apart : {A B : Type 0} (key : A → B) (of : B → Option A) → ((a : A) → of (key a) ≡ Some a) → (a b : A) → key a ≡ key b → a ≡ b
told_apart key of tells a b e =
    let some : Some a ≡ Some b = sym (tells a) ∙ ap of e ∙ tells b in
    cc

lower_same : (case_sensitive : Bool) (m n text : List ℕ) → IsNamed case_sensitive m text → IsNamed case_sensitive n text
    → str_to_ascii_lowercase m ≡ str_to_ascii_lowercase n
lower_same true m n text p q = ap str_to_ascii_lowercase (sym p ∙ q)
lower_same false m n text p q = sym p ∙ q

-- values whose names have one length, and differ even if the case of letters is ignored
pub record Told {A : Type 0} (name_of : A → List ℕ) (count : ℕ) : Type 0 where
  pub length_is : (v : A) → length (name_of v) ≡ count
  pub apart : (v w : A) → str_to_ascii_lowercase (name_of v) ≡ str_to_ascii_lowercase (name_of w) → v ≡ w

pub same_name : {A : Type 0} (case_sensitive : Bool) (name_of : A → List ℕ) (count : ℕ) → Told name_of count → IsUnique (IsNameOf case_sensitive name_of)
same_name case_sensitive name_of count told a b x y v w p q e =
    let long : length a ≡ length b =
    IsNamed-length case_sensitive (name_of v) a p ∙ told.length_is v ∙ sym (told.length_is w)
    ∙ sym (IsNamed-length case_sensitive (name_of w) b q) in
    let same = same_front a b x y long e in
    (same.1, told.apart v w (lower_same case_sensitive (name_of v) (name_of w) b (subst (IsNamed case_sensitive (name_of v)) same.0 p) q))

pub months_told : Told (λ m. take 3 (month_name m)) 3
months_told =
    let key : Month → List ℕ = λ m. str_to_ascii_lowercase (take 3 (month_name m)) in
    let of : List ℕ → Option Month = λ k. find (λ m. bytes_eq (key m) k) months in
    record {
      length_is = each_month (λ m. length (take 3 (month_name m)) ≡ 3) (refl, refl, refl, refl, refl, refl, refl, refl, refl, refl, refl, refl);
      apart = told_apart key of (each_month (λ m. of (key m) ≡ Some m) (refl, refl, refl, refl, refl, refl, refl, refl, refl, refl, refl, refl));
    }

pub weekdays_told : Told (λ d. take 3 (weekday_name d)) 3
weekdays_told =
    let key : Weekday → List ℕ = λ d. str_to_ascii_lowercase (take 3 (weekday_name d)) in
    let of : List ℕ → Option Weekday = λ k. find (λ d. bytes_eq (key d) k) weekdays in
    record {
      length_is = each_weekday (λ d. length (take 3 (weekday_name d)) ≡ 3) (refl, refl, refl, refl, refl, refl, refl);
      apart = told_apart key of (each_weekday (λ d. of (key d) ≡ Some d) (refl, refl, refl, refl, refl, refl, refl));
    }

month_one : (v w : Month) → month v ≡ month w → v ≡ w
month_one v w e = cc

pub weekday_one : (v w : Weekday) → weekday v ≡ weekday w → v ≡ w
weekday_one v w e = cc

-- values whose names begin with a capital and two small letters, which determine the value
pub record Titled {A : Type 0} (says : A → Value) (name_of : A → List ℕ) : Type 0 where
  pub told : Told (λ v. take 3 (name_of v)) 3
  pub title : (v : A) → is_title_case (take 3 (name_of v)) ≡ true
  pub one : (v w : A) → says v ≡ says w → v ≡ w

pub months_titled : Titled month month_name
months_titled = record {
  told = months_told;
  title = each_month (λ m. is_title_case (take 3 (month_name m)) ≡ true) (refl, refl, refl, refl, refl, refl, refl, refl, refl, refl, refl, refl);
  one = month_one;
}

pub weekdays_titled : Titled weekday weekday_name
weekdays_titled = record {
  told = weekdays_told;
  title = each_weekday (λ d. is_title_case (take 3 (weekday_name d)) ≡ true) (refl, refl, refl, refl, refl, refl, refl);
  one = weekday_one;
}

same_capital : (a x : ℕ) → is_ascii_uppercase a ≡ true → is_ascii_uppercase x ≡ true → to_ascii_lowercase a ≡ to_ascii_lowercase x → a ≡ x
same_capital a x h k e = grind (arith, nat_tests)

same_small : (a x : ℕ) → is_ascii_lowercase a ≡ true → is_ascii_lowercase x ≡ true → to_ascii_lowercase a ≡ to_ascii_lowercase x → a ≡ x
same_small a x h k e = grind (arith, nat_tests)

both : (a b : Bool) → (a && b) ≡ true → (a ≡ true) × (b ≡ true)
both true b e = (refl, e)
both false b e = absurd (false≢true e)

-- a capital and two small letters are determined by their lower case
same_title : (a b : List ℕ) → is_title_case a ≡ true → is_title_case b ≡ true → str_to_ascii_lowercase a ≡ str_to_ascii_lowercase b → a ≡ b
same_title (a ∷ b ∷ c ∷ []) (x ∷ y ∷ z ∷ []) h k e =
    let ha = both (is_ascii_uppercase a) (is_ascii_lowercase b && is_ascii_lowercase c) h in
    let hb = both (is_ascii_lowercase b) (is_ascii_lowercase c) ha.1 in
    let ka = both (is_ascii_uppercase x) (is_ascii_lowercase y && is_ascii_lowercase z) k in
    let kb = both (is_ascii_lowercase y) (is_ascii_lowercase z) ka.1 in
    let e0 : to_ascii_lowercase a ≡ to_ascii_lowercase x = cc in
    let e1 : to_ascii_lowercase b ≡ to_ascii_lowercase y = cc in
    let e2 : to_ascii_lowercase c ≡ to_ascii_lowercase z = cc in
    let s0 = same_capital a x ha.0 ka.0 e0 in
    let s1 = same_small b y hb.0 kb.0 e1 in
    let s2 = same_small c z hb.1 kb.1 e2 in
    cc
same_title (a ∷ b ∷ c ∷ []) _ h k e = absurd (false≢true k)
same_title _ b h k e = absurd (false≢true h)

-- a short name in the form of its three letters
short_is_title : {A : Type 0} (says : A → Value) (name_of : A → List ℕ) → Titled says name_of → (case_sensitive : Bool) (text rest : List ℕ) (v : A)
    → IsShortOf case_sensitive name_of text rest v → IsTitleCase case_sensitive text rest (letters_of name_of v)
short_is_title says name_of titled true text rest v p =
    (ap length p ∙ titled.told.length_is v, ap str_to_ascii_lowercase (sym p), λ t. ap is_title_case p ∙ titled.title v)
short_is_title says name_of titled false text rest v p =
    (IsNamed-length false (take 3 (name_of v)) text p ∙ titled.told.length_is v, sym p, λ t. absurd (false≢true t))

title_is_short : {A : Type 0} (says : A → Value) (name_of : A → List ℕ) → Titled says name_of → (case_sensitive : Bool) (text rest : List ℕ) (v : A)
    → IsTitleCase case_sensitive text rest (letters_of name_of v) → IsShortOf case_sensitive name_of text rest v
title_is_short says name_of titled true text rest v p = same_title text (take 3 (name_of v)) (p.2 refl) (titled.title v) (sym p.1)
title_is_short says name_of titled false text rest v p = sym p.1

-- no short name without three letters
pub no_letters : {A : Type 0} (says : A → Value) (name_of : A → List ℕ) → Titled says name_of → (case_sensitive : Bool) (input : List ℕ)
    → NoCut (IsTitleCase case_sensitive) input → NoCut (HasMappedValue says (IsShortOf case_sensitive name_of)) input
no_letters says name_of titled case_sensitive input none = λ text rest v e s.
    none text rest (letters_of name_of s.0) e (short_is_title says name_of titled case_sensitive text rest s.0 s.2)

-- three letters that begin no name
pub no_short : {A : Type 0} (says : A → Value) (name_of : A → List ℕ) → Titled says name_of → (case_sensitive : Bool)
    (input rest letters : List ℕ) → Cut (IsTitleCase case_sensitive) input rest letters → ((v : A) → letters ≢ letters_of name_of v)
    → NoCut (HasMappedValue says (IsShortOf case_sensitive name_of)) input
no_short says name_of titled case_sensitive input rest letters cut none = λ text rest' v e s.
    let t = short_is_title says name_of titled case_sensitive text rest' s.0 s.2 in
    let same = same_front cut.0 text rest rest' (cut.2.0 ∙ sym t.0) (sym cut.1 ∙ e) in
    none s.0 (cut.2.1 ∙ ap str_to_ascii_lowercase same.0 ∙ sym t.1)

-- three letters that begin a name
pub is_short : {A : Type 0} (says : A → Value) (name_of : A → List ℕ) → Titled says name_of → (case_sensitive : Bool)
    (input rest letters : List ℕ) (v : A) → Cut (IsTitleCase case_sensitive) input rest letters → letters ≡ letters_of name_of v
    → Cut (HasMappedValue says (IsShortOf case_sensitive name_of)) input rest (says v)
is_short says name_of titled case_sensitive input rest letters v cut e =
    let title = subst (IsTitleCase case_sensitive cut.0 rest) e cut.2 in
    (cut.0, cut.1, (v, refl, title_is_short says name_of titled case_sensitive cut.0 rest v title))

-- the first three letters of a name, in exactly its case
pub is_titled : {A : Type 0} (says : A → Value) (name_of : A → List ℕ) → Titled says name_of → (case_sensitive : Bool)
    (input rest letters : List ℕ) (v : A) → input ≡ letters ++ rest → letters ≡ take 3 (name_of v)
    → Cut (HasMappedValue says (IsShortOf case_sensitive name_of)) input rest (says v)
is_titled says name_of titled case_sensitive input rest letters v cut e =
    is_short says name_of titled case_sensitive input rest (letters_of name_of v) v
    (letters, cut, (ap length e ∙ titled.told.length_is v, ap str_to_ascii_lowercase (sym e), λ t. ap is_title_case e ∙ titled.title v)) refl

-- a text's spelling, recovered from its value
pub spelled : {A : Type 0} (says : A → Value) (S : Form A) → ((v w : A) → says v ≡ says w → v ≡ w) → (input rest : List ℕ) (v : A)
    → Cut (HasMappedValue says S) input rest (says v) → Cut S input rest v
spelled says S one input rest v (text, e, s) = (text, e, subst (S text rest) (sym (one v s.0 s.1)) s.2)

-- a whole name, split after its first three letters
name_parts : {A : Type 0} (name_of : A → List ℕ) (case_sensitive : Bool) (text : List ℕ) (v : A) → IsNamed case_sensitive (name_of v) text
    → Parted case_sensitive (take 3 (name_of v)) (drop 3 (name_of v)) text
name_parts name_of case_sensitive text v p =
    IsNamed-parts case_sensitive (take 3 (name_of v)) (drop 3 (name_of v)) text
    (subst (λ n. IsNamed case_sensitive n text) (sym (take-append-drop 3 (name_of v))) p)

-- no whole name without a short name
pub no_long : {A : Type 0} (says : A → Value) (name_of : A → List ℕ) (case_sensitive : Bool) (input : List ℕ)
    → NoCut (HasMappedValue says (IsShortOf case_sensitive name_of)) input → NoCut (HasMappedValue says (IsNameOf case_sensitive name_of)) input
no_long says name_of case_sensitive input none = λ text rest v e s.
    let p = name_parts name_of case_sensitive text s.0 s.2 in
    none p.front (p.back ++ rest) (says s.0) (e ∙ ap (λ t. t ++ rest) p.cut ∙ append_assoc p.front p.back rest) (s.0, refl, p.first)

-- a short name that isn't followed by the rest of the name
pub no_ending : {A : Type 0} (says : A → Value) (name_of : A → List ℕ) → Titled says name_of → (case_sensitive : Bool)
    (input rest ending : List ℕ) (v : A) → ending ≡ drop 3 (name_of v) → Cut (HasMappedValue says (IsShortOf case_sensitive name_of)) input rest (says v)
    → NoCut (IsEnding ending case_sensitive) rest → NoCut (HasMappedValue says (IsNameOf case_sensitive name_of)) input
no_ending says name_of titled case_sensitive input rest ending v is found none = λ text left w e s.
    let cut = spelled says (IsShortOf case_sensitive name_of) titled.one input rest v found in
    let p = name_parts name_of case_sensitive text s.0 s.2 in
    let whole : p.front ++ (p.back ++ left) ≡ cut.0 ++ rest =
    sym (append_assoc p.front p.back left) ∙ ap (λ t. t ++ left) (sym p.cut) ∙ sym e ∙ cut.1 in
    let same = same_name case_sensitive (λ u. take 3 (name_of u)) 3 titled.told p.front cut.0 (p.back ++ left) rest s.0 v p.first cut.2 whole in
    none p.back left tt (sym same.0) (subst (λ n. IsNamed case_sensitive n p.back) (ap (λ u. drop 3 (name_of u)) same.1 ∙ sym is) p.second)

-- a short name that is followed by the rest of the name
pub is_long : {A : Type 0} (says : A → Value) (name_of : A → List ℕ) → Titled says name_of → (case_sensitive : Bool)
    (input rest left ending : List ℕ) (v : A) → ending ≡ drop 3 (name_of v) → Cut (HasMappedValue says (IsShortOf case_sensitive name_of)) input rest (says v)
    → Cut (IsEnding ending case_sensitive) rest left tt → Cut (HasMappedValue says (IsNameOf case_sensitive name_of)) input left (says v)
is_long says name_of titled case_sensitive input rest left ending v is found last =
    let cut = spelled says (IsShortOf case_sensitive name_of) titled.one input rest v found in
    let second = subst (λ n. IsNamed case_sensitive n last.0) is last.2 in
    let named = IsNamed-append case_sensitive (take 3 (name_of v)) (drop 3 (name_of v)) cut.0 last.0 cut.2 second in (
      cut.0 ++ last.0,
      cut.1 ∙ ap (λ t. cut.0 ++ t) last.1 ∙ sym (append_assoc cut.0 last.0 left),
      (v, refl, subst (λ n. IsNamed case_sensitive n (cut.0 ++ last.0)) (take-append-drop 3 (name_of v)) named),
    )
