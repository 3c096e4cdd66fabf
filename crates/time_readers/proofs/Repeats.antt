-- Readers that consume bytes, and their repetition.
use Rattle.std.specs.Char.{to_ascii_lowercase}
use Rattle.std.specs.Option.{option_or}
use Rattle.std.proofs.Common.{◌≡◌, ℕ, ◌⊎◌, List, [], ◌∷◌, ◌++◌, refl, sym, ◌∙◌, subst, inl, inr, length, ap, arith, Bool, true, false, Option, Some, None, ◌≤◌, ◌<◌, length-append, append_assoc, if◌then◌else◌, option_and_then}
use Rattle.std.proofs.lemmas.Option.{same_Some, none-some}
use Rattle.time_digits.specs.Digits.{Cut, NoCut, AtMostOneCut, IsFraction, fraction_nanoseconds, sign_byte, is_negative}
use Rattle.time_digits.specs.declared.Sign.{Sign}
use Rattle.time_digits.specs.declared.Sign.TheVariants.{Negative, Positive}
use Rattle.time_digits.proofs.Runs.{run_says, IsDigitRun-unique, AllDigits-unique}
use Rattle.time_components.proofs.NameLemmas.{same_front}
use Rattle.time_components.proofs.NumberLemmas.{sign_byte-one}
use Rattle.time_readers.specs.Laws.{OneForm, Consumes}
use Rattle.time_readers.specs.Readers.{MatchesPlaces, StopsAt, Format, Reader, one_of, ◌then◌, ◌or◌, repeat, zero_or_more}
use Rattle.time_readers.specs.declared.rfc3339.Numbers.{Numbers}
use Rattle.time_readers.specs.declared.rfc3339.Place.{Place}
use Rattle.time_readers.specs.declared.rfc3339.Place.TheVariants.{Year, YearDash, Month, MonthDash, Day, Separator, Hour, HourColon, Minute, MinuteColon, Second, Subsecond, OffsetHour, OffsetColon, OffsetMinute}
use Rattle.time_readers.specs.Rfc3339.{PlaceSyntax, IsSubsecond, NoDotFirst, IsZulu, IsSignedHour, IsOffsetColon, IsOffsetMinute}

-- ---- Places have one parse or one first mismatch, if each place matches at most one prefix

-- each place, after any numbers, matches at most one prefix
abbrev pub AtMostOneEach : {P N : Type 0} → Format P N → Type 0
AtMostOneEach {P} {N} A = (p : P) (n : N) → AtMostOneCut (A p n)

MatchesPlaces-unique : {P N : Type 0} (A : Format P N) → AtMostOneEach A → (ps : List P) (n m k : N) (bytes x y : List ℕ)
    → MatchesPlaces A ps n bytes x m → MatchesPlaces A ps n bytes y k → (x ≡ y) × (m ≡ k)
unfolding MatchesPlaces
MatchesPlaces-unique A one [] n m k bytes x y s t = (s.0 ∙ sym t.0, s.1 ∙ sym t.1)
MatchesPlaces-unique A one (p ∷ ps) n m k bytes x y s t =
    let first = one p n bytes s.0 t.0 s.1 t.1 s.2 t.2 in
    MatchesPlaces-unique A one ps t.1 m k t.0 x y
    (subst (λ j. MatchesPlaces A ps j t.0 x m) first.1 (subst (λ b. MatchesPlaces A ps s.1 b x m) first.0 s.3)) t.3

-- the first place doesn't match, or it does and one of the others is the first that doesn't
abbrev pub Stops : {P N : Type 0} → Format P N → List P → N → List ℕ → P → Type 0
Stops A [] n bytes e = ⊥
Stops {P} {N} A (p ∷ ps) n bytes e = ((e ≡ p) × NoCut (A p n) bytes) ⊎ ((mid : List ℕ) × (k : N) × Cut (A p n) bytes mid k × Stops A ps k mid e)

stops_at : {P N : Type 0} (A : Format P N) (before after : List P) (n k : N) (bytes mid : List ℕ) (e : P) → MatchesPlaces A before n bytes mid k
    → NoCut (A e k) mid → Stops A (before ++ e ∷ after) n bytes e
unfolding MatchesPlaces
stops_at A [] after n k bytes mid e s none = inl (refl, subst (λ b. NoCut (A e n) b) s.0 (subst (λ j. NoCut (A e j) mid) s.1 none))
stops_at A (p ∷ before) after n k bytes mid e s none = inr (s.0, s.1, s.2, stops_at A before after s.1 k s.0 mid e s.3 none)

StopsAt-stops : {P N : Type 0} (A : Format P N) (ps : List P) (n : N) (bytes : List ℕ) (e : P) → StopsAt A ps n bytes e → Stops A ps n bytes e
StopsAt-stops A ps n bytes e w = subst (λ qs. Stops A qs n bytes e) (sym w.place) (stops_at A w.before w.after n w.numbers bytes w.mid e w.stand w.stops)

Stops-none : {P N : Type 0} (A : Format P N) → AtMostOneEach A → (ps : List P) (n m : N) (bytes rest : List ℕ) (e : P)
    → MatchesPlaces A ps n bytes rest m → Stops A ps n bytes e → ⊥
unfolding MatchesPlaces
Stops-none A one [] n m bytes rest e s stops = stops
Stops-none A one (p ∷ ps) n m bytes rest e s (inl here) = here.1 s.2.0 s.0 s.1 s.2.1 s.2.2
Stops-none A one (p ∷ ps) n m bytes rest e s (inr later) =
    let first = one p n bytes s.0 later.0 s.1 later.1 s.2 later.2 in
    Stops-none A one ps later.1 m later.0 rest e
    (subst (λ j. MatchesPlaces A ps j later.0 rest m) first.1 (subst (λ b. MatchesPlaces A ps s.1 b rest m) first.0 s.3)) later.3

Stops-unique : {P N : Type 0} (A : Format P N) → AtMostOneEach A → (ps : List P) (n : N) (bytes : List ℕ) (d e : P)
    → Stops A ps n bytes d → Stops A ps n bytes e → d ≡ e
Stops-unique A one [] n bytes d e s t = absurd s
Stops-unique A one (p ∷ ps) n bytes d e (inl s) (inl t) = s.0 ∙ sym t.0
Stops-unique A one (p ∷ ps) n bytes d e (inl s) (inr t) = absurd (s.1 t.2.0 t.0 t.1 t.2.1 t.2.2)
Stops-unique A one (p ∷ ps) n bytes d e (inr s) (inl t) = absurd (t.1 s.2.0 s.0 s.1 s.2.1 s.2.2)
Stops-unique A one (p ∷ ps) n bytes d e (inr s) (inr t) =
    let first = one p n bytes s.0 t.0 s.1 t.1 s.2 t.2 in
    Stops-unique A one ps t.1 t.0 d e (subst (λ j. Stops A ps j t.0 d) first.1 (subst (λ b. Stops A ps s.1 b d) first.0 s.3)) t.3

-- places match bytes in one way, or there is one first place that doesn't match
pub one_form : {P N : Type 0} (A : Format P N) → AtMostOneEach A → (ps : List P) (n : N) (bytes : List ℕ) → OneForm A ps n bytes
one_form A one ps n bytes = record {
  one_reading = λ x y m k s t. MatchesPlaces-unique A one ps n m k bytes x y s t;
  one_place = λ p q s t. Stops-unique A one ps n bytes p q (StopsAt-stops A ps n bytes p s) (StopsAt-stops A ps n bytes q t);
  never_both = λ x m p s t. Stops-none A one ps n m bytes x p s (StopsAt-stops A ps n bytes p t);
}

-- ---- A text of RFC 3339 has one parse, or one first place that doesn't match

fraction_one : (a b x y : List ℕ) (v w : ℕ) → IsFraction a x v → IsFraction b y w → a ++ x ≡ b ++ y → (x ≡ y) × (v ≡ w)
fraction_one a b x y v w p q e =
    let is = AllDigits-unique a b x y p.digits q.digits e p.ends q.ends in
    (is.1, p.is ∙ ap fraction_nanoseconds is.0 ∙ sym q.is)

point_clash : (digits x y : List ℕ) → NoDotFirst y → y ≡ 46 ∷ (digits ++ x) → ⊥
point_clash digits x y h e = subst NoDotFirst e h refl

subsecond_one : (a b x y : List ℕ) (v w : Option ℕ) → IsSubsecond a x v → IsSubsecond b y w → a ++ x ≡ b ++ y → (x ≡ y) × (v ≡ w)
subsecond_one a b x y None None p q e = (ap (λ t. t ++ x) (sym p.0) ∙ e ∙ ap (λ t. t ++ y) q.0, refl)
subsecond_one a b x y None (Some w) p q e = absurd (point_clash q.0 y x p.1 (ap (λ t. t ++ x) (sym p.0) ∙ e ∙ ap (λ t. t ++ y) q.1))
subsecond_one a b x y (Some v) None p q e = absurd (point_clash p.0 x y q.1 (ap (λ t. t ++ y) (sym q.0) ∙ sym e ∙ ap (λ t. t ++ x) p.1))
subsecond_one a b x y (Some v) (Some w) p q e =
    let points : 46 ∷ (p.0 ++ x) ≡ 46 ∷ (q.0 ++ y) = ap (λ t. t ++ x) (sym p.1) ∙ e ∙ ap (λ t. t ++ y) q.1 in
    let is = fraction_one p.0 q.0 x y v w p.2 q.2 (cc) in
    (is.0, ap Some is.1)

zulu_clash : (s : Sign) (c : ℕ) → to_ascii_lowercase c ≡ 122 → c ≡ sign_byte s → ⊥
zulu_clash Negative c z e = let h : to_ascii_lowercase 45 ≡ 122 = ap to_ascii_lowercase (sym e) ∙ z in absurd (omega arith)
zulu_clash Positive c z e = let h : to_ascii_lowercase 43 ≡ 122 = ap to_ascii_lowercase (sym e) ∙ z in absurd (omega arith)

mixed : (n : Numbers) (a b x y : List ℕ) (m k : Numbers) → IsZulu n a x m → IsSignedHour n b y k → a ++ x ≡ b ++ y → ⊥
mixed n a b x y m k z s e =
    let heads : z.0.0 ∷ x ≡ sign_byte s.sign ∷ (s.digits ++ y) = ap (λ t. t ++ x) (sym z.0.1) ∙ e ∙ ap (λ t. t ++ y) s.cut in
    zulu_clash s.sign z.0.0 z.0.2 (cc)

hour_one : (n : Numbers) (a b x y : List ℕ) (m k : Numbers) → IsZulu n a x m ⊎ IsSignedHour n a x m → IsZulu n b y k ⊎ IsSignedHour n b y k
    → a ++ x ≡ b ++ y → (x ≡ y) × (m ≡ k)
hour_one n a b x y m k (inl p) (inl q) e =
    let heads : p.0.0 ∷ x ≡ q.0.0 ∷ y = ap (λ t. t ++ x) (sym p.0.1) ∙ e ∙ ap (λ t. t ++ y) q.0.1 in
    (cc, p.1 ∙ sym q.1)
hour_one n a b x y m k (inl p) (inr q) e = absurd (mixed n a b x y m k p q e)
hour_one n a b x y m k (inr p) (inl q) e = absurd (mixed n b a y x k m q p (sym e))
hour_one n a b x y m k (inr p) (inr q) e =
    let heads : sign_byte p.sign ∷ (p.digits ++ x) ≡ sign_byte q.sign ∷ (q.digits ++ y) = ap (λ t. t ++ x) (sym p.cut) ∙ e ∙ ap (λ t. t ++ y) q.cut in
    let signs = sign_byte-one p.sign q.sign (cc) in
    let is = IsDigitRun-unique 2 2 2 p.digits q.digits x y p.hour q.hour p.run.0 q.run.0 (cc) in (
      is.1,
      p.says ∙ ap (λ s. record n { offset_is_negative = is_negative s; offset_hour = p.hour }) signs
          ∙ ap (λ h. record n { offset_is_negative = is_negative q.sign; offset_hour = h }) is.2 ∙ sym q.says,
    )

colon_one : (utc : Bool) (a b : List ℕ) → IsOffsetColon utc a → IsOffsetColon utc b → a ≡ b
colon_one true a b p q = p ∙ sym q
colon_one false a b p q = p ∙ sym q

minute_one : (check_ranges utc : Bool) (n : Numbers) (a b x y : List ℕ) (m k : Numbers) → IsOffsetMinute check_ranges utc n a x m
    → IsOffsetMinute check_ranges utc n b y k → a ++ x ≡ b ++ y → (x ≡ y) × (m ≡ k)
minute_one check_ranges true n a b x y m k p q e = ((same_front a b x y (ap length (p.0 ∙ sym q.0)) e).1, p.1 ∙ sym q.1)
minute_one check_ranges false n a b x y m k p q e = run_says 2 2 (λ v. record n { offset_minute = v }) a b x y p.0 q.0 m k p.1.0 q.1.0 e p.2 q.2

syntax_once : (check_ranges : Bool) (p : Place) (n : Numbers) (a b x y : List ℕ) (m k : Numbers)
    → PlaceSyntax check_ranges p n a x m → PlaceSyntax check_ranges p n b y k
    → a ++ x ≡ b ++ y → (x ≡ y) × (m ≡ k)
syntax_once check_ranges Year n a b x y m k p q e = run_says 4 4 (λ v. record n { year = v }) a b x y p.0 q.0 m k p.1 q.1 e p.2 q.2
syntax_once check_ranges YearDash n a b x y m k p q e = ((same_front a b x y (ap length (p.0 ∙ sym q.0)) e).1, p.1 ∙ sym q.1)
syntax_once check_ranges Month n a b x y m k p q e = run_says 2 2 (λ v. record n { month = v }) a b x y p.0 q.0 m k p.1.0 q.1.0 e p.3 q.3
syntax_once check_ranges MonthDash n a b x y m k p q e = ((same_front a b x y (ap length (p.0 ∙ sym q.0)) e).1, p.1 ∙ sym q.1)
syntax_once check_ranges Day n a b x y m k p q e = run_says 2 2 (λ v. record n { day = v }) a b x y p.0 q.0 m k p.1.0 q.1.0 e p.2 q.2
syntax_once check_ranges Separator n a b x y m k p q e = ((same_front a b x y (p.0 ∙ sym q.0) e).1, p.1 ∙ sym q.1)
syntax_once check_ranges Hour n a b x y m k p q e = run_says 2 2 (λ v. record n { hour = v }) a b x y p.0 q.0 m k p.1.0 q.1.0 e p.2 q.2
syntax_once check_ranges HourColon n a b x y m k p q e = ((same_front a b x y (ap length (p.0 ∙ sym q.0)) e).1, p.1 ∙ sym q.1)
syntax_once check_ranges Minute n a b x y m k p q e = run_says 2 2 (λ v. record n { minute = v }) a b x y p.0 q.0 m k p.1.0 q.1.0 e p.2 q.2
syntax_once check_ranges MinuteColon n a b x y m k p q e = ((same_front a b x y (ap length (p.0 ∙ sym q.0)) e).1, p.1 ∙ sym q.1)
syntax_once check_ranges Second n a b x y m k p q e = run_says 2 2 (λ v. record n { second = v }) a b x y p.0 q.0 m k p.1.0 q.1.0 e p.2 q.2
syntax_once check_ranges Subsecond n a b x y m k p q e =
    let is = subsecond_one a b x y p.0 q.0 p.1 q.1 e in
    (is.0, p.2 ∙ ap (λ v. record n { subsecond = v }) is.1 ∙ sym q.2)
syntax_once check_ranges OffsetHour n a b x y m k p q e = hour_one n a b x y m k p q e
syntax_once check_ranges OffsetColon n a b x y m k p q e = ((same_front a b x y (ap length (colon_one n.is_utc a b p.0 q.0)) e).1, p.1 ∙ sym q.1)
syntax_once check_ranges OffsetMinute n a b x y m k p q e = minute_one check_ranges n.is_utc n a b x y m k p q e

-- each place of RFC 3339 matches at most one prefix
pub PlaceSyntax-unique : (check_ranges : Bool) → AtMostOneEach (PlaceSyntax check_ranges)
PlaceSyntax-unique check_ranges p n input x y m k s t = syntax_once check_ranges p n s.0 t.0 x y m k s.2 t.2 (sym s.1 ∙ t.1)

-- the input is the text that the reader consumes and its rest
abbrev pub Leaves : Reader → Type 0
Leaves p = (s r : List ℕ) → p s ≡ Some r → (text : List ℕ) × (s ≡ text ++ r)

pub takes-shorter : (p : Reader) → Consumes p → (s r : List ℕ) → p s ≡ Some r → length r < length s
takes-shorter p t s r e =
    let is = t s r e in
    let long = ap length is.2 in
    omega (arith, length-append is.1 r)

pub takes-leaves : (p : Reader) → Consumes p → Leaves p
takes-leaves p t s r e = let is = t s r e in (is.0 ∷ is.1, is.2)

one_of_cut : (b : Bool) (c : ℕ) (s r : List ℕ) → (if b then Some s else None) ≡ Some r → (d : ℕ) × (text : List ℕ) × (c ∷ s ≡ d ∷ (text ++ r))
one_of_cut true c s r e = (c, [], ap (λ t. c ∷ t) (same_Some s r e))
one_of_cut false c s r e = absurd (none-some r e)

pub one_of-takes : (test : ℕ → Bool) → Consumes (one_of test)
one_of-takes test [] r e = absurd (none-some r e)
one_of-takes test (c ∷ s) r e = one_of_cut (test c) c s r e

then_takes : (q : Reader) → Leaves q → (s r : List ℕ) (o : Option (List ℕ)) → ((m : List ℕ) → o ≡ Some m → (c : ℕ) × (text : List ℕ) × (s ≡ c ∷ (text ++ m)))
    → option_and_then q o ≡ Some r → (c : ℕ) × (text : List ℕ) × (s ≡ c ∷ (text ++ r))
then_takes q l s r None first e = absurd (none-some r e)
then_takes q l s r (Some m) first e =
    let is = first m refl in
    let more = l m r e in
    (is.0, is.1 ++ more.0, is.2 ∙ ap (λ t. is.0 ∷ (is.1 ++ t)) more.1 ∙ ap (λ t. is.0 ∷ t) (sym (append_assoc is.1 more.0 r)))

pub then-takes : (p q : Reader) → Consumes p → Leaves q → Consumes (p then q)
then-takes p q t l s r e = then_takes q l s r (p s) (t s) e

then_leaves : (q : Reader) → Leaves q → (s r : List ℕ) (o : Option (List ℕ)) → ((m : List ℕ) → o ≡ Some m → (text : List ℕ) × (s ≡ text ++ m))
    → option_and_then q o ≡ Some r → (text : List ℕ) × (s ≡ text ++ r)
then_leaves q l s r None first e = absurd (none-some r e)
then_leaves q l s r (Some m) first e =
    let is = first m refl in
    let more = l m r e in
    (is.0 ++ more.0, is.1 ∙ ap (λ t. is.0 ++ t) more.1 ∙ sym (append_assoc is.0 more.0 r))

pub then-leaves : (p q : Reader) → Leaves p → Leaves q → Leaves (p then q)
then-leaves p q t l s r e = then_leaves q l s r (p s) (t s) e

or_takes : (s r : List ℕ) (o : Option (List ℕ)) (P : List ℕ → Type 0) (x : Option (List ℕ)) → ((m : List ℕ) → o ≡ Some m → P m)
    → ((m : List ℕ) → x ≡ Some m → P m) → option_or o x ≡ Some r → P r
or_takes s r None P x first second e = second r e
or_takes s r (Some m) P x first second e = first r e

pub or-takes : (p q : Reader) → Consumes p → Consumes q → Consumes (p or q)
or-takes p q t u s r e = or_takes s r (p s) (λ m. (c : ℕ) × (text : List ℕ) × (s ≡ c ∷ (text ++ m))) (q s) (t s) (u s) e

pub or-leaves : (p q : Reader) → Leaves p → Leaves q → Leaves (p or q)
or-leaves p q t u s r e = or_takes s r (p s) (λ m. (text : List ℕ) × (s ≡ text ++ m)) (q s) (t s) (u s) e

pub some-leaves : Leaves Some
some-leaves s r e = ([], same_Some s r e)

repeat_leaves : (cs : List ℕ) (p : Reader) → Consumes p → Leaves (repeat cs p)
unfolding repeat
repeat_leaves [] p t = some-leaves
repeat_leaves (c ∷ cs) p t = or-leaves (p then repeat cs p) Some (then-leaves p (repeat cs p) (takes-leaves p t) (repeat_leaves cs p t)) some-leaves

pub zero_or_more-leaves : (p : Reader) → Consumes p → Leaves (zero_or_more p)
unfolding zero_or_more
zero_or_more-leaves p t s r e = repeat_leaves s p t s r e

-- an option is `None` or `Some`
pub none_or_some : {X : Type 0} (o : Option X) → (o ≡ None) ⊎ ((x : X) × (o ≡ Some x))
none_or_some None = inl refl
none_or_some (Some x) = inr (x, refl)

repeat_some : (cs : List ℕ) (p : Reader) (s : List ℕ) → (r : List ℕ) × (repeat cs p s ≡ Some r)
unfolding repeat
repeat_some [] p s = (s, refl)
repeat_some (c ∷ cs) p s = elim (none_or_some (option_and_then (repeat cs p) (p s))) [
  | inl e ↦ (s, ap (λ o. option_or o (Some s)) e)
  | inr x ↦ (x.0, ap (λ o. option_or o (Some s)) x.1)
]

repeat_none : (cs : List ℕ) (p : Reader) (s : List ℕ) → p s ≡ None → repeat cs p s ≡ Some s
unfolding repeat
repeat_none [] p s e = refl
repeat_none (c ∷ cs) p s e = ap (λ o. option_or (option_and_then (repeat cs p) o) (Some s)) e

repeat_more : (c : ℕ) (cs : List ℕ) (p : Reader) (s r : List ℕ) → p s ≡ Some r → repeat (c ∷ cs) p s ≡ repeat cs p r
unfolding repeat
repeat_more c cs p s r e =
    let more = repeat_some cs p r in
    ap (λ o. option_or (option_and_then (repeat cs p) o) (Some s)) e ∙ ap (λ o. option_or o (Some s)) more.1 ∙ sym more.1

-- a reader that consumes bytes can't be repeated more often than there are bytes
repeat_enough : (p : Reader) → Consumes p → (f g s : List ℕ) → length s ≤ length f → length s ≤ length g → repeat f p s ≡ repeat g p s
repeat_enough p t [] g s h i = elim (none_or_some (p s)) [
  | inl e ↦ repeat_none [] p s e ∙ sym (repeat_none g p s e)
  | inr x ↦ let less = takes-shorter p t s x.0 x.1 in absurd (omega arith)
]
repeat_enough p t (c ∷ f) [] s h i = elim (none_or_some (p s)) [
  | inl e ↦ repeat_none (c ∷ f) p s e ∙ sym (repeat_none [] p s e)
  | inr x ↦ let less = takes-shorter p t s x.0 x.1 in absurd (omega arith)
]
repeat_enough p t (c ∷ f) (d ∷ g) s h i = elim (none_or_some (p s)) [
  | inl e ↦ repeat_none (c ∷ f) p s e ∙ sym (repeat_none (d ∷ g) p s e)
  | inr x ↦
      let less = takes-shorter p t s x.0 x.1 in
      repeat_more c f p s x.0 x.1 ∙ repeat_enough p t f g x.0 (omega arith) (omega arith) ∙ sym (repeat_more d g p s x.0 x.1)
]

-- a reader that rejects isn't repeated
pub zero_or_more-none : (p : Reader) (s : List ℕ) → p s ≡ None → zero_or_more p s ≡ Some s
unfolding zero_or_more
zero_or_more-none p s e = repeat_none s p s e

-- a reader that succeeds is repeated on its rest
pub zero_or_more-more : (p : Reader) → Consumes p → (s r : List ℕ) → p s ≡ Some r → zero_or_more p s ≡ zero_or_more p r
unfolding zero_or_more
zero_or_more-more p t [] r e = let less = takes-shorter p t [] r e in absurd (omega arith)
zero_or_more-more p t (c ∷ s) r e =
    let less = takes-shorter p t (c ∷ s) r e in
    repeat_more c s p (c ∷ s) r e ∙ repeat_enough p t s r r (omega arith) (omega arith)

pub zero_or_more-some : (p : Reader) (s : List ℕ) → (r : List ℕ) × (zero_or_more p s ≡ Some r)
unfolding zero_or_more
zero_or_more-some p s = repeat_some s p s

pub then-some : (p q : Reader) (s r : List ℕ) → p s ≡ Some r → (p then q) s ≡ q r
then-some p q s r e = ap (option_and_then q) e

pub then-none : (p q : Reader) (s : List ℕ) → p s ≡ None → (p then q) s ≡ None
then-none p q s e = ap (option_and_then q) e

pub or-some : (p q : Reader) (s r : List ℕ) → p s ≡ Some r → (p or q) s ≡ Some r
or-some p q s r e = ap (λ o. option_or o (q s)) e

pub or-none : (p q : Reader) (s : List ℕ) → p s ≡ None → (p or q) s ≡ q s
or-none p q s e = ap (λ o. option_or o (q s)) e
