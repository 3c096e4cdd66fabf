-- The result of places from the results of each.
use Rattle.std.specs.Option.{ok_or}
use Rattle.std.proofs.Common.{◌≡◌, ℕ, List, [], ◌∷◌, ◌++◌, refl, ap, sym, ◌∙◌, subst, Result, Ok, Err, Option, Some, None, Bor, append_assoc, IsErr, IsErrAnd, MatchResult, pos, inl, inr}
use Rattle.time_values.specs.Moments.{offset_date, offset_time, offset_of}
use Rattle.time_values.specs.Calendar.{greatest_year}
use Rattle.time_values.specs.Refusal.{Refusal}
use Rattle.time_values.specs.declared.offset_date_time.OffsetDateTime.{OffsetDateTime}
use Rattle.time_values.proofs.NumberLemmas.{same_month}
use Rattle.time_values.proofs.InstantLemmas.{same_date_by_parts, same_time_by_clock, same_offset}
use Rattle.time_digits.specs.Digits.{Cut, NoCut, Form}
use Rattle.time_readers.specs.Readers.{MatchesPlaces, StopsAt, Format}
use Rattle.time_readers.specs.PlaceAnswers.{Steps, Reads, Walks}
use Rattle.time_readers.specs.Direct.{moment_second, moment_nanosecond, first_refusal, IsMoment, IsLeapSecondValid, IsMade, IsNotMade, IsRefusedAfter, IsDirect, RefusesDirectly}
use Rattle.time_readers.specs.Laws.{OneForm, OneDirect}
use Rattle.time_readers.specs.declared.direct.MomentNumbers.{MomentNumbers}

pub Walks-none : {P N : Type 0} (A : Format P N) (n : N) (bytes : List ℕ) (rest : Bor (List ℕ)) → rest.now ≡ bytes → Walks A [] n bytes (Ok rest) n
unfolding MatchesPlaces
Walks-none A n bytes rest e = (e, refl)

-- the first place matches, and the others have this result
pub Walks-more : {P N : Type 0} (A : Format P N) (p : P) (ps : List P) (n k m : N) (bytes mid : List ℕ) (result : Result (Bor (List ℕ)) P)
    → Cut (A p n) bytes mid k → Walks A ps k mid result m → Walks A (p ∷ ps) n bytes result m
unfolding MatchesPlaces
Walks-more A p ps n k m bytes mid (Ok rest) first others = (mid, k, first, others)
Walks-more A p ps n k m bytes mid (Err e) first others = record {
  before = p ∷ others.before;
  after = others.after;
  place = ap (λ qs. p ∷ qs) others.place;
  mid = others.mid;
  numbers = others.numbers;
  stand = (mid, k, first, others.stand);
  stops = others.stops;
}

pub Walks-here : {P N : Type 0} (A : Format P N) (p : P) (ps : List P) (n m : N) (bytes : List ℕ) (e : P) → (e ≡ p) × NoCut (A p n) bytes
    → Walks A (p ∷ ps) n bytes (Err e) m
unfolding MatchesPlaces
Walks-here A p ps n m bytes e (same, stops) = subst (λ q. Walks A (p ∷ ps) n bytes (Err q) m) (sym same) (record {
  before = [];
  after = ps;
  place = refl;
  mid = bytes;
  numbers = n;
  stand = (refl, refl);
  stops = stops;
})

-- the first place doesn't match, and `?` returns it as the error
pub Walks-stop : {P N : Type 0} (A : Format P N) (p : P) (ps : List P) (n m : N) (bytes : List ℕ) (result : Result (Bor (List ℕ)) P) (e : P)
    → IsErr result × IsErrAnd result (λ x. x ≡ e) → (e ≡ p) × NoCut (A p n) bytes → Walks A (p ∷ ps) n bytes result m
Walks-stop A p ps n m bytes (Ok rest) e by stops = let h = by.0 in cc
Walks-stop A p ps n m bytes (Err x) e by stops = Walks-here A p ps n m bytes x (by.1 ∙ stops.0, stops.1)

-- the last place has this result
pub Walks-last : {P N : Type 0} (A : Format P N) (p : P) (n m : N) (bytes : List ℕ) (result : Result (Bor (List ℕ)) P)
    → Steps A p n bytes result m → Walks A (p ∷ []) n bytes result m
unfolding MatchesPlaces
Walks-last A p n m bytes (Ok rest) step = (rest.now, m, step, (refl, refl))
Walks-last A p n m bytes (Err e) step = Walks-here A p [] n m bytes e step

-- the first place is one byte that has no value
pub Walks-byte : {P N : Type 0} (A : Format P N) (p : P) (ps : List P) (n m : N) (bytes mid : List ℕ) (result : Result (Bor (List ℕ)) P)
    (c : ℕ) → bytes ≡ c ∷ mid → A p n (c ∷ []) mid n → Walks A ps n mid result m → Walks A (p ∷ ps) n bytes result m
Walks-byte A p ps n m bytes mid result c cut asks others = Walks-more A p ps n n m bytes mid result (c ∷ [], cut, asks) others

pub NoCut-byte : {N : Type 0} (Q : Form N) (c : ℕ) (bytes : List ℕ) → ((rest : List ℕ) → bytes ≡ c ∷ rest → ⊥)
    → ((text after : List ℕ) (m : N) → Q text after m → text ≡ c ∷ []) → NoCut Q bytes
NoCut-byte Q c bytes none asks text rest m e q = none rest (e ∙ ap (λ t. t ++ rest) (asks text rest m q))

-- the result of a place's parser, with the place as the error for `None`
Steps-or : {P N : Type 0} (A : Format P N) (p : P) (n k : N) (bytes : List ℕ) (answer : Option (Bor (List ℕ)))
    (result : Result (Bor (List ℕ)) P) → Reads (A p n) bytes answer k → result ≡ ok_or answer p → Steps A p n bytes result k
Steps-or A p n k bytes None result none e = subst (λ r. Steps A p n bytes r k) (sym e) (refl, none)
Steps-or A p n k bytes (Some rest) result cut e = subst (λ r. Steps A p n bytes r k) (sym e) cut

-- the parser of the first place returns a rest, and the others have this result
pub Reads-more : {P N : Type 0} (A : Format P N) (p : P) (ps : List P) (n k m : N) (bytes : List ℕ) (rest : Bor (List ℕ))
    (answer : Option (Bor (List ℕ))) (result : Result (Bor (List ℕ)) P) → Reads (A p n) bytes answer k → Ok rest ≡ ok_or answer p
    → Walks A ps k rest.now result m → Walks A (p ∷ ps) n bytes result m
Reads-more A p ps n k m bytes rest answer result reads e others =
    Walks-more A p ps n k m bytes rest.now result (Steps-or A p n k bytes answer (Ok rest) reads e) others

-- the parser of the first place returns `None`, and `?` returns its place as the error
pub Reads-stop : {P N : Type 0} (A : Format P N) (p : P) (ps : List P) (n k m : N) (bytes : List ℕ) (answer : Option (Bor (List ℕ)))
    (result : Result (Bor (List ℕ)) P) (e : P) → IsErr result × IsErrAnd result (λ x. x ≡ e) → Reads (A p n) bytes answer k
    → Err e ≡ ok_or answer p → Walks A (p ∷ ps) n bytes result m
Reads-stop A p ps n k m bytes answer result e by reads is =
    Walks-stop A p ps n m bytes result e by (Steps-or A p n k bytes answer (Err e) reads is)

-- the parser of the last place has this result
pub Reads-last : {P N : Type 0} (A : Format P N) (p : P) (n m : N) (bytes : List ℕ) (answer : Option (Bor (List ℕ)))
    (result : Result (Bor (List ℕ)) P) → Reads (A p n) bytes answer m → result ≡ ok_or answer p → Walks A (p ∷ []) n bytes result m
Reads-last A p n m bytes answer result reads e = Walks-last A p n m bytes result (Steps-or A p n m bytes answer result reads e)

-- the first places match, and then the others
pub MatchesPlaces-append : {P N : Type 0} (A : Format P N) (ps qs : List P) (n k m : N) (bytes mid rest : List ℕ) → MatchesPlaces A ps n bytes mid k
    → MatchesPlaces A qs k mid rest m → MatchesPlaces A (ps ++ qs) n bytes rest m
unfolding MatchesPlaces
MatchesPlaces-append A [] qs n k m bytes mid rest first others =
    subst (λ b. MatchesPlaces A qs n b rest m) first.0 (subst (λ x. MatchesPlaces A qs x mid rest m) first.1 others)
MatchesPlaces-append A (p ∷ ps) qs n k m bytes mid rest first others =
    (first.0, first.1, first.2, MatchesPlaces-append A ps qs first.1 k m first.0 mid rest first.3 others)

-- the first places match, and not all of the others
pub StopsAt-after : {P N : Type 0} (A : Format P N) (ps qs : List P) (n k : N) (bytes mid : List ℕ) (e : P) → MatchesPlaces A ps n bytes mid k
    → StopsAt A qs k mid e → StopsAt A (ps ++ qs) n bytes e
StopsAt-after A ps qs n k bytes mid e first others = record {
  before = ps ++ others.before;
  after = others.after;
  place = ap (λ xs. ps ++ xs) others.place ∙ sym (append_assoc ps others.before (e ∷ others.after));
  mid = others.mid;
  numbers = others.numbers;
  stand = MatchesPlaces-append A ps others.before n k others.numbers bytes mid others.mid first others.stand;
  stops = others.stops;
}

-- not all of the first places match
StopsAt-append : {P N : Type 0} (A : Format P N) (ps qs : List P) (n : N) (bytes : List ℕ) (e : P) → StopsAt A ps n bytes e → StopsAt A (ps ++ qs) n bytes e
StopsAt-append A ps qs n bytes e w = record {
  before = w.before;
  after = w.after ++ qs;
  place = ap (λ xs. xs ++ qs) w.place ∙ append_assoc w.before (e ∷ w.after) qs;
  mid = w.mid;
  numbers = w.numbers;
  stand = w.stand;
  stops = w.stops;
}

-- not all of the first places match, and `?` returns the first mismatch
pub StopsAt-by : {P N : Type 0} (A : Format P N) (ps qs : List P) (n : N) (bytes : List ℕ) {V : Type 0} (result : Result V P) (e : P)
    (Q : V → Type 0) → IsErr result × IsErrAnd result (λ x. x ≡ e) → StopsAt A ps n bytes e
    → MatchResult result Q (λ x. StopsAt A (ps ++ qs) n bytes x)
StopsAt-by A ps qs n bytes (Ok v) e Q by stops = let h = by.0 in cc
StopsAt-by A ps qs n bytes (Err x) e Q by stops = subst (λ y. StopsAt A (ps ++ qs) n bytes y) (sym by.1) (StopsAt-append A ps qs n bytes e stops)

-- not all of the first places match, and `?` returns the first mismatch as the result of all places
pub Walks-by : {P N : Type 0} (A : Format P N) (ps qs : List P) (n m : N) (bytes : List ℕ) (result : Result (Bor (List ℕ)) P) (e : P)
    → IsErr result × IsErrAnd result (λ x. x ≡ e) → StopsAt A ps n bytes e → Walks A (ps ++ qs) n bytes result m
Walks-by A ps qs n m bytes (Ok rest) e by stops = let h = by.0 in cc
Walks-by A ps qs n m bytes (Err x) e by stops = subst (λ y. StopsAt A (ps ++ qs) n bytes y) (sym by.1) (StopsAt-append A ps qs n bytes e stops)

-- the first places match, and the others have this result
pub Walks-after : {P N : Type 0} (A : Format P N) (ps qs : List P) (n k m : N) (bytes mid : List ℕ) (result : Result (Bor (List ℕ)) P)
    → MatchesPlaces A ps n bytes mid k → Walks A qs k mid result m → Walks A (ps ++ qs) n bytes result m
Walks-after A ps qs n k m bytes mid (Ok rest) first others = MatchesPlaces-append A ps qs n k m bytes mid rest.now first others
Walks-after A ps qs n k m bytes mid (Err e) first others = StopsAt-after A ps qs n k bytes mid e first others

-- places that match, split into the first of them and the others
pub MatchesPlaces-split : {P N : Type 0} (A : Format P N) (ps qs : List P) (n m : N) (bytes rest : List ℕ) → MatchesPlaces A (ps ++ qs) n bytes rest m
    → (mid : List ℕ) × ((k : N) × MatchesPlaces A ps n bytes mid k × MatchesPlaces A qs k mid rest m)
unfolding MatchesPlaces
MatchesPlaces-split A [] qs n m bytes rest s = (bytes, (n, (refl, refl), s))
MatchesPlaces-split A (p ∷ ps) qs n m bytes rest s =
    let t = MatchesPlaces-split A ps qs s.1 m s.0 rest s.3 in
    (t.0, (t.1.0, (s.0, s.1, s.2, t.1.1), t.1.2))

-- the rest after places that match is a suffix of the bytes
pub MatchesPlaces-ends : {P N : Type 0} (A : Format P N) (ps : List P) (n m : N) (bytes rest : List ℕ) → MatchesPlaces A ps n bytes rest m
    → (before : List ℕ) × (bytes ≡ before ++ rest)
unfolding MatchesPlaces
MatchesPlaces-ends A [] n m bytes rest s = ([], sym s.0)
MatchesPlaces-ends A (p ∷ ps) n m bytes rest s =
    let t = MatchesPlaces-ends A ps s.1 m s.0 rest s.3 in
    let cut = s.2 in
    (cut.0 ++ t.0, cut.1 ∙ ap (λ r. cut.0 ++ r) t.1 ∙ sym (append_assoc cut.0 t.0 rest))

-- ---- A property of a place's numbers holds of the final numbers, if no other place sets them

-- a place sets only the numbers that `with` takes from those after it
abbrev pub Alone : {P N : Type 0} → Format P N → (P → N → N → N) → Type 0
Alone {P} {N} A with = (p : P) (n m : N) (text after : List ℕ) → A p n text after m → m ≡ with p n m

-- f doesn't depend on the numbers of these places
abbrev pub Ignores : {P N X : Type 0} → (P → N → N → N) → (N → X) → List P → Type 0
Ignores with f [] = Unit {0}
Ignores {P} {N} with f (p ∷ ps) = ((n m : N) → f (with p n m) ≡ f n) × Ignores with f ps

pub kept : {P N X : Type 0} (A : Format P N) (with : P → N → N → N) (f : N → X) → Alone A with
    → (ps : List P) (n m : N) (bytes rest : List ℕ) → Ignores with f ps → MatchesPlaces A ps n bytes rest m → f m ≡ f n
unfolding MatchesPlaces
kept A with f alone [] n m bytes rest i s = ap f s.1
kept A with f alone (p ∷ ps) n m bytes rest i s =
    kept A with f alone ps s.1 m s.0 rest i.1 s.3 ∙ (ap f (alone p n s.1 s.2.0 s.0 s.2.2) ∙ i.0 n s.1)

-- a property of numbers that a place has set, and no later place sets, holds of the final numbers
pub said_after : {P N X Z : Type 0} (A : Format P N) (with : P → N → N → N) (f : N → Z) (g : N → X) (Q : X → Type 0) → Alone A with
    → (before : List P) (p : P) (after : List P) (n m : N) (bytes rest : List ℕ) → MatchesPlaces A (before ++ p ∷ after) n bytes rest m
    → Ignores with f before → Ignores with g after
    → ((j k : N) (text mid : List ℕ) → f j ≡ f n → A p j text mid k → Q (g k)) → Q (g m)
unfolding MatchesPlaces
said_after A with f g Q alone before p after n m bytes rest s i j tells =
    let parts = MatchesPlaces-split A before (p ∷ after) n m bytes rest s in
    let last = parts.1.2 in
    let start = kept A with f alone before n parts.1.0 bytes parts.0 i parts.1.1 in
    subst Q (sym (kept A with g alone after last.1 m last.0 rest j last.3)) (tells parts.1.0 last.1 last.2.0 last.0 start last.2.2)

-- a property of a place's number holds of the final number
pub said : {P N X : Type 0} (A : Format P N) (with : P → N → N → N) (f : N → X) (Q : X → Type 0) → Alone A with
    → (before : List P) (p : P) (after : List P) (n m : N) (bytes rest : List ℕ) → MatchesPlaces A (before ++ p ∷ after) n bytes rest m → Ignores with f before
    → Ignores with f after → ((j k : N) (text mid : List ℕ) → f j ≡ f n → A p j text mid k → Q (f k)) → Q (f m)
said A with f Q = said_after A with f f Q

-- a property of a place's final numbers holds of its numbers right after the place
abbrev pub Back : {P N : Type 0} → Format P N → (P → N → Type 0) → List P → Type 0
Back A In [] = Unit {0}
Back {P} {N} A In (p ∷ ps) =
    ((k m : N) (bytes rest : List ℕ) → MatchesPlaces A ps k bytes rest m → In p m → In p k) × Back A In ps

-- texts that match one format match another, if the final numbers have the properties that the other requires besides
pub along : {P N : Type 0} (A B : Format P N) (In : P → N → Type 0)
    → ((p : P) (n m : N) (text after : List ℕ) → In p m → A p n text after m → B p n text after m)
    → (ps : List P) (n m : N) (bytes rest : List ℕ) → Back A In ps → ((p : P) → In p m)
    → MatchesPlaces A ps n bytes rest m → MatchesPlaces B ps n bytes rest m
unfolding MatchesPlaces
along A B In asked [] n m bytes rest back all s = s
along A B In asked (p ∷ ps) n m bytes rest back all s =
    let here = back.0 s.1 m s.0 rest s.3 (all p) in (
      s.0,
      s.1,
      (s.2.0, s.2.1, asked p n s.1 s.2.0 s.0 here s.2.2),
      along A B In asked ps s.1 m s.0 rest back.1 all s.3,
    )

-- the places after don't change the numbers that a predicate depends on
pub back_by : {P N X : Type 0} (A : Format P N) (with : P → N → N → N) (f : N → X) (Q : X → Type 0) → Alone A with
    → (ps : List P) → Ignores with f ps → (k m : N) (bytes rest : List ℕ) → MatchesPlaces A ps k bytes rest m → Q (f m) → Q (f k)
back_by A with f Q alone ps ignores k m bytes rest s is = subst Q (kept A with f alone ps k m bytes rest ignores s) is

-- ---- A direct path has one result

same_zoned : (v w : OffsetDateTime) → offset_date v ≡ offset_date w → offset_time v ≡ offset_time w → offset_of v ≡ offset_of w → v ≡ w
same_zoned v w d t o = λ i. record { date = d i; time = t i; offset = o i }

-- the numbers make one moment
one_moment : (s : MomentNumbers) (v w : OffsetDateTime) → IsMoment s v → IsMoment s w → v ≡ w
one_moment s v w a b =
    let month = same_month _ _ (a.date.month ∙ sym b.date.month) in
    same_zoned v w
    (same_date_by_parts (offset_date v) (offset_date w) (a.date.year ∙ sym b.date.year) month (a.date.day ∙ sym b.date.day))
    (same_time_by_clock s.hour s.minute (moment_second s) (moment_nanosecond s) (offset_time v) (offset_time w) a.clock b.clock)
    (same_offset s.offset_hour s.offset_minute (pos 0) (offset_of v) (offset_of w) a.offset b.offset)

none_or_some : (o : Option Refusal) (e : Refusal) → o ≡ None → o ≡ Some e → ⊥
none_or_some o e n s = cc

one_not_made : (s : MomentNumbers) (e f : Refusal) → IsNotMade greatest_year s e → IsNotMade greatest_year s f → e ≡ f
one_not_made s e f (inl a) (inl b) = let same : Some e ≡ Some f = sym a ∙ b in cc
one_not_made s e f (inl a) (inr b) = absurd (none_or_some (first_refusal greatest_year s) e b.0 a)
one_not_made s e f (inr a) (inl b) = absurd (none_or_some (first_refusal greatest_year s) f a.0 b)
one_not_made s e f (inr a) (inr b) = a.1 ∙ sym b.1

made_or_not : (s : MomentNumbers) (v : OffsetDateTime) (e : Refusal) → IsMade greatest_year s v → IsNotMade greatest_year s e → ⊥
made_or_not s v e made (inl b) = none_or_some (first_refusal greatest_year s) e made.0 b
made_or_not s v e made (inr b) =
    let other = b.2 in
    other.2 (subst (IsLeapSecondValid greatest_year s) (one_moment s v other.0 made.1 other.1) made.2)

one_after : (last : Option Refusal) (s : MomentNumbers) (rest : List ℕ) (e f : Refusal)
    → IsRefusedAfter greatest_year last s rest e → IsRefusedAfter greatest_year last s rest f → e ≡ f
one_after (Some r) s rest e f a b = a ∙ sym b
one_after None s [] e f a b = one_not_made s e f a b
one_after None s (c ∷ rest) e f a b = a ∙ sym b

made_or_after : (last : Option Refusal) (s : MomentNumbers) (v : OffsetDateTime) (e : Refusal) → last ≡ None
    → IsMade greatest_year s v → IsRefusedAfter greatest_year last s [] e → ⊥
made_or_after None s v e none made b = made_or_not s v e made b
made_or_after (Some r) s v e none made b = absurd (cc)

module _ {P N : Type 0} (A : Format P N) (ps : List P) (start : N) (fault : P → Refusal) (last : N → Option Refusal) (says : N → MomentNumbers)
    (one : (bytes : List ℕ) → OneForm A ps start bytes) where
  one_refusal : (bytes : List ℕ) (e f : Refusal)
      → RefusesDirectly (MatchesPlaces A ps start) (StopsAt A ps start) fault last says greatest_year bytes e
      → RefusesDirectly (MatchesPlaces A ps start) (StopsAt A ps start) fault last says greatest_year bytes f → e ≡ f
  one_refusal bytes e f (inl a) (inl b) = a.2 ∙ ap fault ((one bytes).one_place a.0 b.0 a.1 b.1) ∙ sym b.2
  one_refusal bytes e f (inl a) (inr b) = absurd ((one bytes).never_both b.0 b.1.0 a.0 b.1.1 a.1)
  one_refusal bytes e f (inr a) (inl b) = absurd ((one bytes).never_both a.0 a.1.0 b.0 a.1.1 b.1)
  one_refusal bytes e f (inr a) (inr b) =
      let same = (one bytes).one_reading a.0 b.0 a.1.0 b.1.0 a.1.1 b.1.1 in
      let here = subst (λ n. IsRefusedAfter greatest_year (last n) (says n) b.0 e) same.1
      (subst (λ r. IsRefusedAfter greatest_year (last a.1.0) (says a.1.0) r e) same.0 a.1.2) in
      one_after (last b.1.0) (says b.1.0) b.0 e f here b.1.2

  one_value : (bytes : List ℕ) (v w : OffsetDateTime) → IsDirect (MatchesPlaces A ps start) last says greatest_year bytes v
      → IsDirect (MatchesPlaces A ps start) last says greatest_year bytes w → v ≡ w
  one_value bytes v w a b =
      let same = (one bytes).one_reading [] [] a.0 b.0 a.1 b.1 in
      one_moment (says b.0) v w (subst (λ n. IsMoment (says n) v) same.1 a.3.1) b.3.1

  never_both : (bytes : List ℕ) (v : OffsetDateTime) (e : Refusal) → IsDirect (MatchesPlaces A ps start) last says greatest_year bytes v
      → RefusesDirectly (MatchesPlaces A ps start) (StopsAt A ps start) fault last says greatest_year bytes e → ⊥
  never_both bytes v e a (inl b) = (one bytes).never_both [] a.0 b.0 a.1 b.1
  never_both bytes v e a (inr b) =
      let same = (one bytes).one_reading b.0 [] b.1.0 a.0 b.1.1 a.1 in
      let here = subst (λ n. IsRefusedAfter greatest_year (last n) (says n) [] e) same.1
      (subst (λ r. IsRefusedAfter greatest_year (last b.1.0) (says b.1.0) r e) same.0 b.1.2) in
      made_or_after (last a.0) (says a.0) v e a.2 a.3 here

  pub one_direct : OneDirect (IsDirect (MatchesPlaces A ps start) last says greatest_year)
      (RefusesDirectly (MatchesPlaces A ps start) (StopsAt A ps start) fault last says greatest_year)
  one_direct = record { one_value = one_value; one_refusal = one_refusal; never_both = never_both }
