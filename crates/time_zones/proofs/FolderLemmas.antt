-- Zones by their names.
use Rattle.std.specs.Prelude.{Result, IfOk, IfErr, IsSome, IfSome, Contains, IsUtf8, String, codes}
use Rattle.std.specs.BTreeMap.{is_at}
use Rattle.std.specs.Cmp.Lexicographic.{slice_cmp}
use Rattle.std.specs.Map.{lookup}
use Rattle.std.specs.Str.{bytes_eq}
use Rattle.std.specs.declared.alloc.Global.{Global}
use Rattle.std.specs.Ordering.{int_eq}
use Rattle.std.proofs.Common.{◌≡◌, ◌⊎◌, zero, suc, ℤ, pos, negsuc, ◌+ℤ◌, ◌-ℤ◌, ◌≤ℤ◌, Option, Some, None, Ok, Err, refl, sym, ap, ◌∙◌, arith, inl, inr, ◌≢◌, ℕ, ◌+◌, ◌<◌, true, false, List, [], ◌∷◌, ◌++◌, length, map, take, get_or, subst, string_bytes, cond, nat_cmp, Bool, IsTrue, ◌↔◌, MatchOption}
use Rattle.std.proofs.lemmas.Int.{ints}
use Rattle.std.proofs.lemmas.Bool.{false_from_ne_true}
use Rattle.std.proofs.lemmas.List.{map_more}
use Rattle.std.proofs.lemmas.List.Elements.{All-nil, All-push, Contains-append_left, Contains-push}
use Rattle.std.proofs.lemmas.Map.Text.{is_eq-slice_cmp}
use Rattle.std.proofs.lemmas.Slice.Eq.{bytes_eq-Decides}
use Rattle.std.proofs.lemmas.Str.{IsUtf8-had}
use Rattle.std.proofs.lemmas.Bool.Decides.{Decides-int_eq}
use Rattle.jiff_core.specs.Timestamp.{nanos_of_seconds}
use Rattle.jiff_tz.specs.Zone as Zone
use Rattle.jiff_tz.specs.declared.timezone.TimeZone.{TimeZone}
use Rattle.jiff_tz.specs.declared.timezone.TimeZone.TheVariants as Kit
use Rattle.time_values.specs.Instants.{clock_nanos}
use Rattle.time_values.specs.Moments.{plain_instant, offset_instant, offset_date, offset_time, offset_of}
use Rattle.time_values.specs.Offsets.{offset_seconds}
use Rattle.time_values.specs.Calendar.{greatest_year}
use Rattle.time_values.specs.Sign.{HasOneSign}
use Rattle.time_values.specs.declared.offset_date_time.OffsetDateTime.{OffsetDateTime}
use Rattle.time_values.specs.declared.plain_date_time.PlainDateTime.{PlainDateTime}
use Rattle.time_values.specs.declared.utc_offset.UtcOffset.{UtcOffset}
use Rattle.time_values.proofs.InstantLemmas.{instant_is, same_moment, same_offset_by_parts}
use Rattle.time_zones.specs.Zones.{Shows, HasLocalTime, IsOnlyMoment, IsNotOne, IsAnswer, RoundTrips, HasZoneOffset}
use Rattle.time_zones.specs.declared.clocks.NotOne.{NotOne}
use Rattle.time_zones.specs.declared.clocks.NotOne.TheVariants.{Gap, Fold, OutsideZoneRange}
use Rattle.time_zones.specs.Finding.{Giving, IsZoneOf, zone_named, IsInserted, IsZoneIfAny, IsFoundIn, IsOfNone, AddsFound, AreZonesOf, offset_in}
use Rattle.time_zones.specs.declared.finding.NamedZone.{NamedZone}
use Rattle.time_zones.specs.declared.finding.NamedZone.TheVariants.{Utc, Rule, Table}
use Rattle.time_zones.specs.declared.place.Place.TheVariants as At
use Rattle.time_zones.specs.declared.zones.Zones.{Zones}
use Rattle.time_zones.specs.Suffix.{Checked, compared, HasItsOffset, AgreesWithNamed, AgreesWithZone, OneCheck, Zone, named, at_offset}
use Rattle.time_zones.specs.declared.checking.SuffixFault.TheVariants.{UnknownZone, OtherOffset}

-- ---- One result: moments with one local time and instant are equal

-- the parts of an offset are all at least 0, or all at most 0
signs : (h m s : ℤ) → HasOneSign h m s
    → ((pos 0 ≤ℤ h) × (pos 0 ≤ℤ m) × (pos 0 ≤ℤ s)) ⊎ ((h ≤ℤ pos 0) × (m ≤ℤ pos 0) × (s ≤ℤ pos 0))
signs (pos zero) (pos zero) (pos s) p = inl (omega (arith, ints), omega (arith, ints), omega (arith, ints))
signs (pos zero) (pos zero) (negsuc s) p = inr (omega (arith, ints), omega (arith, ints), omega (arith, ints))
signs (pos zero) (pos (suc m)) s p = inl (omega (arith, ints), omega (arith, ints), omega (arith, ints, p.1))
signs (pos zero) (negsuc m) s p = inr (omega (arith, ints), omega (arith, ints), omega (arith, ints, p.1))
signs (pos (suc h)) m s p = inl (omega (arith, ints), omega (arith, ints, p.0), omega (arith, ints, p.1))
signs (negsuc h) m s p = inr (omega (arith, ints), omega (arith, ints, p.0), omega (arith, ints, p.1))

-- offsets of one number of seconds are equal
pub same_offset_by_seconds : (a b : UtcOffset) → offset_seconds a ≡ offset_seconds b → a ≡ b
same_offset_by_seconds a b e =
    let of_a = signs a.hours a.minutes a.seconds a.one_sign in
    let of_b = signs b.hours b.minutes b.seconds b.one_sign in
    let parts : (a.hours ≡ b.hours) × (a.minutes ≡ b.minutes) × (a.seconds ≡ b.seconds) =
    elim of_a [
      | inl up ↦ elim of_b [
        | inl also ↦ omega (arith, ints, e, up, also, a.minutes_in, a.seconds_in, b.minutes_in, b.seconds_in)
        | inr down ↦ omega (arith, ints, e, up, down, a.minutes_in, a.seconds_in, b.minutes_in, b.seconds_in)
      ]
      | inr down ↦ elim of_b [
        | inl up ↦ omega (arith, ints, e, up, down, a.minutes_in, a.seconds_in, b.minutes_in, b.seconds_in)
        | inr also ↦ omega (arith, ints, e, down, also, a.minutes_in, a.seconds_in, b.minutes_in, b.seconds_in)
      ]
    ] in
    same_offset_by_parts a b parts.0 parts.1 parts.2

pub same_value : (a b : OffsetDateTime) → offset_date a ≡ offset_date b → offset_time a ≡ offset_time b → offset_of a ≡ offset_of b → a ≡ b
same_value a b d t o = λ i. record {
  date = d i;
  time = t i;
  offset = o i;
}

-- the instant of a moment, unfolded
pub offset_instant_is : (m : OffsetDateTime)
    → offset_instant greatest_year m ≡ clock_nanos greatest_year (offset_date m) (offset_time m) -ℤ nanos_of_seconds (offset_seconds (offset_of m))
offset_instant_is m = instant_is m.date m.time m.offset

-- moments with one instant and one offset in seconds are equal
pub same_by_instant : (a b : OffsetDateTime) → offset_instant greatest_year a ≡ offset_instant greatest_year b
    → offset_seconds (offset_of a) ≡ offset_seconds (offset_of b) → a ≡ b
same_by_instant a b e o =
    let clock = same_moment a.date b.date a.time b.time (omega (arith, ints, e, o, offset_instant_is a, offset_instant_is b)) in
    same_value a b clock.0 clock.1 (same_offset_by_seconds a.offset b.offset o)

-- a moment with that local time in a zone has it at its instant
pub HasLocalTime-Shows : (zone : TimeZone) (clock : PlainDateTime) (m : OffsetDateTime) → HasLocalTime zone clock m
    → Shows zone (plain_instant greatest_year clock) (offset_instant greatest_year m)
HasLocalTime-Shows zone clock m h =
    let reading : offset_instant greatest_year m +ℤ nanos_of_seconds (offset_seconds (offset_of m))
    ≡ clock_nanos greatest_year (offset_date m) (offset_time m) = omega (arith, ints, offset_instant_is m) in
    let same : clock_nanos greatest_year (offset_date m) (offset_time m) ≡ plain_instant greatest_year clock = rw (h.0, h.1) refl in
    (h.3, ap (λ s. offset_instant greatest_year m +ℤ nanos_of_seconds s) (sym h.2) ∙ reading ∙ same)

-- moments of a zone at one instant are equal
pub same_shown : (zone : TimeZone) (a b : OffsetDateTime) → HasZoneOffset zone a → HasZoneOffset zone b
    → offset_instant greatest_year a ≡ offset_instant greatest_year b → a ≡ b
same_shown zone a b p q e = same_by_instant a b e (p ∙ ap (Zone.offset_at zone) e ∙ sym q)

same_fold : (e l e' l' : OffsetDateTime) → e ≡ e' → l ≡ l' → Fold e l ≡ Fold e' l'
same_fold e l e' l' p q = λ i. Fold (p i) (q i)

-- a result by its two cases
pub is_answer : (zone : TimeZone) (clock : PlainDateTime) (a : Result OffsetDateTime NotOne)
    → IfOk a (IsOnlyMoment zone clock) → IfErr a (IsNotOne zone clock) → IsAnswer zone clock a
is_answer zone clock (Ok m) ok err = ok
is_answer zone clock (Err why) ok err = err

-- a date and time has one result in a zone
pub one_answer : (zone : TimeZone) (clock : PlainDateTime) (a b : Result OffsetDateTime NotOne)
    → IsAnswer zone clock a → IsAnswer zone clock b → a ≡ b
one_answer zone clock (Ok a) (Ok b) p q =
    ap Ok (same_shown zone a b p.0.2 q.0.2 (q.1 _ (HasLocalTime-Shows zone clock a p.0)))
one_answer zone clock (Ok a) (Err Gap) p q = absurd (q.0 _ (HasLocalTime-Shows zone clock a p.0))
one_answer zone clock (Ok a) (Err OutsideZoneRange) p q = absurd (q.0 _ (HasLocalTime-Shows zone clock a p.0))
one_answer zone clock (Ok a) (Err (Fold e l)) p q =
    absurd (omega (arith, ints, p.1 _ (HasLocalTime-Shows zone clock e q.0), p.1 _ (HasLocalTime-Shows zone clock l q.1), q.2))
one_answer zone clock (Err Gap) (Ok b) p q = absurd (p.0 _ (HasLocalTime-Shows zone clock b q.0))
one_answer zone clock (Err Gap) (Err Gap) p q = refl
one_answer zone clock (Err Gap) (Err OutsideZoneRange) p q = absurd (q.1 p.1)
one_answer zone clock (Err Gap) (Err (Fold e l)) p q = absurd (p.0 _ (HasLocalTime-Shows zone clock e q.0))
one_answer zone clock (Err OutsideZoneRange) (Ok b) p q = absurd (p.0 _ (HasLocalTime-Shows zone clock b q.0))
one_answer zone clock (Err OutsideZoneRange) (Err Gap) p q = absurd (p.1 q.1)
one_answer zone clock (Err OutsideZoneRange) (Err OutsideZoneRange) p q = refl
one_answer zone clock (Err OutsideZoneRange) (Err (Fold e l)) p q = absurd (p.0 _ (HasLocalTime-Shows zone clock e q.0))
one_answer zone clock (Err (Fold e l)) (Ok b) p q =
    absurd (omega (arith, ints, q.1 _ (HasLocalTime-Shows zone clock e p.0), q.1 _ (HasLocalTime-Shows zone clock l p.1), p.2))
one_answer zone clock (Err (Fold e l)) (Err Gap) p q = absurd (q.0 _ (HasLocalTime-Shows zone clock e p.0))
one_answer zone clock (Err (Fold e l)) (Err OutsideZoneRange) p q = absurd (q.0 _ (HasLocalTime-Shows zone clock e p.0))
one_answer zone clock (Err (Fold e l)) (Err (Fold e' l')) p q =
    let e-in = q.3 _ (HasLocalTime-Shows zone clock e p.0) in
    let l-in = q.3 _ (HasLocalTime-Shows zone clock l p.1) in
    let e'-in = p.3 _ (HasLocalTime-Shows zone clock e' q.0) in
    let l'-in = p.3 _ (HasLocalTime-Shows zone clock l' q.1) in
    ap Err (same_fold e l e' l'
    (same_shown zone e e' p.0.2 q.0.2 (omega (arith, ints, e-in.0, e'-in.0)))
    (same_shown zone l l' p.1.2 q.1.2 (omega (arith, ints, l-in.1, l'-in.1))))

-- the local time of a moment resolves to it, or to a fold around it
pub answers_back : (zone : TimeZone) (clock : PlainDateTime) (m shown : OffsetDateTime) (a : Result OffsetDateTime NotOne)
    → IsAnswer zone clock a → HasLocalTime zone clock shown → offset_instant greatest_year shown ≡ offset_instant greatest_year m → RoundTrips m a
answers_back zone clock m shown (Ok back) p h e = sym (p.1 _ (HasLocalTime-Shows zone clock shown h)) ∙ e
answers_back zone clock m shown (Err Gap) p h e = absurd (p.0 _ (HasLocalTime-Shows zone clock shown h))
answers_back zone clock m shown (Err OutsideZoneRange) p h e = absurd (p.0 _ (HasLocalTime-Shows zone clock shown h))
answers_back zone clock m shown (Err (Fold earlier later)) p h e =
    let within = p.3 _ (HasLocalTime-Shows zone clock shown h) in
    (omega (arith, ints, within.0, e), omega (arith, ints, within.1, e))

-- a moment that has the zone's offset is the one at its instant
pub left_as_it_is : (zone : TimeZone) (m : OffsetDateTime) (v : Option OffsetDateTime) → IsSome v
    → IfSome v (λ w. offset_instant greatest_year w ≡ offset_instant greatest_year m) → IfSome v (HasZoneOffset zone) → HasZoneOffset zone m
    → v ≡ Some m
left_as_it_is zone m None some instant offset has = absurd (cc)
left_as_it_is zone m (Some w) some instant offset has = ap Some (same_shown zone w m offset has instant)

-- keys are text
none_of_no_text : (name : List ℕ) → (IsUtf8 name → ⊥) → (es : List (String Global × NamedZone))
    → lookup (is_at (λ k. slice_cmp nat_cmp name (string_bytes k))) es ≡ None
none_of_no_text name h [] = refl
none_of_no_text name h (e ∷ es) =
    let text : IsUtf8 (string_bytes e.0) = IsUtf8-had (string_bytes e.0) e.0.ok in
    let differs : is_at (λ k. slice_cmp nat_cmp name (string_bytes k)) e.0 ≡ false =
    is_eq-slice_cmp name (string_bytes e.0) ∙ false_from_ne_true (bytes_eq name (string_bytes e.0))
    (λ same. h (subst IsUtf8 (sym ((bytes_eq-Decides name (string_bytes e.0)).0 same)) text)) in
    ap (λ b. cond b (Some e.1) (lookup (is_at (λ k. slice_cmp nat_cmp name (string_bytes k))) es)) differs ∙ none_of_no_text name h es

pub no_zone_of_no_text : (zones : Zones) (name : List ℕ) → (IsUtf8 name → ⊥) → IsZoneIfAny (zone_named zones name) None
no_zone_of_no_text zones name h = rw (none_of_no_text name h zones.zones.entries) tt

-- the kit's zone has the offsets of the zone that was found
pub offset_at-offset_in : (found : NamedZone) (zone : TimeZone) → IsZoneOf found zone → (n : ℤ) → Zone.offset_at zone n ≡ offset_in found n
unfolding Zone.offset_at offset_in
offset_at-offset_in Utc zone h n = rw h refl
offset_at-offset_in (Rule rule) zone h n = rw h refl
offset_at-offset_in (Table table) Kit.UTC h n = absurd h
offset_at-offset_in (Table table) Kit.Unknown h n = absurd h
offset_at-offset_in (Table table) (Kit.Fixed offset) h n = absurd h
offset_at-offset_in (Table table) (Kit.Posix rule) h n = absurd h
offset_at-offset_in (Table table) (Kit.Tzif z) h n = rw h refl

same_or_not : (a b : List ℕ) → (a ≡ b) ⊎ (a ≢ b)
same_or_not a b = elim (bytes_eq a b) as (λ t. bytes_eq a b ≡ t → (a ≡ b) ⊎ (a ≢ b)) [
  | true ↦ λ e. inl ((bytes_eq-Decides a b).0 e)
  | false ↦ λ e. inr (λ same. let equal = (bytes_eq-Decides a b).1 same in absurd cc)
] refl

-- the zone that is found by the name UTC is UTC
only_utc : (Gives : Giving) (folder name : List ℕ) (zone : NamedZone) → name ≡ codes "UTC" → IsFoundIn Gives folder name (Ok zone) → zone ≡ Utc
only_utc Gives folder name zone e (None, asked, at) = absurd (asked.0 e)
only_utc Gives folder name zone e (Some At.Utc, asked, at) = cc
only_utc Gives folder name zone e (Some (At.Rule rule), asked, at) = absurd asked
only_utc Gives folder name zone e (Some (At.InFolder below), asked, at) = absurd (asked.1 e)
only_utc Gives folder name zone e (Some (At.AtPath path), asked, at) = absurd asked

-- a map with UTC alone has the zones of an empty list of names
pub utc_alone : (Gives : Giving) (folder : List ℕ) (old new : Zones) → ((name : List ℕ) → zone_named old name ≡ None)
    → IsInserted old new (codes "UTC") Utc → AreZonesOf Gives folder [] new
utc_alone Gives folder old new none put = record {
  utc = put.found;
  found = λ name zone has. elim (same_or_not name (codes "UTC")) [
    | inl e ↦ let same : zone ≡ Utc = let there = put.found in let here = ap (zone_named new) e in cc in
        ((0, omega arith, sym e), (Some At.Utc, e, ap Ok same))
    | inr differs ↦ let other = put.others name differs in let nothing = none name in absurd cc
  ];
  left_out = All-nil (λ name. zone_named new name ≡ None → IsOfNone Gives folder name);
}

-- after adding the zone of one more name
one_more : (Gives : Giving) (folder name : List ℕ) (names : List (List ℕ)) (old new : Zones) → AreZonesOf Gives folder names old
    → AddsFound Gives folder name old new → AreZonesOf Gives folder (names ++ name ∷ []) new
one_more Gives folder name names old new was (inl (zone, is, put)) = record {
  utc = elim (same_or_not (codes "UTC") name) [
    | inl e ↦ let same = only_utc Gives folder name zone (sym e) is in let there = put.found in let here = ap (zone_named new) e in cc
    | inr differs ↦ put.others (codes "UTC") differs ∙ was.utc
  ];
  found = λ other z has. elim (same_or_not other name) [
    | inl e ↦ let same : zone ≡ z = let there = put.found in let here = ap (zone_named new) e in cc in (
      subst (Contains (codes "UTC" ∷ names ++ name ∷ [])) (sym e) (Contains-push (codes "UTC" ∷ names) name),
      subst (λ n. IsFoundIn Gives folder n (Ok z)) (sym e) (subst (λ z. IsFoundIn Gives folder name (Ok z)) same is),
    )
    | inr differs ↦ let h = was.found other z (sym (put.others other differs) ∙ has) in
        (Contains-append_left (codes "UTC" ∷ names) (name ∷ []) other h.0, h.1)
  ];
  left_out = All-push (λ other. zone_named new other ≡ None → IsOfNone Gives folder other) names name
      (λ k d below nothing. elim (same_or_not (get_or names k d) name) [
        | inl e ↦ let there = put.found in let here = ap (zone_named new) e in absurd cc
        | inr differs ↦ was.left_out k d below (sym (put.others (get_or names k d) differs) ∙ nothing)
      ])
      (λ nothing. let there = put.found in absurd cc);
}
one_more Gives folder name names old new was (inr (none, same)) = record {
  utc = same (codes "UTC") ∙ was.utc;
  found = λ other z has. let h = was.found other z (sym (same other) ∙ has) in
      (Contains-append_left (codes "UTC" ∷ names) (name ∷ []) other h.0, h.1);
  left_out = All-push (λ other. zone_named new other ≡ None → IsOfNone Gives folder other) names name
      (λ k d below nothing. was.left_out k d below (sym (same (get_or names k d)) ∙ nothing))
      (λ nothing. none);
}

-- the zones of the names before the index, after adding the zone of the name there
pub more_zones : {X : Type 0} (f : X → List ℕ) (Gives : Giving) (folder : List ℕ) (xs : List X) (i : ℕ) (x : X) (old new : Zones)
    → AreZonesOf Gives folder (map f (take i xs)) old → i < length xs → AddsFound Gives folder (f (get_or xs i x)) old new
    → AreZonesOf Gives folder (map f (take (i + 1) xs)) new
more_zones f Gives folder xs i x old new was below adds =
    subst (λ (names : List (List ℕ)). AreZonesOf Gives folder names new) (sym (map_more f xs i x below))
    (one_more Gives folder (f (get_or xs i x)) (map f (take i xs)) old new was adds)

-- ---- Suffixes that agree with a moment, and that checking one has one result

pub compared-other : (own zone : ℤ) (same : Bool) → (IsTrue same ↔ (own ≡ zone)) → same ≡ false → Err OtherOffset ≡ compared own zone
compared-other own zone true h e = cc
compared-other own zone false h e = rw (false_from_ne_true (int_eq own zone) (λ t. let never : false ≡ true = h.1 ((Decides-int_eq own zone).0 t) in cc)) refl

-- a moment that has the offset of the kit's zone agrees with the zone that was found
pub goes_with_found : (found : Option NamedZone) (m : OffsetDateTime) (zone : TimeZone) (r : Checked) → IsZoneIfAny found (Some zone)
    → HasItsOffset m (Zone.offset_at zone) r → MatchOption found (r ≡ Err UnknownZone) (λ z. AgreesWithNamed true m z r)
goes_with_found None m zone r h k = absurd h
goes_with_found (Some z) m zone r h (inl k) = inl k
goes_with_found (Some z) m zone r h (inr k) =
    inr (k.0, k.1 ∙ ap (compared (offset_seconds (offset_of m))) (offset_at-offset_in z zone h (offset_instant greatest_year m)))

one_with_offset : (m : OffsetDateTime) (zone : ℤ → ℤ) (r q : Checked) → HasItsOffset m zone r → HasItsOffset m zone q → r ≡ q
one_with_offset m zone r q (inl h) (inl k) = h.1 ∙ sym k.1
one_with_offset m zone r q (inl h) (inr k) = absurd (h.0 k.0)
one_with_offset m zone r q (inr h) (inl k) = absurd (k.0 h.0)
one_with_offset m zone r q (inr h) (inr k) = h.1 ∙ sym k.1

one_named : (tells : Bool) (m : OffsetDateTime) (zone : NamedZone) (r q : Checked) → AgreesWithNamed tells m zone r → AgreesWithNamed tells m zone q → r ≡ q
one_named true m zone r q h k = one_with_offset m (offset_in zone) r q h k
one_named false m zone r q h k = h ∙ sym k

one_found : (tells : Bool) (m : OffsetDateTime) (found : Option NamedZone) (r q : Checked)
    → MatchOption found (r ≡ Err UnknownZone) (λ zone. AgreesWithNamed tells m zone r)
    → MatchOption found (q ≡ Err UnknownZone) (λ zone. AgreesWithNamed tells m zone q) → r ≡ q
one_found tells m None r q h k = h ∙ sym k
one_found tells m (Some zone) r q h k = one_named tells m zone r q h k

one_zone : (zones : Zones) (tells : Bool) (m : OffsetDateTime) (zone : Zone) (r q : Checked) → AgreesWithZone zones tells m zone r
    → AgreesWithZone zones tells m zone q → r ≡ q
one_zone zones tells m (named name) r q h k = one_found tells m (zone_named zones name) r q h k
one_zone zones true m (at_offset o) r q h k = h ∙ sym k
one_zone zones false m (at_offset o) r q h k = h ∙ sym k

pub one_check : OneCheck
one_check zones tells m z (Some key) r q h k = h ∙ sym k
one_check zones tells m None None r q h k = h ∙ sym k
one_check zones tells m (Some z) None r q h k = one_zone zones tells m z.zone r q h k
