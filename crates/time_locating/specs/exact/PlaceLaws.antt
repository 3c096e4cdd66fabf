-- A text has one place in a format by places.
use Rattle.time_values.specs.Calendar.{greatest_year}
use Rattle.std.specs.Option.{option_map, option_or}
use Rattle.std.proofs.Common.{◌≡◌, ℕ, ◌+◌, ◌⊎◌, List, [], ◌∷◌, ◌++◌, length, ap, sym, ◌∙◌, subst, inl, inr, true, false, Option, Some}
use Rattle.std.proofs.lemmas.Option.{none-some, same_Some}
use Rattle.time_values.specs.Refusal.{Refusal}
use Rattle.time_digits.specs.Digits.{Cut, NoCut}
use Rattle.time_components.specs.Tree.{Tree, Trees, literal, component, sequence, optional, first_of, none as tree_none, more}
use Rattle.time_readers.specs.Readers.{Format, MatchesPlaces, StopsAt}
use Rattle.time_readers.specs.Rfc2822.{PlaceSyntax, fault, places, nothing_read}
use Rattle.time_readers.specs.Rfc3339.{PlaceSyntax as Rfc3339Syntax, fault as rfc3339_fault, places as rfc3339_places, nothing_read as rfc3339_nothing_read}
use Rattle.time_readers.proofs.Repeats.{AtMostOneEach, one_form, PlaceSyntax-unique}
use Rattle.time_readers.proofs.OneMailDate.{MailAsks-unique}
use Rattle.time_record.specs.Record.{Record}
use Rattle.time_record.specs.Reading.{Reads as TreeReads}
use Rattle.time_record.proofs.Unique.{Reads-unique}
use Rattle.time_parsing.specs.Outcome.{Reading}
use Rattle.time_parsing.specs.Iso8601.{Reads}
use Rattle.time_parsing.specs.Rfc3339.{with_leap_second, Reads as Rfc3339Reads}
use Rattle.time_parsing.specs.Rfc2822.{Reads as Rfc2822Reads}
use Rattle.time_locating.specs.Marks.{Beginning, LocatesPlace, MarksPlaces, MarksText, is_place_of, Marks as TreeMarks, MarksAll, MarksFirst, MarksTree, at_once}
use Rattle.time_locating.specs.Located.{IsExactMark, IsExactPlace}
use Rattle.time_locating.specs.Misses.{Miss, Expectation, missed, the_end, furthest, place_after, LocatesTree, Misses, MissesAll, MissesFirst, LiteralReport}
use Rattle.time_locating.specs.IsoMarks.{Marks}
use Rattle.time_locating.specs.Iso8601.{Locates, misses, rest_of}
use Rattle.time_locating.specs.Misses as misses
use Rattle.time_locating.specs.Rfc2822.{Locates as Rfc2822Locates, Marks as Rfc2822Marks, expected_at, expected_from}
use Rattle.time_parsing.specs.Rfc3339Strict.{strict_text, Reads as StrictReads}
use Rattle.time_locating.specs.Rfc3339Strict.{cut_off, Locates as StrictLocates, Marks as StrictMarks}
use Rattle.time_locating.specs.Rfc3339.{Locates as Rfc3339Locates, Marks as Rfc3339Marks, expected_at as rfc3339_expected_at}

-- The places match up to the first that doesn't, and `mid` are the bytes that are left at its start.
abbrev StopsBefore : {P N : Type 0} → Format P N → List P → N → List ℕ → List ℕ → Type 0
StopsBefore A [] n bytes mid = ⊥
StopsBefore {P} {N} A (p ∷ ps) n bytes mid =
    (NoCut (A p n) bytes × (bytes ≡ mid))
    ⊎ ((next : List ℕ) × (k : N) × Cut (A p n) bytes next k × StopsBefore A ps k next mid)

stops_before : {P N : Type 0} (A : Format P N) (before after : List P) (n k : N) (bytes mid : List ℕ) (p : P)
    → MatchesPlaces A before n bytes mid k → NoCut (A p k) mid → StopsBefore A (before ++ p ∷ after) n bytes mid
unfolding MatchesPlaces
stops_before A [] after n k bytes mid p s none =
    inl (subst (λ b. NoCut (A p n) b) s.0 (subst (λ j. NoCut (A p j) mid) s.1 none), sym s.0)
stops_before A (q ∷ before) after n k bytes mid p s none =
    inr (s.0, s.1, s.2, stops_before A before after s.1 k s.0 mid p s.3 none)

StopsBefore-one : {P N : Type 0} (A : Format P N) → AtMostOneEach A → (ps : List P) (n : N) (bytes x y : List ℕ)
    → StopsBefore A ps n bytes x → StopsBefore A ps n bytes y → x ≡ y
StopsBefore-one A one [] n bytes x y s t = absurd s
StopsBefore-one A one (p ∷ ps) n bytes x y (inl s) (inl t) = sym s.1 ∙ t.1
StopsBefore-one A one (p ∷ ps) n bytes x y (inl s) (inr t) = absurd (s.0 t.2.0 t.0 t.1 t.2.1 t.2.2)
StopsBefore-one A one (p ∷ ps) n bytes x y (inr s) (inl t) = absurd (t.0 s.2.0 s.0 s.1 s.2.1 s.2.2)
StopsBefore-one A one (p ∷ ps) n bytes x y (inr s) (inr t) =
    let first = one p n bytes s.0 t.0 s.1 t.1 s.2 t.2 in
    let there = subst (λ k. StopsBefore A ps k t.0 x) first.1 (subst (λ b. StopsBefore A ps s.1 b x) first.0 s.3) in
    StopsBefore-one A one ps t.1 t.0 x y there t.3

module _ {P N : Type 0} (A : Format P N) (one : AtMostOneEach A) (ps : List P) (start : N)
    (expected_from : Beginning P) where
  StopsAt-before : (b : List ℕ) (p : P) (s : StopsAt A ps start b p) → StopsBefore A ps start b s.mid
  StopsAt-before b p s =
      subst (λ qs. StopsBefore A qs start b s.mid) (sym s.place)
      (stops_before A s.before s.after start s.numbers b s.mid p s.stand s.stops)

  LocatesPlace-one : (expected_at : P → Expectation) (b : List ℕ) (m n : Miss)
      → LocatesPlace A ps start expected_from expected_at b m
      → LocatesPlace A ps start expected_from expected_at b n → m ≡ n
  LocatesPlace-one expected_at b m n (inl (p, s, is)) (inl (q, t, be)) =
      let mids = StopsBefore-one A one ps start b s.mid t.mid (StopsAt-before b p s) (StopsAt-before b q t) in
      let same = (one_form A one ps start b).one_place p q s t in
      is ∙ ap (λ x. missed (length (expected_from p x)) (expected_at p)) mids
      ∙ ap (λ x. missed (length (expected_from x t.mid)) (expected_at x)) same ∙ sym be
  LocatesPlace-one expected_at b m n (inl (p, s, is)) (inr t) =
      absurd ((one_form A one ps start b).never_both t.0 t.1 p t.2 s)
  LocatesPlace-one expected_at b m n (inr s) (inl (q, t, be)) =
      absurd ((one_form A one ps start b).never_both s.0 s.1 q s.2 t)
  LocatesPlace-one expected_at b m n (inr (x, k, s, some, is)) (inr (y, j, t, more_some, be)) =
      let rests = ((one_form A one ps start b).one_reading x y k j s t).0 in
      is ∙ ap (λ z. missed (length z) the_end) rests ∙ sym be

  LocatesPlace-unread : (expected_at : P → Expectation) (b : List ℕ) (m : Miss) (n : N)
      → LocatesPlace A ps start expected_from expected_at b m → MatchesPlaces A ps start b [] n → ⊥
  LocatesPlace-unread expected_at b m n (inl (p, s, is)) k = (one_form A one ps start b).never_both [] n p k s
  LocatesPlace-unread expected_at b m n (inr s) k =
      s.3 ((one_form A one ps start b).one_reading s.0 [] s.1 n s.2 k).0

  -- a format that reads only texts of the places has at most one place for each text, and none if it reads it whole
  pub place_exact : (expected_at : P → Expectation) (reads : Reading)
      → ((b : List ℕ) (r q : Record) → reads b r [] q → (n : N) × MatchesPlaces A ps start b [] n)
      → IsExactPlace reads (λ b r m. LocatesPlace A ps start expected_from expected_at b m)
  place_exact expected_at reads form = record {
    one_place = λ b r m n h k. LocatesPlace-one expected_at b m n h k;
    not_read = λ b r q m h k. let f = form b r q k in LocatesPlace-unread expected_at b m f.0 h f.1;
  }

-- a format by places has at most one mark for each component's name
module _ {P N : Type 0} (A : Format P N) (one : AtMostOneEach A) (expected_from : Beginning P) (fault : P → Refusal)
    (name : List ℕ) where
  MarksPlaces-one : (ps : List P) (n : N) (b : List ℕ) (x y : Option ℕ)
      → MarksPlaces A expected_from fault name ps n b x
      → MarksPlaces A expected_from fault name ps n b y → x ≡ y
  unfolding MarksPlaces
  MarksPlaces-one [] n b x y h k = h ∙ sym k
  MarksPlaces-one (p ∷ ps) n b x y (mid, m, s, inl h) (end, j, t, inl k) = h.1 ∙ sym k.1
  MarksPlaces-one (p ∷ ps) n b x y (mid, m, s, inl h) (end, j, t, inr k) =
      let rests = (one p n b mid end m j s t).0 in
      let clash : true ≡ false = sym h.0 ∙ ap (λ z. is_place_of name (fault p) b z) rests ∙ k.0 in cc
  MarksPlaces-one (p ∷ ps) n b x y (mid, m, s, inr h) (end, j, t, inl k) =
      let rests = (one p n b mid end m j s t).0 in
      let clash : false ≡ true = sym h.0 ∙ ap (λ z. is_place_of name (fault p) b z) rests ∙ k.0 in cc
  MarksPlaces-one (p ∷ ps) n b x y (mid, m, s, inr h) (end, j, t, inr k) =
      let first = one p n b mid end m j s t in
      let over_m = subst (λ z. MarksPlaces A expected_from fault name ps m z x) first.0 h.1 in
      MarksPlaces-one ps j end x y (subst (λ o. MarksPlaces A expected_from fault name ps o end x) first.1 over_m) k.1

module _ {P N : Type 0} (A : Format P N) (one : AtMostOneEach A) (expected_from : Beginning P) (fault : P → Refusal)
    (ps : List P) (start : N) where
  MarksText-one : (name b : List ℕ) (x y : Option ℕ) → MarksText A expected_from fault ps start name b x
      → MarksText A expected_from fault ps start name b y → x ≡ y
  MarksText-one name b x y (inl h) (inl k) = h.1 ∙ sym k.1
  MarksText-one name b x y (inl h) (inr k) =
      absurd ((one_form A one ps start b).never_both k.0.0 k.0.1 h.0.0 k.0.2 h.0.1)
  MarksText-one name b x y (inr h) (inl k) =
      absurd ((one_form A one ps start b).never_both h.0.0 h.0.1 k.0.0 h.0.2 k.0.1)
  MarksText-one name b x y (inr h) (inr k) = MarksPlaces-one A one expected_from fault name ps start b x y h.1 k.1

  -- a text over a record has at most one mark for each component's name
  pub place_exact_mark : IsExactMark (λ name b r mark. MarksText A expected_from fault ps start name b mark)
  place_exact_mark name b r x y h k = MarksText-one name b x y h k

-- ---- A text has one place in ISO 8601, since the place is a function.

-- the place of a text over a record; `read` is the rest and the new record, or none if no prefix is read
abbrev place_of : List ℕ → Record → Option (List ℕ × Record) → Option Miss
place_of b r read = place_after (rest_of read) (furthest (misses b (with_leap_second r)))

-- a text that ISO 8601 doesn't read whole over a record has at most one place, and one that it reads has none
pub iso8601_exact_place : IsExactPlace (Reads greatest_year) Locates
iso8601_exact_place = record {
  one_place = λ b r m n h k. same_Some m n (sym h ∙ k);
  not_read = λ b r q m h k. none-some m (sym (ap (place_of b r) k) ∙ h);
}

-- by ISO 8601, a component's name has at most one mark in a text over a record: the bytes left at its start, or none
pub iso8601_exact_mark : IsExactMark Marks
iso8601_exact_mark name b r x y h k = h ∙ sym k

-- ---- A text has at most one mark for each component's name by a tree.

mutual
  unfolding TreeMarks MarksAll MarksFirst

  Marks-one : (name : List ℕ) (t : Tree) (b : List ℕ) (r : Record) (x y : Option ℕ)
      → TreeMarks name t b r x → TreeMarks name t b r y → x ≡ y
  Marks-one name (literal t) b r x y h k = h ∙ sym k
  Marks-one name (component w c) b r x y h k = h ∙ sym k
  Marks-one name (sequence ts) b r x y h k = MarksAll-one name ts b r x y h k
  Marks-one name (optional t) b r x y (inl h) (inl k) = Marks-one name t b r x y h.3 k.3
  Marks-one name (optional t) b r x y (inl h) (inr k) = absurd (k.0 h.0 h.1 h.2)
  Marks-one name (optional t) b r x y (inr h) (inl k) = absurd (h.0 k.0 k.1 k.2)
  Marks-one name (optional t) b r x y (inr h) (inr k) = h.1 ∙ sym k.1
  Marks-one name (first_of ts) b r x y h k = MarksFirst-one name ts b r x y h k

  MarksAll-one : (name : List ℕ) (ts : Trees) (b : List ℕ) (r : Record) (x y : Option ℕ)
      → MarksAll name ts b r x → MarksAll name ts b r y → x ≡ y
  MarksAll-one name tree_none b r x y h k = h ∙ sym k
  MarksAll-one name (more t ts) b r x y (i, h, mid, q, s, l, hs, is) (j, k, end, p, u, m, ks, be) =
      let one = Reads-unique greatest_year t b r mid q end p s u in
      let over_q = subst (λ z. MarksAll name ts end z m) (sym one.1) ks in
      let there = subst (λ z. MarksAll name ts z q m) (sym one.0) over_q in
      let same = Marks-one name t b r i j h k in
      let later = MarksAll-one name ts mid q l m hs there in
      is ∙ ap (λ z. option_or z i) later ∙ ap (λ z. option_or m z) same ∙ sym be

  MarksFirst-one : (name : List ℕ) (ts : Trees) (b : List ℕ) (r : Record) (x y : Option ℕ)
      → MarksFirst name ts b r x → MarksFirst name ts b r y → x ≡ y
  MarksFirst-one name tree_none b r x y h k = h ∙ sym k
  MarksFirst-one name (more t ts) b r x y (inl h) (inl k) = Marks-one name t b r x y h.3 k.3
  MarksFirst-one name (more t ts) b r x y (inl h) (inr k) = absurd (k.0 h.0 h.1 h.2)
  MarksFirst-one name (more t ts) b r x y (inr h) (inl k) = absurd (h.0 k.0 k.1 k.2)
  MarksFirst-one name (more t ts) b r x y (inr h) (inr k) = MarksFirst-one name ts b r x y h.1 k.1

-- by a tree, a component's name has at most one mark in a text over a record: the bytes left at its start, or none
pub tree_exact_mark : (t : Tree) → IsExactMark (MarksTree t)
tree_exact_mark t name b r x y h k = Marks-one name (optional t) b r x y h k

-- ---- A tree has one list of misses, and a text one place.

MissesLeaf-one : (t : Tree) (w : Expectation) (b : List ℕ) (r : Record) (ms ns : List Miss)
    → misses.MissesLeaf t w b r ms → misses.MissesLeaf t w b r ns → ms ≡ ns
MissesLeaf-one t w b r ms ns (inl h) (inl k) = h.1 ∙ sym k.1
MissesLeaf-one t w b r ms ns (inl h) (inr k) = absurd (k.0 h.0.0 h.0.1 h.0.2)
MissesLeaf-one t w b r ms ns (inr h) (inl k) = absurd (h.0 k.0.0 k.0.1 k.0.2)
MissesLeaf-one t w b r ms ns (inr h) (inr k) = h.1 ∙ sym k.1

mutual
  unfolding Misses MissesAll MissesFirst

  -- a tree has at most one list of misses
  pub Misses-one : (told : LiteralReport) (t : Tree) (b : List ℕ) (r : Record) (ms ns : List Miss)
      → Misses told t b r ms → Misses told t b r ns → ms ≡ ns
  Misses-one told (literal x) b r ms ns h k = h ∙ sym k
  Misses-one told (component w c) b r ms ns h k = MissesLeaf-one (component w c) _ b r ms ns h k
  Misses-one told (sequence ts) b r ms ns h k = MissesAll-one told ts b r ms ns h k
  Misses-one told (optional t) b r ms ns h k = Misses-one told t b r ms ns h k
  Misses-one told (first_of ts) b r ms ns h k = MissesFirst-one told ts b r ms ns h k

  MissesAll-one : (told : LiteralReport) (ts : Trees) (b : List ℕ) (r : Record) (ms ns : List Miss)
      → MissesAll told ts b r ms → MissesAll told ts b r ns → ms ≡ ns
  MissesAll-one told tree_none b r ms ns h k = h ∙ sym k
  MissesAll-one told (more t ts) b r ms ns (i, h, inl hs) (j, k, inl ks) =
      hs.1 ∙ Misses-one told t b r i j h k ∙ sym ks.1
  MissesAll-one told (more t ts) b r ms ns (i, h, inl hs) (j, k, inr ks) = absurd (hs.0 ks.0 ks.1 ks.2)
  MissesAll-one told (more t ts) b r ms ns (i, h, inr hs) (j, k, inl ks) = absurd (ks.0 hs.0 hs.1 hs.2)
  MissesAll-one told (more t ts) b r ms ns (i, h, inr (x, q, s, a, hs, is)) (j, k, inr (y, p, u, c, ks, be)) =
      let one = Reads-unique greatest_year t b r x q y p s u in
      let over_q = subst (λ z. MissesAll told ts y z c) (sym one.1) ks in
      let there = subst (λ z. MissesAll told ts z q c) (sym one.0) over_q in
      let same = Misses-one told t b r i j h k in
      let later = MissesAll-one told ts x q a c hs there in
      is ∙ ap (λ z. z ++ i) later ∙ ap (λ z. c ++ z) same ∙ sym be

  MissesFirst-one : (told : LiteralReport) (ts : Trees) (b : List ℕ) (r : Record) (ms ns : List Miss)
      → MissesFirst told ts b r ms → MissesFirst told ts b r ns → ms ≡ ns
  MissesFirst-one told tree_none b r ms ns h k = h ∙ sym k
  MissesFirst-one told (more t ts) b r ms ns (i, h, inl (x, q, s, is)) (j, k, inl (y, p, u, be)) =
      is ∙ Misses-one told t b r i j h k ∙ sym be
  MissesFirst-one told (more t ts) b r ms ns (i, h, inl (x, q, s, is)) (j, k, inr ks) = absurd (ks.0 x q s)
  MissesFirst-one told (more t ts) b r ms ns (i, h, inr hs) (j, k, inl (y, p, u, be)) = absurd (hs.0 y p u)
  MissesFirst-one told (more t ts) b r ms ns (i, h, inr (s, a, hs, is)) (j, k, inr (u, c, ks, be)) =
      let same = Misses-one told t b r i j h k in
      let later = MissesFirst-one told ts b r a c hs ks in
      is ∙ ap (λ z. z ++ a) same ∙ ap (λ z. j ++ z) later ∙ sym be

module _ (told : LiteralReport) (t : Tree) (b : List ℕ) (r : Record) where
  MissesText-one : (ms ns : List Miss) → misses.MissesText told t b r ms → misses.MissesText told t b r ns → ms ≡ ns
  MissesText-one ms ns (inl h) (inl k) = Misses-one told t b r ms ns h.1 k.1
  MissesText-one ms ns (inl h) (inr k) = absurd (h.0 k.0 k.1 k.2)
  MissesText-one ms ns (inr h) (inl k) = absurd (k.0 h.0 h.1 h.2)
  MissesText-one ms ns (inr (x, q, s, some, a, h, is)) (inr (y, p, u, more_some, c, k, be)) =
      let rests = (Reads-unique greatest_year t b r x q y p s u).0 in
      let same = Misses-one told t b r a c h k in
      is ∙ ap (λ z. misses.missed (length z) the_end ∷ a) rests
      ∙ ap (λ z. misses.missed (length y) the_end ∷ z) same ∙ sym be

  MissesText-unread : (q : Record) (ms : List Miss) → misses.MissesText told t b r ms
      → TreeReads greatest_year t b r [] q → ⊥
  MissesText-unread q ms (inl h) k = h.0 [] q k
  MissesText-unread q ms (inr (x, p, s, some, a, h, is)) k = some (Reads-unique greatest_year t b r x p [] q s k).0

  LocatesTree-one : (m n : Miss) → LocatesTree told t b r m → LocatesTree told t b r n → m ≡ n
  LocatesTree-one m n (ms, h, is) (ns, k, be) =
      let same : Some m ≡ Some n = is ∙ ap furthest (MissesText-one ms ns h k) ∙ sym be in cc

-- a text that a tree doesn't read whole over a record has at most one place, and one that it reads has none
pub tree_exact_place : (told : LiteralReport) (t : Tree) → IsExactPlace (TreeReads greatest_year t) (LocatesTree told t)
tree_exact_place told t = record {
  one_place = λ b r m n h k. LocatesTree-one told t b r m n h k;
  not_read = λ b r q m h k. MissesText-unread told t b r q h.0 h.1 k;
}

-- ---- A text has one place in RFC 2822.

-- a text that RFC 2822 doesn't read whole has at most one place, and one that it reads has none
pub rfc2822_exact_place : IsExactPlace (Rfc2822Reads greatest_year) Rfc2822Locates
rfc2822_exact_place =
    place_exact (PlaceSyntax true) (MailAsks-unique true) places nothing_read expected_from expected_at
    (Rfc2822Reads greatest_year)
    (λ b r q h. (h.0, h.1))

-- by RFC 2822, a component's name has at most one mark in a text: the bytes left at its start, or none
pub rfc2822_exact_mark : IsExactMark Rfc2822Marks
rfc2822_exact_mark = place_exact_mark (PlaceSyntax true) (MailAsks-unique true) expected_from fault places nothing_read

-- ---- A text has one place in RFC 3339.

-- a text that RFC 3339 doesn't read whole has at most one place, and one that it reads has none
pub rfc3339_exact_place : IsExactPlace (Rfc3339Reads greatest_year) Rfc3339Locates
rfc3339_exact_place =
    place_exact (Rfc3339Syntax true) (PlaceSyntax-unique true) rfc3339_places rfc3339_nothing_read at_once
    rfc3339_expected_at (Rfc3339Reads greatest_year) (λ b r q h. (h.0, h.2))

-- by RFC 3339, a component's name has at most one mark in a text: the bytes left at its start, or none
pub rfc3339_exact_mark : IsExactMark Rfc3339Marks
rfc3339_exact_mark =
    place_exact_mark (Rfc3339Syntax true) (PlaceSyntax-unique true) at_once rfc3339_fault rfc3339_places
    rfc3339_nothing_read

-- a text that the strict RFC 3339 doesn't read whole has at most one place, and one that it reads has none
pub strict_exact_place : IsExactPlace (StrictReads greatest_year) StrictLocates
strict_exact_place = record {
  one_place = λ b r m n p q.
      p.2
      ∙ ap (λ x. missed (x.left + cut_off b) x.wanted)
      ((rfc3339_exact_place).one_place (strict_text b) r p.0 q.0 p.1 q.1)
      ∙ sym q.2;
  not_read = λ b r q m p read. (rfc3339_exact_place).not_read (strict_text b) r q p.0 p.1 read;
}

-- by the strict RFC 3339, a component's name has at most one mark in a text: the bytes left at its start, or none
pub strict_exact_mark : IsExactMark StrictMarks
strict_exact_mark name b r mark other p q =
    p.2 ∙ ap (option_map (λ n. n + cut_off b)) (rfc3339_exact_mark name (strict_text b) r p.0 q.0 p.1 q.1) ∙ sym q.2
