-- How the mark of trees follows from those of the trees before them.
use Rattle.time_values.specs.Calendar.{greatest_year}
use Rattle.std.specs.Option.{option_or}
use Rattle.std.proofs.Common.{◌≡◌, ◌≢◌, ◌==◌, ℕ, ◌-◌, ◌≤◌, List, [], ◌∷◌, ◌++◌, Option, Some, None, true, false, length, refl, ap, sym, ◌∙◌, subst, inl, inr, arith, length-append, Bool}
use Rattle.std.proofs.lemmas.Bool.Decides.{nat_tests}
use Rattle.time_components.specs.Tree.{Tree, Trees, literal, component, sequence, optional, first_of, none, more}
use Rattle.time_components.specs.declared.format_description.Component.{Component}
use Rattle.time_readers.specs.IsoTimes.{when}
use Rattle.time_record.specs.Reading.{NoReading, NoReadingAll, Reads, ReadsAll, ReadsSome}
use Rattle.time_record.specs.Record.{Record}
use Rattle.time_parsing.proofs.TreeLemmas.{leaves_suffix}
use Rattle.time_locating.specs.Located.{IsLocated, place_in, erased_located, wants}
use Rattle.time_locating.specs.Misses.{IsFurthest, LocatesTree, Miss, Misses, MissesAll, MissesFirst, MissesText, LiteralReport, further, furthest, missed, the_end}
use Rattle.time_locating.specs.declared.located.Located.{Located}
use Rattle.time_locating.specs.Marks.{Marks, MarksAll, MarksFirst, MarksTree, is_named}
use Rattle.time_locating.proofs.TurnSteps.{LeavesUpTo, further-leaves, furthest-append, literal_cases}

-- ---- The place of a text follows from what a tree reads and misses in it.

front_empty : (xs ys : List Miss) → xs ++ ys ≡ [] → xs ≡ []
front_empty [] ys is = refl
front_empty (x ∷ xs) ys is = let clash : x ∷ (xs ++ ys) ≡ [] = is in cc

grows : (n k : ℕ) (m : Option Miss) → n ≤ k → LeavesUpTo n m → LeavesUpTo k m
grows n k None h l = tt
grows n k (Some m) h l = omega arith

-- the rest is no longer than the bytes
pub rest_within : (t : Tree) (b : List ℕ) (r : Record) (rest : List ℕ) (q : Record) → Reads greatest_year t b r rest q → length rest ≤ length b
rest_within t b r rest q h =
    let suffix = leaves_suffix greatest_year t b r rest q h in
    let sum = ap length suffix.1 ∙ length-append suffix.0 rest in omega arith

module _ (told : LiteralReport) where
  mutual
    unfolding Misses MissesAll MissesFirst Reads ReadsAll ReadsSome

    -- a tree that doesn't match misses something
    Misses-some : (t : Tree) (b : List ℕ) (r : Record) (ms : List Miss) → NoReading greatest_year t b r → Misses told t b r ms → ms ≡ [] → ⊥
    Misses-some (literal x) b r ms unread h is =
        elim (literal_cases told x b) [
          | inl there ↦ unread there.0.0 r (there.0.1, refl)
          | inr m ↦ let clash = sym m.is ∙ sym h ∙ is in cc
        ]
    Misses-some (component w c) b r ms unread (inl h) is = unread h.0.0 h.0.1 h.0.2
    Misses-some (component w c) b r ms unread (inr h) is = let clash = sym h.1 ∙ is in cc
    Misses-some (sequence ts) b r ms unread h is = MissesAll-some ts b r ms unread h is
    Misses-some (optional t) b r ms unread h is = unread b r (inr ((λ x q k. unread x q (inl k)), refl, refl))
    Misses-some (first_of none) b r ms unread h is = unread b r (refl, refl)
    Misses-some (first_of (more t ts)) b r ms unread (i, h, inl (x, q, s, e)) is = unread x q (inl s)
    Misses-some (first_of (more t ts)) b r ms unread (i, h, inr (s, later, ks, e)) is =
        Misses-some t b r i s h (front_empty i later (sym e ∙ is))

    MissesAll-some : (ts : Trees) (b : List ℕ) (r : Record) (ms : List Miss) → NoReadingAll greatest_year ts b r → MissesAll told ts b r ms →
        ms ≡ [] → ⊥
    MissesAll-some none b r ms unread h is = unread b r (refl, refl)
    MissesAll-some (more t ts) b r ms unread (i, h, inl hs) is = Misses-some t b r i hs.0 h (sym hs.1 ∙ is)
    MissesAll-some (more t ts) b r ms unread (i, h, inr (mid, q, s, later, ks, e)) is =
        MissesAll-some ts mid q later (λ rest p k. unread rest p (mid, q, s, k)) ks (front_empty later i (sym e ∙ is))

  mutual
    unfolding Misses MissesAll MissesFirst

    -- no miss leaves more bytes than there are
    Misses-within : (t : Tree) (b : List ℕ) (r : Record) (ms : List Miss) → Misses told t b r ms → LeavesUpTo (length b) (furthest ms)
    Misses-within (literal x) b r ms h =
        elim (literal_cases told x b) [ inl there ↦ rw (h, there.1) tt | inr m ↦ rw (h, m.is) m.within ]
    Misses-within (component w c) b r ms (inl h) = rw h.1 tt
    Misses-within (component w c) b r ms (inr h) = rw h.1 (omega arith)
    Misses-within (sequence ts) b r ms h = MissesAll-within ts b r ms h
    Misses-within (optional t) b r ms h = Misses-within t b r ms h
    Misses-within (first_of ts) b r ms h = MissesFirst-within ts b r ms h

    MissesAll-within : (ts : Trees) (b : List ℕ) (r : Record) (ms : List Miss) → MissesAll told ts b r ms →
        LeavesUpTo (length b) (furthest ms)
    MissesAll-within none b r ms h = rw h tt
    MissesAll-within (more t ts) b r ms (i, h, inl hs) = rw hs.1 (Misses-within t b r i h)
    MissesAll-within (more t ts) b r ms (i, h, inr (mid, q, s, later, ks, e)) =
        let ahead = grows (length mid) (length b) (furthest later) (rest_within t b r mid q s) (MissesAll-within ts mid q later ks) in
        rw (e, furthest-append later i) (further-leaves (length b) (furthest later) (furthest i) ahead (Misses-within t b r i h))

    MissesFirst-within : (ts : Trees) (b : List ℕ) (r : Record) (ms : List Miss) → MissesFirst told ts b r ms →
        LeavesUpTo (length b) (furthest ms)
    MissesFirst-within none b r ms h = rw h tt
    MissesFirst-within (more t ts) b r ms (i, h, inl (x, q, s, e)) = rw e (Misses-within t b r i h)
    MissesFirst-within (more t ts) b r ms (i, h, inr (s, later, ks, e)) =
        rw (e, furthest-append i later)
        (further-leaves (length b) (furthest i) (furthest later) (Misses-within t b r i h) (MissesFirst-within ts b r later ks))

  module _ (t : Tree) (b : List ℕ) (r : Record) where
    MissesText-some : (ms : List Miss) → MissesText told t b r ms → ms ≡ [] → ⊥
    MissesText-some ms (inl h) is = Misses-some t b r ms h.0 h.1 is
    MissesText-some ms (inr (x, q, s, some, i, h, e)) is = let clash = sym e ∙ is in cc

    MissesText-within : (ms : List Miss) → MissesText told t b r ms → LeavesUpTo (length b) (furthest ms)
    MissesText-within ms (inl h) = Misses-within t b r ms h.1
    MissesText-within ms (inr (x, q, s, some, i, h, e)) =
        rw e (further-leaves (length b) (Some (missed (length x) the_end)) (furthest i) (rest_within t b r x q s) (Misses-within t b r i h))

some_further : (m : Miss) (n : Option Miss) → further (Some m) n ≡ None → ⊥
some_further m None is = cc
some_further m (Some n) is = cc

pub no_furthest : (ms : List Miss) → furthest ms ≡ None → ms ≡ []
no_furthest [] is = refl
no_furthest (m ∷ ms) is = absurd (some_further m (furthest ms) is)

module _ (told : LiteralReport) (t : Tree) (b : List ℕ) (r : Record) where
  -- the furthest miss of a text is its place
  pub located : (found : Option Miss) (result : Option Located) → IsFurthest (MissesText told t b r) found →
      erased_located result ≡ place_in (length b) found → IsLocated (Reads greatest_year t) (LocatesTree told t) b r result
  located None result (ms, h, is) e = absurd (MissesText-some told t b r ms h (no_furthest ms (sym is)))
  located (Some m) None (ms, h, is) e = let clash : None ≡ Some (missed (length b - m.left) m.wanted) = e in cc
  located (Some m) (Some at) (ms, h, is) e =
      let same : missed at.index (wants at.expected) ≡ missed (length b - m.left) m.wanted = cc in
      let index = ap (λ (x : Miss). x.left) same in
      let within : LeavesUpTo (length b) (Some m) = subst (LeavesUpTo (length b)) (sym is) (MissesText-within told t b r ms h) in
      (m, (ms, h, is), omega arith, ap (λ (x : Miss). x.wanted) same)

  -- the tree doesn't match
  pub unread_text : (found : Option Miss) → NoReading greatest_year t b r → IsFurthest (Misses told t b r) found →
      IsFurthest (MissesText told t b r) found
  unread_text found h (ms, k, is) = (ms, inl (h, k), is)

  -- the tree leaves bytes
  pub longer_text : (rest : List ℕ) (q : Record) (found : Option Miss) → Reads greatest_year t b r rest q → rest ≢ [] →
      IsFurthest (Misses told t b r) found →
      IsFurthest (MissesText told t b r) (further (Some (missed (length rest) the_end)) found)
  longer_text rest q found h some (ms, k, is) = (
    missed (length rest) the_end ∷ ms,
    inr (rest, q, h, some, ms, k, refl),
    ap (λ n. further (Some (missed (length rest) the_end)) n) is,
  )

pub some_bytes : (bytes : List ℕ) → 1 ≤ length bytes → bytes ≢ []
some_bytes [] some is = absurd (omega arith)
some_bytes (b ∷ bytes) some is = let clash : b ∷ bytes ≡ [] = is in cc

pub empty_length : (n : ℕ) → (n == 0) ≡ true → n ≡ 0
empty_length n is = grind (arith, nat_tests)

pub some_length : (n : ℕ) → (n == 0) ≡ false → 1 ≤ n
some_length n is = grind (arith, nat_tests)

-- nothing is left
pub nothing_left : (t : Tree) (b : List ℕ) (r : Record) (rest : List ℕ) (q : Record) → (length rest == 0) ≡ true →
    Reads greatest_year t b r rest q → (p : Record) × Reads greatest_year t b r [] p
nothing_left t b r [] q is h = (q, h)
nothing_left t b r (c ∷ rest) q is h = let none = empty_length (length (c ∷ rest)) is in absurd (omega arith)

option_or-none : (x : Option ℕ) → option_or x None ≡ x
option_or-none None = refl
option_or-none (Some n) = refl

option_or-assoc : (x y z : Option ℕ) → option_or (option_or x y) z ≡ option_or x (option_or y z)
option_or-assoc None y z = refl
option_or-assoc (Some n) y z = refl

module _ (name : List ℕ) (t : Tree) (b : List ℕ) (r : Record) where
  pub marks_read : (mark : Option ℕ) (rest : List ℕ) (q : Record) → Reads greatest_year t b r rest q → Marks name t b r mark
      → MarksTree t name b r mark
  unfolding Marks
  marks_read mark rest q h k = inl (rest, q, h, k)

  pub marks_unread : NoReading greatest_year t b r → MarksTree t name b r None
  unfolding Marks
  marks_unread h = inr (h, refl)

  -- the mark of a tree that is read
  marks_of : (mark : Option ℕ) (rest : List ℕ) (q : Record) → Reads greatest_year t b r rest q → MarksTree t name b r mark
      → Marks name t b r mark
  unfolding Marks
  marks_of mark rest q h (inl k) = k.3
  marks_of mark rest q h (inr k) = absurd (k.0 rest q h)

module _ (name b : List ℕ) (r : Record) where
  pub literal_marks : (text rest : List ℕ) (q : Record) → Reads greatest_year (literal text) b r rest q
      → MarksTree (literal text) name b r None
  unfolding Marks
  literal_marks text rest q h = inl (rest, q, h, refl)

  pub component_marks : (w : Bool) (c : Component) (mark : Option ℕ) (rest : List ℕ) (q : Record)
      → Reads greatest_year (component w c) b r rest q → mark ≡ when (is_named name c) (length b)
      → MarksTree (component w c) name b r mark
  unfolding Marks
  component_marks w c mark rest q h is = inl (rest, q, h, is)

-- The mark of the trees that are left is that of all of them: it keeps the mark of the trees before, if the others have
-- no mark.
pub record CarriesAll (name : List ℕ) (all : Trees) (b0 : List ℕ) (r0 : Record) (left : Trees) (b : List ℕ) (r : Record)
    (kept : Option ℕ) : Type 0 where
  pub marks : (mark : Option ℕ) → MarksAll name left b r mark → MarksAll name all b0 r0 (option_or mark kept)

pub CarriesAll-start : (name : List ℕ) (all : Trees) (b : List ℕ) (r : Record) → CarriesAll name all b r all b r None
CarriesAll-start name all b r = record { marks = λ mark h. subst (MarksAll name all b r) (sym (option_or-none mark)) h }

module _ {name : List ℕ} {all : Trees} {b0 : List ℕ} {r0 : Record} {left : Trees} {b : List ℕ} {r : Record} {kept : Option ℕ}
    (f : CarriesAll name all b0 r0 left b r kept) where
  in_turn : (t : Tree) (ts : Trees) (mid : List ℕ) (q : Record) (here later : Option ℕ) → Reads greatest_year t b r mid q → Marks name t b r here
      → MarksAll name ts mid q later → MarksAll name (more t ts) b r (option_or later here)
  unfolding MarksAll
  in_turn t ts mid q here later h k x = (here, k, mid, q, h, later, x, refl)

  -- the next tree is read
  pub CarriesAll-reads : (t : Tree) (ts : Trees) → left ≡ more t ts → (mid : List ℕ) (q : Record) (here : Option ℕ) → Reads greatest_year t b r mid q
      → MarksTree t name b r here → CarriesAll name all b0 r0 ts mid q (option_or here kept)
  CarriesAll-reads t ts is mid q here h k = record {
    marks = λ mark x.
        let turn = in_turn t ts mid q here mark h (marks_of name t b r here mid q h k) x in
        subst (MarksAll name all b0 r0) (option_or-assoc mark here kept)
        (f.marks (option_or mark here) (subst (λ us. MarksAll name us b r (option_or mark here)) (sym is) turn));
  }

  -- no tree is left
  pub CarriesAll-end : left ≡ none → Reads greatest_year (sequence all) b0 r0 b r → MarksTree (sequence all) name b0 r0 kept
  unfolding Marks MarksAll
  CarriesAll-end is h = inl (b, r, h, f.marks None (subst (λ ts. MarksAll name ts b r None) (sym is) refl))

-- The mark of the alternatives that are left is that of all of them.
pub record CarriesFirst (name : List ℕ) (all left : Trees) (b : List ℕ) (r : Record) : Type 0 where
  pub marks : (mark : Option ℕ) → MarksFirst name left b r mark → MarksFirst name all b r mark

pub CarriesFirst-start : (name : List ℕ) (all : Trees) (b : List ℕ) (r : Record) → CarriesFirst name all all b r
CarriesFirst-start name all b r = record { marks = λ mark h. h }

module _ {name : List ℕ} {all left : Trees} {b : List ℕ} {r : Record} (f : CarriesFirst name all left b r)
    (t : Tree) (ts : Trees) (is : left ≡ more t ts) {now : Record} (same : now ≡ r) where
  -- the next one doesn't match
  pub CarriesFirst-unread : NoReading greatest_year t b now → CarriesFirst name all ts b r
  unfolding MarksFirst
  CarriesFirst-unread h = record {
    marks = λ mark x.
        f.marks mark (subst (λ us. MarksFirst name us b r mark) (sym is) (inr (subst (λ p. NoReading greatest_year t b p) same h, x)));
  }

  -- the next one matches
  pub CarriesFirst-reads : (rest : List ℕ) (q : Record) (mark : Option ℕ) → Reads greatest_year t b now rest q → MarksTree t name b now mark
      → Reads greatest_year (first_of all) b r rest q → MarksTree (first_of all) name b r mark
  unfolding Marks MarksFirst
  CarriesFirst-reads rest q mark h k whole =
      let read = subst (λ p. Reads greatest_year t b p rest q) same h in
      let here = subst (λ p. Marks name t b p mark) same (marks_of name t b now mark rest q h k) in
      inl (rest, q, whole, f.marks mark (subst (λ us. MarksFirst name us b r mark) (sym is) (inl (rest, q, read, here))))

-- there was no alternative
pub no_marks : (name : List ℕ) (all : Trees) (b : List ℕ) (r now : Record) → all ≡ none → Reads greatest_year (first_of all) b r b now
    → MarksTree (first_of all) name b r None
unfolding Marks MarksFirst
no_marks name all b r now is h = inl (b, now, h, subst (λ us. MarksFirst name us b r None) (sym is) refl)

-- if there is a mark, it is at most the number of bytes
abbrev pub IsUpTo : ℕ → Option ℕ → Type 0
IsUpTo most None = Unit {0}
IsUpTo most (Some left) = left ≤ most

pub up_to-or : (n k : ℕ) (x y : Option ℕ) → k ≤ n → IsUpTo k x → IsUpTo n y → IsUpTo n (option_or x y)
up_to-or n k None y h i j = j
up_to-or n k (Some left) y h i j = omega arith

up_to-when : (n : ℕ) (test : Bool) → IsUpTo n (when test n)
up_to-when n true = omega arith
up_to-when n false = tt

module _ (name : List ℕ) where
  mutual
    unfolding Marks MarksAll MarksFirst

    Marks-within : (t : Tree) (b : List ℕ) (r : Record) (mark : Option ℕ) → Marks name t b r mark → IsUpTo (length b) mark
    Marks-within (literal x) b r mark h = rw h tt
    Marks-within (component w c) b r mark h = rw h (up_to-when (length b) (is_named name c))
    Marks-within (sequence ts) b r mark h = MarksAll-within ts b r mark h
    Marks-within (optional t) b r mark (inl h) = Marks-within t b r mark h.3
    Marks-within (optional t) b r mark (inr h) = rw h.1 tt
    Marks-within (first_of ts) b r mark h = MarksFirst-within ts b r mark h

    MarksAll-within : (ts : Trees) (b : List ℕ) (r : Record) (mark : Option ℕ) → MarksAll name ts b r mark → IsUpTo (length b) mark
    MarksAll-within none b r mark h = rw h tt
    MarksAll-within (more t ts) b r mark (here, h, mid, q, s, later, k, is) =
        rw is (up_to-or (length b) (length mid) later here (rest_within t b r mid q s) (MarksAll-within ts mid q later k)
        (Marks-within t b r here h))

    MarksFirst-within : (ts : Trees) (b : List ℕ) (r : Record) (mark : Option ℕ) → MarksFirst name ts b r mark → IsUpTo (length b) mark
    MarksFirst-within none b r mark h = rw h tt
    MarksFirst-within (more t ts) b r mark (inl h) = Marks-within t b r mark h.3
    MarksFirst-within (more t ts) b r mark (inr h) = MarksFirst-within ts b r mark h.1

pub mark-within : (t : Tree) (name b : List ℕ) (r : Record) (left : ℕ) → MarksTree t name b r (Some left) → left ≤ length b
mark-within t name b r left h = Marks-within name (optional t) b r (Some left) h
