-- How the readings and misses of a sequence follow from those of its beginnings.
use Rattle.time_values.specs.Calendar.{greatest_year}
use Rattle.std.proofs.Common.{◌≡◌, ℕ, ◌≤◌, List, [], ◌∷◌, ◌++◌, Option, Some, None, true, false, nat_lt, if◌then◌else◌, refl, ap, sym, ◌∙◌, arith, length, map, subst, inl, inr, ◌≢◌, ◌⊎◌, eq-eqb, Bool, Bor, unwrap_or}
use Rattle.std.proofs.lemmas.Bool.Decides.{nat_tests, eqb_tells}
use Rattle.std.proofs.lemmas.Bool.{ne_eqb}
use Rattle.time_values.specs.Refusal.{Refusal}
use Rattle.time_components.specs.Tree.{Tree, Trees, first_of, none, more, trees, sequence, v3_shape, v3_step, literal, component, optional}
use Rattle.time_components.specs.declared.format_description.Component.{Component}
use Rattle.time_components.specs.declared.format_description.FormatDescriptionV3Inner.TheVariants as v3
use Rattle.time_components.specs.declared.format_description.FormatDescriptionV3Inner.TheFolds.{fold-roll-FormatDescriptionV3Inner}
use Rattle.time_components.specs.declared.format_description.FormatDescriptionV3Inner.TheOpen as layer
use Rattle.time_record.specs.Reading.{NoReading, Reads, ReadsSome, NoReadingAll, ReadsAll, IsFault, Refuses}
use Rattle.time_record.specs.Record.{Record}
use Rattle.time_record.specs.WalkSteps.{Attempts}
use Rattle.time_record.proofs.Unique.{first_of-some, NoReadingSome, NoReadingSome-more, NoReadingSome-none, ReadsSome-here, ReadsSome-later, ReadsAll-more, Reads-unique}
use Rattle.time_locating.specs.Misses.{Miss, further, further_of, furthest, IsFurthest, Misses, MissesFirst, LiteralReport, MissesAll, literal_misses, missed, these_bytes, expected_of}

-- ---- The furthest of some misses

pub further-none : (m : Option Miss) → further m None ≡ m
further-none None = refl
further-none (Some m) = refl

further_of-assoc : (m n k : Miss) → further_of (further_of m n) k ≡ further_of m (further_of n k)
further_of-assoc m n k = grind (arith, nat_tests)

pub further-assoc : (m n k : Option Miss) → further (further m n) k ≡ further m (further n k)
further-assoc None n k = refl
further-assoc (Some m) None k = refl
further-assoc (Some m) (Some n) None = refl
further-assoc (Some m) (Some n) (Some k) = ap Some (further_of-assoc m n k)

pub furthest-append : (ms ns : List Miss) → furthest (ms ++ ns) ≡ further (furthest ms) (furthest ns)
furthest-append [] ns = refl
furthest-append (m ∷ ms) ns =
    ap (λ k. further (Some m) k) (furthest-append ms ns) ∙ sym (further-assoc (Some m) (furthest ms) (furthest ns))

-- if there is a miss, at most that many bytes are left
abbrev pub LeavesUpTo : ℕ → Option Miss → Type 0
LeavesUpTo most None = Unit {0}
LeavesUpTo most (Some m) = m.left ≤ most

pub further-leaves : (most : ℕ) (m n : Option Miss) → LeavesUpTo most m → LeavesUpTo most n → LeavesUpTo most (further m n)
further-leaves most None n h k = k
further-leaves most (Some m) None h k = h
further-leaves most (Some m) (Some n) h k =
    elim (nat_lt n.left m.left) as (λ v. (if v then n else m).left ≤ most) [ true ↦ k | false ↦ h ]

-- ---- How the readings and misses of alternatives follow from the misses of those before them

-- The readings and misses of the alternatives that are left are those of all of them: no alternative before them
-- matches, and the furthest of their misses is kept.
pub record Passes (told : LiteralReport) (all left : Trees) (b : List ℕ) (r now : Record) (kept : Option Miss) : Type 0 where
  pub same : now ≡ r
  pub reads : (rest : List ℕ) (q : Record) → ReadsSome greatest_year left b r rest q → ReadsSome greatest_year all b r rest q
  pub unread : NoReadingSome greatest_year left b r → NoReadingSome greatest_year all b r
  pub misses : (ms : List Miss) → MissesFirst told left b r ms → IsFurthest (MissesFirst told all b r) (further kept (furthest ms))

pub Passes-start : (told : LiteralReport) (all : Trees) (b : List ℕ) (r : Record) → Passes told all all b r r None
Passes-start told all b r = record {
  same = refl;
  reads = λ rest q h. h;
  unread = λ h. h;
  misses = λ ms h. (ms, h, refl);
}

-- one or more alternatives that don't match
first_of-unread : (ts : Trees) (b : List ℕ) (r : Record) → (ts ≡ none → ⊥) → NoReadingSome greatest_year ts b r → NoReading greatest_year (first_of ts) b r
unfolding Reads ReadsSome
first_of-unread none b r some h = absurd (some refl)
first_of-unread (more t ts) b r some h = h

first_of-nothing : (ts : Trees) (b : List ℕ) (r : Record) → ts ≡ none → Reads greatest_year (first_of ts) b r b r
unfolding Reads
first_of-nothing none b r is = (refl, refl)
first_of-nothing (more t ts) b r is = let clash : more t ts ≡ none = is in cc

module _ {told : LiteralReport} {all left : Trees} {b : List ℕ} {r now : Record} {kept : Option Miss}
    (f : Passes told all left b r now kept) where
  module _ (t : Tree) (ts : Trees) (is : left ≡ more t ts) where
    -- the next one matches
    pub Passes-reads : (rest : List ℕ) (q : Record) → Reads greatest_year t b now rest q → Reads greatest_year (first_of all) b r rest q
    Passes-reads rest q h =
        let read = subst (λ p. Reads greatest_year t b p rest q) f.same h in
        let some = ReadsSome-here greatest_year t ts b r rest q read in
        first_of-some greatest_year b r all rest q (f.reads rest q (subst (λ us. ReadsSome greatest_year us b r rest q) (sym is) some))

    module _ {missed : Option Miss} (m : IsFurthest (Misses told t b now) missed) where
      pub Passes-misses : (rest : List ℕ) (q : Record) → Reads greatest_year t b now rest q → IsFurthest (MissesFirst told all b r) (further kept missed)
      unfolding MissesFirst
      Passes-misses rest q h =
          let read = subst (λ p. Reads greatest_year t b p rest q) f.same h in
          let misses = subst (λ p. Misses told t b p m.0) f.same m.1 in
          let here = subst (λ us. MissesFirst told us b r m.0) (sym is) (m.0, misses, inl (rest, q, read, refl)) in
          let end = f.misses m.0 here in
          (end.0, end.1, ap (λ n. further kept n) m.2 ∙ end.2)

      -- the next one doesn't match
      pub Passes-unread : {now' : Record} → NoReading greatest_year t b now → now' ≡ now → Passes told all ts b r now' (further kept missed)
      unfolding MissesFirst
      Passes-unread h stays =
          let unread = subst (λ p. NoReading greatest_year t b p) f.same h in
          let misses = subst (λ p. Misses told t b p m.0) f.same m.1 in
          record {
            same = stays ∙ f.same;
            reads = λ rest q x.
                let some = ReadsSome-later greatest_year t ts b r rest q unread x in
                f.reads rest q (subst (λ us. ReadsSome greatest_year us b r rest q) (sym is) some);
            unread = λ x. f.unread (subst (λ us. NoReadingSome greatest_year us b r) (sym is) (NoReadingSome-more greatest_year t ts b r unread x));
            misses = λ ms x.
                let here = subst (λ us. MissesFirst told us b r (m.0 ++ ms)) (sym is) (m.0, misses, inr (unread, ms, x, refl)) in
                let end = f.misses (m.0 ++ ms) here in (
                  end.0,
                  end.1,
                  further-assoc kept missed (furthest ms)
                      ∙ ap (λ n. further kept (further n (furthest ms))) m.2
                      ∙ ap (λ n. further kept n) (sym (furthest-append m.0 ms))
                      ∙ end.2,
                );
          }

  -- no alternative is left
  pub Passes-kept : left ≡ none → IsFurthest (MissesFirst told all b r) kept
  unfolding MissesFirst
  Passes-kept is =
      let end = f.misses [] (subst (λ ts. MissesFirst told ts b r []) (sym is) refl) in
      (end.0, end.1, sym (further-none kept) ∙ end.2)

  pub Passes-nothing : left ≡ none → (all ≡ none → ⊥) → NoReading greatest_year (first_of all) b r
  Passes-nothing is some =
      first_of-unread all b r some (f.unread (subst (λ us. NoReadingSome greatest_year us b r) (sym is) (NoReadingSome-none greatest_year b r)))

  -- there was no alternative
  pub Passes-none : all ≡ none → Reads greatest_year (first_of all) b r b now
  Passes-none is = rw f.same (first_of-nothing all b r is)

pub some_trees : {X : Type 0} (f : X → Tree) (xs : List X) → (length xs ≡ 0 → ⊥) → trees (map f xs) ≡ none → ⊥
some_trees f [] some is = some refl
some_trees f (x ∷ xs) some is = let clash : more (f x) (trees (map f xs)) ≡ none = is in cc

pub no_trees : {X : Type 0} (f : X → Tree) (xs : List X) → length xs ≡ 0 → trees (map f xs) ≡ none
no_trees f [] is = refl
no_trees f (x ∷ xs) is = absurd (omega arith)

module _ (t : Tree) (ts : Trees) (b : List ℕ) (r : Record) where
  pub NoReadingAll-here : NoReading greatest_year t b r → NoReadingAll greatest_year (more t ts) b r
  unfolding ReadsAll
  NoReadingAll-here h = λ rest q k. h k.0 k.1 k.2

  pub NoReadingAll-more : (mid : List ℕ) (q : Record) → Reads greatest_year t b r mid q → NoReadingAll greatest_year ts mid q → NoReadingAll greatest_year
      (more t ts) b r
  unfolding ReadsAll
  NoReadingAll-more mid q h hs = λ rest p k.
      let is = Reads-unique greatest_year t b r k.0 k.1 mid q k.2 h in
      hs rest p (subst (λ s. ReadsAll greatest_year ts s q rest p) is.0 (subst (λ o. ReadsAll greatest_year ts k.0 o rest p) is.1 k.3))

-- The readings and misses of the trees that are left are those of all of them: those before them were read, and the
-- furthest of their misses is kept.
pub record Follows (told : LiteralReport) (all : Trees) (b0 : List ℕ) (r0 : Record) (left : Trees) (b : List ℕ) (r : Record)
    (kept : Option Miss) : Type 0 where
  pub reads : (rest : List ℕ) (q : Record) → ReadsAll greatest_year left b r rest q → ReadsAll greatest_year all b0 r0 rest q
  pub unread : NoReadingAll greatest_year left b r → NoReadingAll greatest_year all b0 r0
  pub misses : (ms : List Miss) → MissesAll told left b r ms → IsFurthest (MissesAll told all b0 r0) (further (furthest ms) kept)

pub Follows-start : (told : LiteralReport) (all : Trees) (b : List ℕ) (r : Record) → Follows told all b r all b r None
Follows-start told all b r = record {
  reads = λ rest q h. h;
  unread = λ h. h;
  misses = λ ms h. (ms, h, further-none (furthest ms));
}

module _ {told : LiteralReport} {all : Trees} {b0 : List ℕ} {r0 : Record} {left : Trees} {b : List ℕ} {r : Record} {kept : Option Miss}
    (f : Follows told all b0 r0 left b r kept) where
  module _ (t : Tree) (ts : Trees) (is : left ≡ more t ts) {missed : Option Miss} (m : IsFurthest (Misses told t b r) missed) where
    -- the next tree is read
    pub Follows-reads : {mid : List ℕ} {q : Record} → Reads greatest_year t b r mid q → Follows told all b0 r0 ts mid q (further missed kept)
    unfolding MissesAll
    Follows-reads {mid} {q} h = record {
      reads = λ rest p x. f.reads rest p (subst (λ us. ReadsAll greatest_year us b r rest p) (sym is) (ReadsAll-more greatest_year t ts b r mid q rest p h x));
      unread = λ x. f.unread (subst (λ us. NoReadingAll greatest_year us b r) (sym is) (NoReadingAll-more t ts b r mid q h x));
      misses = λ ms x.
          let here = subst (λ us. MissesAll told us b r (ms ++ m.0)) (sym is) (m.0, m.1, inr (mid, q, h, ms, x, refl)) in
          let end = f.misses (ms ++ m.0) here in (
            end.0,
            end.1,
            sym (further-assoc (furthest ms) missed kept)
                ∙ ap (λ n. further (further (furthest ms) n) kept) m.2
                ∙ ap (λ n. further n kept) (sym (furthest-append ms m.0))
                ∙ end.2,
          );
    }

    -- the next tree doesn't match
    pub Follows-misses : NoReading greatest_year t b r → IsFurthest (MissesAll told all b0 r0) (further missed kept)
    unfolding MissesAll
    Follows-misses h =
        let here = subst (λ us. MissesAll told us b r m.0) (sym is) (m.0, m.1, inl (h, refl)) in
        let end = f.misses m.0 here in
        (end.0, end.1, ap (λ n. further n kept) m.2 ∙ end.2)

    pub Follows-unread : NoReading greatest_year t b r → NoReading greatest_year (sequence all) b0 r0
    unfolding Reads
    Follows-unread h = f.unread (subst (λ us. NoReadingAll greatest_year us b r) (sym is) (NoReadingAll-here t ts b r h))

  -- no tree is left
  pub Follows-end : left ≡ none → Reads greatest_year (sequence all) b0 r0 b r
  unfolding Reads ReadsAll
  Follows-end is = f.reads b r (subst (λ ts. ReadsAll greatest_year ts b r b r) (sym is) (refl, refl))

  pub Follows-kept : left ≡ none → IsFurthest (MissesAll told all b0 r0) kept
  unfolding MissesAll
  Follows-kept is = f.misses [] (subst (λ ts. MissesAll told ts b r []) (sym is) refl)

-- ---- The miss in a literal

module _ (told : LiteralReport) (t b : ℕ) (text bytes : List ℕ) where
  -- the literal's first byte matches
  pub literal-same : b ≡ t → literal_misses told (t ∷ text) (b ∷ bytes) ≡ literal_misses told text bytes
  literal-same is = rw (eq-eqb b t is) refl

  -- another byte is there
  pub literal-other : b ≢ t → literal_misses told (t ∷ text) (b ∷ bytes) ≡ missed (length (b ∷ bytes)) (these_bytes (told (t ∷ text))) ∷ []
  literal-other other = rw (ne_eqb b t other) refl

-- it is missed once, and leaves no more bytes than there are
pub record IsMissed (told : LiteralReport) (text bytes : List ℕ) : Type 0 where
  pub left : ℕ
  pub wanted : List ℕ
  pub within : left ≤ length bytes
  pub is : literal_misses told text bytes ≡ missed left (these_bytes wanted) ∷ []

-- The bytes begin with the literal, which then has no miss; or the literal is missed.
pub literal_cases : (told : LiteralReport) (text bytes : List ℕ)
    → (((rest : List ℕ) × (bytes ≡ text ++ rest)) × (literal_misses told text bytes ≡ [])) ⊎ IsMissed told text bytes
literal_cases told [] bytes = inl ((bytes, refl), refl)
literal_cases told (t ∷ text) [] = inr (record { left = 0; wanted = told (t ∷ text); within = omega arith; is = refl })
literal_cases told (t ∷ text) (b ∷ bytes) =
    elim (eqb_tells b t) [
      | inl h ↦ elim (literal_cases told text bytes) [
        | inl there ↦ inl ((there.0.0, cc (h.1, there.0.1)), literal-same told t b text bytes h.1 ∙ there.1)
        | inr m ↦ inr (record {
          left = m.left;
          wanted = m.wanted;
          within = omega arith;
          is = literal-same told t b text bytes h.1 ∙ m.is;
        })
      ]
      | inr h ↦ inr (record {
        left = length (b ∷ bytes);
        wanted = told (t ∷ text);
        within = omega arith;
        is = literal-other told t b text bytes h.1;
      })
    ]

-- a literal that matches has no miss
pub literal-there : (told : LiteralReport) (text rest : List ℕ) → literal_misses told text (text ++ rest) ≡ []
literal-there told [] rest = refl
literal-there told (t ∷ text) rest = literal-same told t t text (text ++ rest) refl ∙ literal-there told text rest

-- ---- The misses of a literal or a component.

module _ (told : LiteralReport) (b : List ℕ) (r : Record) where
  pub literal_reads : (text rest : List ℕ) (q : Record) → Reads greatest_year (literal text) b r rest q → IsFurthest (Misses told (literal text) b r) None
  unfolding Misses Reads
  literal_reads text rest q h = ([], sym (ap (literal_misses told text) h.0 ∙ literal-there told text rest), refl)

  pub literal_misses-furthest : (text : List ℕ) (miss : Option Miss) → miss ≡ furthest (literal_misses told text b) →
      IsFurthest (Misses told (literal text) b r) miss
  unfolding Misses
  literal_misses-furthest text miss is = (literal_misses told text b, refl, is)

  pub component_reads : (w : Bool) (c : Component) (rest : List ℕ) (q : Record) → Reads greatest_year (component w c) b r rest q →
      IsFurthest (Misses told (component w c) b r) None
  unfolding Misses
  component_reads w c rest q h = ([], inl ((rest, q, h), refl), refl)

  pub component_misses : (w : Bool) (c : Component) (e : Refusal) → Refuses greatest_year (component w c) b r e →
      IsFurthest (Misses told (component w c) b r) (Some (missed (length b) (expected_of e)))
  unfolding Misses IsFault
  component_misses w c e h =
      (missed (length b) (expected_of e) ∷ [], inr (h.unread, ap (λ f. missed (length b) (expected_of f) ∷ []) h.fault), refl)

-- a component of version 3 by itself
pub v3_component : (c : Component) → v3_shape (v3.Component c) ≡ component true c
v3_component c = ap v3_shape (sym (v3.rolls-Component c)) ∙ fold-roll-FormatDescriptionV3Inner Tree v3_step (layer.Component c)

same_answer : (t : Tree) (b : List ℕ) (r : Record) (x y : List ℕ) (q p : Record) → x ≡ y → q ≡ p → Reads greatest_year t b r y p → Reads greatest_year t b r x q
same_answer t b r x y q p e f h = subst (λ z. Reads greatest_year t b r z q) (sym e) (subst (λ o. Reads greatest_year t b r y o) (sym f) h)

-- a tree in turn by itself
module _ (t : Tree) (ts : Trees) (is : ts ≡ more t none) (b : List ℕ) (r : Record) where
  pub alone_reads : (rest : List ℕ) (q : Record) → Reads greatest_year (sequence ts) b r rest q → Reads greatest_year t b r rest q
  unfolding Reads ReadsAll
  alone_reads rest q h =
      let one = subst (λ us. ReadsAll greatest_year us b r rest q) is h in
      same_answer t b r rest one.0 q one.1 one.3.0 one.3.1 one.2

  pub alone_unread : NoReading greatest_year (sequence ts) b r → NoReading greatest_year t b r
  unfolding Reads ReadsAll
  alone_unread h = λ rest q k. h rest q (subst (λ us. ReadsAll greatest_year us b r rest q) (sym is) (rest, q, k, (refl, refl)))

-- an optional tree
pub optional_reads : (t : Tree) (b : List ℕ) (r : Record) (read : Option (Bor (List ℕ))) (input : Bor (List ℕ)) (new : Record) →
    b ≡ input.now → Attempts greatest_year t b r read new → Reads greatest_year (optional t) b r (unwrap_or read input).now new
unfolding Reads
optional_reads t b r (Some rest) input new is h = inl h
optional_reads t b r None input new is h = inr (h.unread, sym is, h.same)
