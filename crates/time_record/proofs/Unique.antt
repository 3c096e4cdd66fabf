-- A tree has at most one reading of some bytes and a record. `Y` is the greatest year.
use Rattle.std.specs.Option.{option_or}
use Rattle.std.proofs.Common.{◌≡◌, ℕ, List, [], ◌∷◌, ◌++◌, Bool, Some, ap, sym, ◌∙◌, subst, inl, inr, arith, ◌+◌, ◌<◌, ◌≤◌, length, drop, get_or, map, refl, Option, None, MatchOption}
use Rattle.std.proofs.lemmas.List.{at_drop_more, at_drop_all}
use Rattle.time_values.specs.Refusal.{Refusal, refusal_of_description}
use Rattle.time_values.specs.declared.error.ParseFromDescription.{ParseFromDescription}
use Rattle.time_components.specs.declared.format_description.Component.{Component}
use Rattle.time_components.specs.Tree.{Tree, Trees, literal, component, sequence, optional, first_of, none, more, trees}
use Rattle.time_components.proofs.OneSpelling.{Spells-unique}
use Rattle.time_record.specs.Components.{put_value}
use Rattle.time_record.specs.Reading.{ReadsComponent, Reads, ReadsAll, ReadsSome, IsFault, IsFaultAll, Refuses, Begins, BeginsAll, BeginsFirst, HasNone, NoReading, RefusesAll}
use Rattle.time_record.specs.Record.{Record}
use Rattle.time_record.specs.Laws.{HasAtMostOne, OneCount, OneSetting}

same_rest : (t x y : List ℕ) → t ++ x ≡ t ++ y → x ≡ y
same_rest [] x y e = e
same_rest (c ∷ t) x y e = let e' : t ++ x ≡ t ++ y = cc in same_rest t x y e'

module _ (Y : ℕ) where
  ReadsComponent-unique : (w : Bool) (c : Component) (b : List ℕ) (r : Record) → HasAtMostOne (ReadsComponent Y w c b r)
  ReadsComponent-unique w c b r x q y p h k =
      let is = Spells-unique w c h.text k.text x y h.value k.value h.spells k.spells (sym h.cut ∙ k.cut) in
      let some : Some q ≡ Some p = sym h.puts ∙ ap (λ v. put_value Y c v r) is.1 ∙ k.puts in
      (is.0, cc)

  mutual
    unfolding Reads ReadsAll ReadsSome

    pub Reads-unique : (t : Tree) (b : List ℕ) (r : Record) → HasAtMostOne (Reads Y t b r)
    Reads-unique (literal t) b r x q y p h k = (same_rest t x y (sym h.0 ∙ k.0), h.1 ∙ sym k.1)
    Reads-unique (component w c) b r x q y p h k = ReadsComponent-unique w c b r x q y p h k
    Reads-unique (sequence ts) b r x q y p h k = ReadsAll-unique ts b r x q y p h k
    Reads-unique (optional t) b r x q y p (inl h) (inl k) = Reads-unique t b r x q y p h k
    Reads-unique (optional t) b r x q y p (inl h) (inr k) = absurd (k.0 x q h)
    Reads-unique (optional t) b r x q y p (inr h) (inl k) = absurd (h.0 y p k)
    Reads-unique (optional t) b r x q y p (inr h) (inr k) = (h.1 ∙ sym k.1, h.2 ∙ sym k.2)
    Reads-unique (first_of none) b r x q y p h k = (h.0 ∙ sym k.0, h.1 ∙ sym k.1)
    Reads-unique (first_of (more t ts)) b r x q y p h k = ReadsSome-unique (more t ts) b r x q y p h k

    ReadsAll-unique : (ts : Trees) (b : List ℕ) (r : Record) → HasAtMostOne (ReadsAll Y ts b r)
    ReadsAll-unique none b r x q y p h k = (h.0 ∙ sym k.0, h.1 ∙ sym k.1)
    ReadsAll-unique (more t ts) b r x q y p (mid, m, h, hs) (mid', m', k, ks) =
        let is = Reads-unique t b r mid m mid' m' h k in
        let ks' = subst (λ m. ReadsAll Y ts mid m y p) (sym is.1) (subst (λ s. ReadsAll Y ts s m' y p) (sym is.0) ks) in
        ReadsAll-unique ts mid m x q y p hs ks'

    ReadsSome-unique : (ts : Trees) (b : List ℕ) (r : Record) → HasAtMostOne (ReadsSome Y ts b r)
    ReadsSome-unique none b r x q y p h k = absurd h
    ReadsSome-unique (more t ts) b r x q y p (inl h) (inl k) = Reads-unique t b r x q y p h k
    ReadsSome-unique (more t ts) b r x q y p (inl h) (inr k) = absurd (k.0 x q h)
    ReadsSome-unique (more t ts) b r x q y p (inr h) (inl k) = absurd (h.0 y p k)
    ReadsSome-unique (more t ts) b r x q y p (inr h) (inr k) = ReadsSome-unique ts b r x q y p h.1 k.1

  -- a tree has at most one error
  mutual
    unfolding IsFault IsFaultAll

    IsFault-unique : (t : Tree) (b : List ℕ) (r : Record) (e f : Refusal) → IsFault Y t b r e → IsFault Y t b r f → e ≡ f
    IsFault-unique (literal t) b r e f h k = h ∙ sym k
    IsFault-unique (component w c) b r e f h k = h ∙ sym k
    IsFault-unique (sequence ts) b r e f h k = IsFaultAll-unique ts b r e f h k
    IsFault-unique (optional t) b r e f h k = absurd h
    IsFault-unique (first_of none) b r e f h k = absurd h
    IsFault-unique (first_of (more t ts)) b r e f h k = IsFault-unique t b r e f h k

    IsFaultAll-unique : (ts : Trees) (b : List ℕ) (r : Record) (e f : Refusal) → IsFaultAll Y ts b r e → IsFaultAll Y ts b r f → e ≡ f
    IsFaultAll-unique none b r e f h k = absurd h
    IsFaultAll-unique (more t ts) b r e f (inl h) (inl k) = IsFault-unique t b r e f h.1 k.1
    IsFaultAll-unique (more t ts) b r e f (inl h) (inr k) = absurd (h.0 k.0 k.1 k.2)
    IsFaultAll-unique (more t ts) b r e f (inr h) (inl k) = absurd (k.0 h.0 h.1 h.2)
    IsFaultAll-unique (more t ts) b r e f (inr h) (inr k) =
        let is = Reads-unique t b r k.0 k.1 h.0 h.1 k.2 h.2 in
        let k' = subst (λ m. IsFaultAll Y ts h.0 m f) is.1 (subst (λ s. IsFaultAll Y ts s k.1 f) is.0 k.3) in
        IsFaultAll-unique ts h.0 h.1 e f h.3 k'

  pub Refuses-unique : (t : Tree) (b : List ℕ) (r : Record) (e f : Refusal) → Refuses Y t b r e → Refuses Y t b r f → e ≡ f
  Refuses-unique t b r e f h k = IsFault-unique t b r e f h.fault k.fault

  -- a tree with a reading has no error
  pub Reads-unrefused : (t : Tree) (b : List ℕ) (r : Record) (x : List ℕ) (q : Record) (e : Refusal) → Reads Y t b r x q → Refuses Y t b r e → ⊥
  Reads-unrefused t b r x q e h k = k.unread x q h

-- ---- Reading a tree visits one number of items. `Y` is the greatest year.

mutual
  unfolding Begins BeginsAll BeginsFirst

  pub one_count : OneCount
  one_count Y (literal t) b r n m h k = h ∙ sym k
  one_count Y (component w c) b r n m h k = h ∙ sym k
  one_count Y (sequence ts) b r n m (i, h, is) (j, k, be) = let same = one_count-all Y ts b r i j h k in omega arith
  one_count Y (optional t) b r n m (i, h, is) (j, k, be) = let same = one_count Y t b r i j h k in omega arith
  one_count Y (first_of ts) b r n m (i, h, is) (j, k, be) = let same = one_count-first Y ts b r i j h k in omega arith

  one_count-all : (Y : ℕ) (ts : Trees) (b : List ℕ) (r : Record) (n m : ℕ) → BeginsAll Y ts b r n → BeginsAll Y ts b r m → n ≡ m
  one_count-all Y none b r n m h k = h ∙ sym k
  one_count-all Y (more t ts) b r n m (i, h, inl hs) (j, k, inl ks) =
      let same = one_count Y t b r i j h k in let is = hs.1 in let be = ks.1 in omega arith
  one_count-all Y (more t ts) b r n m (i, h, inl hs) (j, k, inr ks) = absurd (hs.0 ks.0 ks.1 ks.2)
  one_count-all Y (more t ts) b r n m (i, h, inr hs) (j, k, inl ks) = absurd (ks.0 hs.0 hs.1 hs.2)
  one_count-all Y (more t ts) b r n m (i, h, inr (x, q, s, a, hs, is)) (j, k, inr (y, p, u, c, ks, be)) =
      let one = Reads-unique Y t b r x q y p s u in
      let there = subst (λ z. BeginsAll Y ts z q c) (sym one.0) (subst (λ z. BeginsAll Y ts y z c) (sym one.1) ks) in
      let same = one_count Y t b r i j h k in
      let later = one_count-all Y ts x q a c hs there in
      omega arith

  one_count-first : (Y : ℕ) (ts : Trees) (b : List ℕ) (r : Record) (n m : ℕ) → BeginsFirst Y ts b r n → BeginsFirst Y ts b r m → n ≡ m
  one_count-first Y none b r n m h k = h ∙ sym k
  one_count-first Y (more t ts) b r n m (i, h, inl (x, q, s, is)) (j, k, inl (y, p, u, be)) =
      let same = one_count Y t b r i j h k in omega arith
  one_count-first Y (more t ts) b r n m (i, h, inl (x, q, s, is)) (j, k, inr ks) = absurd (ks.0 x q s)
  one_count-first Y (more t ts) b r n m (i, h, inr hs) (j, k, inl (y, p, u, be)) = absurd (hs.0 y p u)
  one_count-first Y (more t ts) b r n m (i, h, inr (s, a, hs, is)) (j, k, inr (u, c, ks, be)) =
      let same = one_count Y t b r i j h k in
      let later = one_count-first Y ts b r a c hs ks in
      omega arith

-- ---- How the result of a list of items follows from those of its items. `Y` is the greatest year.

-- the trees of the items from an index on
abbrev pub trees_from : {X : Type 0} → (X → Tree) → ℕ → List X → Trees
trees_from f i xs = trees (map f (drop i xs))

module _ {X : Type 0} (f : X → Tree) (xs : List X) (i : ℕ) where
  pub trees_from-item : (x : X) → i < length xs → x ≡ get_or xs i x → trees_from f i xs ≡ more (f x) (trees_from f (i + 1) xs)
  trees_from-item x within is =
      at_drop_more (λ ys. trees (map f ys)) xs i x within ∙ ap (λ y. more (f y) (trees_from f (i + 1) xs)) (sym is)

  pub trees_from-end : length xs ≤ i → trees_from f i xs ≡ none
  trees_from-end end = at_drop_all (λ ys. trees (map f ys)) xs i end

-- The reading after a tree that reads, or after one that doesn't.
module _ (Y : ℕ) (t : Tree) (ts : Trees) (b : List ℕ) (r : Record) where
  pub ReadsAll-more : (mid : List ℕ) (q : Record) (rest : List ℕ) (r' : Record) → Reads Y t b r mid q →
      ReadsAll Y ts mid q rest r' → ReadsAll Y (more t ts) b r rest r'
  unfolding ReadsAll
  ReadsAll-more mid q rest r' h hs = (mid, q, h, hs)

  pub RefusesAll-here : (e : Refusal) → Refuses Y t b r e → RefusesAll Y (more t ts) b r e
  unfolding ReadsAll IsFaultAll
  RefusesAll-here e h = record { unread = λ rest r' k. h.unread k.0 k.1 k.2; fault = inl (h.unread, h.fault) }

  pub RefusesAll-more : (mid : List ℕ) (q : Record) (e : Refusal) → Reads Y t b r mid q → RefusesAll Y ts mid q e → RefusesAll Y (more t ts) b r e
  unfolding ReadsAll IsFaultAll
  RefusesAll-more mid q e h hs = record {
    unread = λ rest r' k.
        let is = Reads-unique Y t b r k.0 k.1 mid q k.2 h in
        hs.unread rest r' (subst (λ s. ReadsAll Y ts s q rest r') is.0 (subst (λ p. ReadsAll Y ts k.0 p rest r') is.1 k.3));
    fault = inr (mid, q, h, hs.fault);
  }

-- The result of the items from an index on is that of all: those before it were read.
pub record Continues (Y : ℕ) {X : Type 0} (f : X → Tree) (xs : List X) (i : ℕ)
    (b0 : List ℕ) (r0 : Record) (b : List ℕ) (r : Record) : Type 0 where
  pub reads : (rest : List ℕ) (q : Record) → ReadsAll Y (trees_from f i xs) b r rest q → ReadsAll Y (trees (map f xs)) b0 r0 rest q
  pub refuses : (e : Refusal) → RefusesAll Y (trees_from f i xs) b r e → RefusesAll Y (trees (map f xs)) b0 r0 e

module _ {Y : ℕ} {X : Type 0} {f : X → Tree} {xs : List X} {i : ℕ}
    {b0 : List ℕ} {r0 : Record} {b : List ℕ} {r : Record} (k : Continues Y f xs i b0 r0 b r) where
  module _ {x : X} (within : i < length xs) (is : x ≡ get_or xs i x) where
    -- the next item reads
    pub Continues-reads : {mid : List ℕ} {q : Record} → Reads Y (f x) b r mid q → Continues Y f xs (i + 1) b0 r0 mid q
    Continues-reads {mid} {q} h =
        let later = trees_from f (i + 1) xs in
        let here = trees_from-item f xs i x within is in
        record {
          reads = λ rest r' hs.
              let all = ReadsAll-more Y (f x) later b r mid q rest r' h hs in
              k.reads rest r' (subst (λ ts. ReadsAll Y ts b r rest r') (sym here) all);
          refuses = λ e hs.
              let all = RefusesAll-more Y (f x) later b r mid q e h hs in
              k.refuses e (subst (λ ts. RefusesAll Y ts b r e) (sym here) all);
        }

    -- the next item doesn't match
    pub Continues-refuses : {e : Refusal} → Refuses Y (f x) b r e → Refuses Y (sequence (trees (map f xs))) b0 r0 e
    unfolding Reads IsFault
    Continues-refuses {e} h =
        let here = trees_from-item f xs i x within is in
        let first = RefusesAll-here Y (f x) (trees_from f (i + 1) xs) b r e h in
        let all = k.refuses e (subst (λ ts. RefusesAll Y ts b r e) (sym here) first) in
        record { unread = all.unread; fault = all.fault }

  -- no item is left
  pub Continues-end : length xs ≤ i → Reads Y (sequence (trees (map f xs))) b0 r0 b r
  unfolding Reads ReadsAll
  Continues-end end = k.reads b r (subst (λ ts. ReadsAll Y ts b r b r) (sym (trees_from-end f xs i end)) (refl, refl))

-- None of the trees reads anything.
abbrev pub NoReadingSome : ℕ → Trees → List ℕ → Record → Type 0
NoReadingSome Y ts b r = HasNone (ReadsSome Y ts b r)

-- The error that is kept is that of all the alternatives. Before an error is kept, all are left.
abbrev pub IsKept : ℕ → Trees → Trees → List ℕ → Record → Option ParseFromDescription → Type 0
IsKept Y ts all b r kept = MatchOption kept (ts ≡ all) (λ e. IsFault Y (first_of all) b r (refusal_of_description e))

-- The result of the items from an index on as alternatives is that of all: none before it reads, the record is unchanged, and the first one's error is kept.
pub record Keeps (Y : ℕ) {X : Type 0} (f : X → Tree) (xs : List X) (i : ℕ)
    (b : List ℕ) (r now : Record) (kept : Option ParseFromDescription) : Type 0 where
  pub same : now ≡ r
  pub reads : (rest : List ℕ) (q : Record) → ReadsSome Y (trees_from f i xs) b r rest q → ReadsSome Y (trees (map f xs)) b r rest q
  pub unread : NoReadingSome Y (trees_from f i xs) b r → NoReadingSome Y (trees (map f xs)) b r
  pub fault : IsKept Y (trees_from f i xs) (trees (map f xs)) b r kept

module _ (Y : ℕ) (t : Tree) (ts : Trees) (b : List ℕ) (r : Record) where
  pub ReadsSome-here : (rest : List ℕ) (q : Record) → Reads Y t b r rest q → ReadsSome Y (more t ts) b r rest q
  unfolding ReadsSome
  ReadsSome-here rest q h = inl h

  pub ReadsSome-later : (rest : List ℕ) (q : Record) → NoReading Y t b r → ReadsSome Y ts b r rest q → ReadsSome Y (more t ts) b r rest q
  unfolding ReadsSome
  ReadsSome-later rest q h k = inr (h, k)

  pub NoReadingSome-more : NoReading Y t b r → NoReadingSome Y ts b r → NoReadingSome Y (more t ts) b r
  unfolding ReadsSome
  NoReadingSome-more h k = λ rest q s. elim s [ inl a ↦ h rest q a | inr a ↦ k rest q a.1 ]

-- alternatives read as one of them does, if there is one
module _ (Y : ℕ) (b : List ℕ) (r : Record) where
  pub first_of-some : (ts : Trees) (rest : List ℕ) (q : Record) → ReadsSome Y ts b r rest q → Reads Y (first_of ts) b r rest q
  unfolding Reads ReadsSome
  first_of-some none rest q h = absurd h
  first_of-some (more t ts) rest q h = h

  pub some-first_of : (ts : Trees) (rest : List ℕ) (q : Record) (e : Refusal) → IsFault Y (first_of ts) b r e →
      Reads Y (first_of ts) b r rest q → ReadsSome Y ts b r rest q
  unfolding Reads ReadsSome IsFault
  some-first_of none rest q e f h = absurd f
  some-first_of (more t ts) rest q e f h = h

  pub NoReadingSome-none : NoReadingSome Y none b r
  unfolding ReadsSome
  NoReadingSome-none = λ rest q h. h

  pub Reads-first_of_none : Reads Y (first_of none) b r b r
  unfolding Reads
  Reads-first_of_none = (refl, refl)

-- the error to keep after one more
pub IsKept-more : (Y : ℕ) (t : Tree) (ts all : Trees) (b : List ℕ) (r : Record) (kept : Option ParseFromDescription)
    (e : ParseFromDescription) → IsKept Y (more t ts) all b r kept → IsFault Y t b r (refusal_of_description e) →
    IsKept Y ts all b r (option_or kept (Some e))
unfolding IsFault
IsKept-more Y t ts all b r None e h k = subst (λ a. IsFault Y (first_of a) b r (refusal_of_description e)) h k
IsKept-more Y t ts all b r (Some f) e h k = h

module _ {Y : ℕ} {X : Type 0} {f : X → Tree} {xs : List X} {i : ℕ}
    {b : List ℕ} {r now : Record} {kept : Option ParseFromDescription} (k : Keeps Y f xs i b r now kept) where
  module _ {x : X} (within : i < length xs) (is : x ≡ get_or xs i x) where
    -- the next item reads
    pub Keeps-reads : (rest : List ℕ) (q : Record) → Reads Y (f x) b now rest q → Reads Y (first_of (trees (map f xs))) b r rest q
    Keeps-reads rest q h =
        let here = trees_from-item f xs i x within is in
        let read = subst (λ p. Reads Y (f x) b p rest q) k.same h in
        let some = ReadsSome-here Y (f x) (trees_from f (i + 1) xs) b r rest q read in
        first_of-some Y b r (trees (map f xs)) rest q (k.reads rest q (subst (λ ts. ReadsSome Y ts b r rest q) (sym here) some))

    -- the next item doesn't match
    pub Keeps-refuses : {now' : Record} {kept' : Option ParseFromDescription} (e : ParseFromDescription) →
        Refuses Y (f x) b now (refusal_of_description e) × (now' ≡ now) → kept' ≡ option_or kept (Some e) →
        Keeps Y f xs (i + 1) b r now' kept'
    Keeps-refuses e h more_kept =
        let later = trees_from f (i + 1) xs in
        let here = trees_from-item f xs i x within is in
        let refused = subst (λ p. Refuses Y (f x) b p (refusal_of_description e)) k.same h.0 in
        rw more_kept (record {
          same = h.1 ∙ k.same;
          reads = λ rest q s.
              let some = ReadsSome-later Y (f x) later b r rest q refused.unread s in
              k.reads rest q (subst (λ ts. ReadsSome Y ts b r rest q) (sym here) some);
          unread = λ s.
              let unread = NoReadingSome-more Y (f x) later b r refused.unread s in
              k.unread (subst (λ ts. NoReadingSome Y ts b r) (sym here) unread);
          fault = IsKept-more Y (f x) later (trees (map f xs)) b r kept e (rw here at k.fault) refused.fault;
        })

  -- no item is left, and there was one
  pub Keeps-fault : (e : ParseFromDescription) → length xs ≤ i → kept ≡ Some e →
      Refuses Y (first_of (trees (map f xs))) b r (refusal_of_description e) × (now ≡ r)
  Keeps-fault e end is =
      let all = trees (map f xs) in
      let fault = rw is at k.fault in
      let none_left = sym (trees_from-end f xs i end) in
      let unread = k.unread (subst (λ ts. NoReadingSome Y ts b r) none_left (NoReadingSome-none Y b r)) in (
        record {
          unread = λ rest q h. unread rest q (some-first_of Y b r all rest q (refusal_of_description e) fault h);
          fault = fault;
        },
        k.same,
      )

  -- there was no item
  pub Keeps-nothing : length xs ≤ i → kept ≡ None → Reads Y (first_of (trees (map f xs))) b r b now
  Keeps-nothing end is =
      let empty : none ≡ trees (map f xs) = sym (trees_from-end f xs i end) ∙ rw is at k.fault in
      rw k.same (subst (λ a. Reads Y (first_of a) b r b r) empty (Reads-first_of_none Y b r))

-- The lemmas for a walk's loops, except for the results after an item that doesn't match.
pub ruleset sequence_steps = (Continues-reads, Continues-end)

pub ruleset first_steps = (Keeps-reads, Keeps-fault, Keeps-nothing)

-- ---- A setter's result and the record after it are determined

pub Sets-one : OneSetting
Sets-one (Some r) old (Some u) new (Some v) other h k = (refl, h ∙ sym k)
Sets-one (Some r) old (Some u) new None other h k = absurd k
Sets-one (Some r) old None new answer other h k = absurd h
Sets-one None old None new None other h k = (refl, h ∙ sym k)
Sets-one None old None new (Some v) other h k = absurd k
Sets-one None old (Some u) new answer other h k = absurd h
