-- How the result of a sequence follows from those of its beginnings.
use Rattle.std.specs.Option.{option_or}
use Rattle.std.specs.Prelude.{MatchOption}
use Rattle.std.proofs.Common.{◌≡◌, ℕ, List, refl, sym, ◌∙◌, subst, Option, Some, None, inl, inr, Result, Ok, Err, Bor, zero, suc, ◌+◌, ◌-◌, ◌≤◌, ◌<◌, [], ◌∷◌, ◌++◌, length, take, drop, get_or, length-drop, ap, arith, append_assoc}
use Rattle.std.proofs.lemmas.List.{take-append-drop}
use Rattle.time_values.specs.declared.error.ParseFromDescription.{ParseFromDescription}
use Rattle.time_values.specs.Refusal.{refusal_of_description, Refusal}
use Rattle.time_values.specs.Calendar.{greatest_year}
use Rattle.time_components.specs.Tree.{Tree, Trees, first_of, none as tree_none, more, sequence, further, steps_trees}
use Rattle.time_components.specs.declared.inspect.Step.{Step}
use Rattle.time_components.specs.declared.inspect.Step.TheVariants as step
use Rattle.time_record.specs.Reading.{Reads, ReadsSome, Refuses, Answers, ReadsAll, IsFault, IsFaultAll, RefusesAll}
use Rattle.time_record.specs.Record.{Record}
use Rattle.time_record.proofs.Unique.{first_of-some, IsKept, IsKept-more, NoReadingSome, NoReadingSome-more, NoReadingSome-none, ReadsSome-here, ReadsSome-later, Reads-first_of_none, some-first_of, RefusesAll-here, RefusesAll-more}
use Rattle.time_preparing.specs.Walk.{followed_by, Resumes, ParsesTree, leaves, MayReadAll, MayReadFront, ReadsFront}
use Rattle.time_preparing.specs.Forms.{Fits, parts, BeginsWithParts}
use Rattle.time_preparing.specs.declared.joined.Joined.{Joined}
use Rattle.time_preparing.proofs.Rows.{AllPlain, drop_further, further_plain, plain_row, says_at}

-- ---- How the result of alternatives follows from those of their beginnings.

-- The result of the alternatives that are left is that of all of them: none before them matches, and the first one's
-- error is kept.
pub record Chooses (all left : Trees) (b : List ℕ) (r : Record) (kept : Option ParseFromDescription) : Type 0 where
  pub reads : (rest : List ℕ) (q : Record) → ReadsSome greatest_year left b r rest q → ReadsSome greatest_year all b r rest q
  pub unread : NoReadingSome greatest_year left b r → NoReadingSome greatest_year all b r
  pub fault : IsKept greatest_year left all b r kept

pub Chooses-start : (all : Trees) (b : List ℕ) (r : Record) → Chooses all all b r None
Chooses-start all b r = record { reads = λ rest q h. h; unread = λ h. h; fault = refl }

module _ {all left : Trees} {b : List ℕ} {r : Record} {kept : Option ParseFromDescription} (k : Chooses all left b r kept) where
  module _ (t : Tree) (ts : Trees) (is : left ≡ more t ts) where
    -- the next one matches
    pub Chooses-reads : (rest : List ℕ) (q : Record) → Reads greatest_year t b r rest q → Reads greatest_year (first_of all) b r rest q
    Chooses-reads rest q h =
        let some = ReadsSome-here greatest_year t ts b r rest q h in
        first_of-some greatest_year b r all rest q (k.reads rest q (subst (λ us. ReadsSome greatest_year us b r rest q) (sym is) some))

    -- the next one is rejected
    pub Chooses-refused : {kept' : Option ParseFromDescription} (e : ParseFromDescription) →
        Refuses greatest_year t b r (refusal_of_description e) → kept' ≡ option_or kept (Some e) → Chooses all ts b r kept'
    Chooses-refused e h more_kept =
        rw more_kept (record {
          reads = λ rest q x.
              let some = ReadsSome-later greatest_year t ts b r rest q h.unread x in
              k.reads rest q (subst (λ us. ReadsSome greatest_year us b r rest q) (sym is) some);
          unread = λ x. k.unread (subst (λ us. NoReadingSome greatest_year us b r) (sym is) (NoReadingSome-more greatest_year t ts b r h.unread x));
          fault = IsKept-more greatest_year t ts all b r kept e (rw is at k.fault) h.fault;
        })

  -- none is left, and there was one
  pub Chooses-fault : (e : ParseFromDescription) → left ≡ tree_none → kept ≡ Some e → Refuses greatest_year (first_of all) b r (refusal_of_description e)
  Chooses-fault e end is =
      let fault = rw is at k.fault in
      let unread = k.unread (subst (λ us. NoReadingSome greatest_year us b r) (sym end) (NoReadingSome-none greatest_year b r)) in
      record { unread = λ rest q h. unread rest q (some-first_of greatest_year b r all rest q (refusal_of_description e) fault h); fault = fault }

  -- there was no alternative
  pub Chooses-nothing : left ≡ tree_none → kept ≡ None → Reads greatest_year (first_of all) b r b r
  Chooses-nothing end is =
      let empty : tree_none ≡ all = sym end ∙ rw is at k.fault in
      subst (λ a. Reads greatest_year (first_of a) b r b r) empty (Reads-first_of_none greatest_year b r)

module _ (us : Trees) where
  pub reads_later : (ts : Trees) (b : List ℕ) (r : Record) (mid : List ℕ) (m : Record) (rest : List ℕ) (q : Record) →
      ReadsAll greatest_year ts b r mid m → ReadsAll greatest_year us mid m rest q → ReadsAll greatest_year (followed_by ts us) b r rest q
  unfolding ReadsAll
  reads_later tree_none b r mid m rest q h k = rw (sym h.0, sym h.1) k
  reads_later (more t ts) b r mid m rest q h k = (h.0, h.1, h.2, reads_later ts h.0 h.1 mid m rest q h.3 k)

  refused_later : (ts : Trees) (b : List ℕ) (r : Record) (mid : List ℕ) (m : Record) (e : Refusal) →
      ReadsAll greatest_year ts b r mid m → RefusesAll greatest_year us mid m e → RefusesAll greatest_year (followed_by ts us) b r e
  unfolding ReadsAll
  refused_later tree_none b r mid m e h k = rw (sym h.0, sym h.1) k
  refused_later (more t ts) b r mid m e h k =
      RefusesAll-more greatest_year t (followed_by ts us) b r h.0 h.1 e h.2 (refused_later ts h.0 h.1 mid m e h.3 k)

-- nothing was read yet
pub Resumes-start : (all : Trees) (b : List ℕ) (r : Record) → Resumes all b r all b r
Resumes-start all b r = record { reads = λ rest q h. h; refuses = λ e h. h }

-- two advances, one after the other
pub Resumes-further : {all : Trees} {b0 : List ℕ} {r0 : Record} {left : Trees} {b : List ℕ} {r : Record}
    {least : Trees} {c : List ℕ} {s : Record} → Resumes all b0 r0 left b r → Resumes left b r least c s → Resumes all b0 r0 least c s
Resumes-further g h = record { reads = λ rest q k. g.reads rest q (h.reads rest q k); refuses = λ e k. g.refuses e (h.refuses e k) }

module _ {all : Trees} {b0 : List ℕ} {r0 : Record} {left : Trees} {b : List ℕ} {r : Record} (g : Resumes all b0 r0 left b r) where
  -- equal trees by another term
  pub Resumes-as : (left' : Trees) → left' ≡ left → Resumes all b0 r0 left' b r
  Resumes-as left' is = subst (λ ts. Resumes all b0 r0 ts b r) (sym is) g

  -- trees before the ones that are left are read
  pub Resumes-reads : (ts us : Trees) → left ≡ followed_by ts us → {mid : List ℕ} {m : Record} → ReadsAll greatest_year ts b r mid m
      → Resumes all b0 r0 us mid m
  Resumes-reads ts us is {mid} {m} h = record {
    reads = λ rest q k. g.reads rest q (subst (λ ts. ReadsAll greatest_year ts b r rest q) (sym is) (reads_later us ts b r mid m rest q h k));
    refuses = λ e k. g.refuses e (subst (λ ts. RefusesAll greatest_year ts b r e) (sym is) (refused_later us ts b r mid m e h k));
  }

  -- the next tree is read
  pub Resumes-item : (t : Tree) (us : Trees) → left ≡ more t us → {mid : List ℕ} {m : Record} → Reads greatest_year t b r mid m → Resumes all b0 r0 us mid m
  unfolding ReadsAll
  Resumes-item t us is {mid} {m} h = Resumes-reads (more t tree_none) us is (mid, m, h, (refl, refl))

  -- the next tree is rejected
  pub Resumes-refused : (t : Tree) (us : Trees) → left ≡ more t us → {e : Refusal} → Refuses greatest_year t b r e → Refuses greatest_year
      (sequence all) b0 r0 e
  unfolding Reads IsFault
  Resumes-refused t us is {e} h =
      let refused = g.refuses e (subst (λ ts. RefusesAll greatest_year ts b r e) (sym is) (RefusesAll-here greatest_year t us b r e h)) in
      record { unread = refused.unread; fault = refused.fault }

  -- no tree is left
  pub Resumes-end : left ≡ tree_none → Reads greatest_year (sequence all) b0 r0 b r
  unfolding Reads ReadsAll
  Resumes-end is = g.reads b r (subst (λ ts. ReadsAll greatest_year ts b r b r) (sym is) (refl, refl))

-- a result by `Answers` is one by `ParsesTree`
pub answered : (t : Tree) (b : List ℕ) (r : Record) (result : Result (Bor (List ℕ)) ParseFromDescription) (q : Record) →
    Answers greatest_year t b r result q → ParsesTree t b r result q
answered t b r (Ok rest) q h = h
answered t b r (Err e) q h = h.0

-- the result of a list of one tree
one_tree : (t : Tree) (b : List ℕ) (r : Record) (rest : List ℕ) (q : Record) →
    Reads greatest_year (sequence (more t tree_none)) b r rest q → Reads greatest_year t b r rest q
unfolding Reads ReadsAll
one_tree t b r rest q (mid, m, h, same) =
    subst (λ x. Reads greatest_year t b r x q) (sym same.0) (subst (λ p. Reads greatest_year t b r mid p) (sym same.1) h)

pub one_reads : (t : Tree) (ts : Trees) (b : List ℕ) (r : Record) (rest : List ℕ) (q : Record) → ts ≡ more t tree_none →
    Reads greatest_year (sequence ts) b r rest q → Reads greatest_year t b r rest q
one_reads t ts b r rest q is h = one_tree t b r rest q (subst (λ us. Reads greatest_year (sequence us) b r rest q) is h)

one_fault : (t : Tree) (b : List ℕ) (r : Record) (e : Refusal) → IsFault greatest_year (sequence (more t tree_none)) b r e → IsFault greatest_year t b r e
unfolding IsFault IsFaultAll
one_fault t b r e (inl h) = h.1
one_fault t b r e (inr (mid, m, h, k)) = absurd k

pub one_as_list : (t : Tree) (b : List ℕ) (r : Record) (rest : List ℕ) (q : Record) →
    Reads greatest_year t b r rest q → Reads greatest_year (sequence (more t tree_none)) b r rest q
unfolding Reads ReadsAll
one_as_list t b r rest q h = (rest, q, h, (refl, refl))

pub one_refused : (t : Tree) (ts : Trees) (b : List ℕ) (r : Record) (e : Refusal) → ts ≡ more t tree_none →
    Refuses greatest_year (sequence ts) b r e → Refuses greatest_year t b r e
one_refused t ts b r e is h =
    let k = subst (λ us. Refuses greatest_year (sequence us) b r e) is h in
    record {
      unread = λ rest q reads. k.unread rest q (one_as_list t b r rest q reads);
      fault = one_fault t b r e k.fault;
    }

one_list_fault : (t : Tree) (b : List ℕ) (r : Record) (e : Refusal) → Refuses greatest_year t b r e → IsFault greatest_year (sequence (more t tree_none)) b r e
unfolding IsFault IsFaultAll
one_list_fault t b r e h = inl (h.unread, h.fault)

-- a tree's result is that of a list of it alone
pub one_told : (t : Tree) (ts : Trees) (b : List ℕ) (r : Record) (result : Result (Bor (List ℕ)) ParseFromDescription) (q : Record) →
    ts ≡ more t tree_none → ParsesTree t b r result q → ParsesTree (sequence ts) b r result q
one_told t ts b r (Ok rest) q is h = rw is (one_as_list t b r rest.now q h)
one_told t ts b r (Err e) q is h =
    rw is (record {
      unread = λ rest p reads. h.unread rest p (one_tree t b r rest p reads);
      fault = one_list_fault t b r _ h;
    })

-- ---- Joined steps in front of others

plain_take : (n : ℕ) (xs : List Step) → AllPlain xs → AllPlain (take n xs)
plain_take zero xs p = tt
plain_take (suc n) [] p = tt
plain_take (suc n) (step.Literal b ∷ xs) p = plain_take n xs p
plain_take (suc n) (step.More b ∷ xs) p = absurd p
plain_take (suc n) (step.Component c ∷ xs) p = plain_take n xs p
plain_take (suc n) (step.Group g len ∷ xs) p = absurd p

plain_drop : (n : ℕ) (xs : List Step) → AllPlain xs → AllPlain (drop n xs)
plain_drop zero xs p = p
plain_drop (suc n) [] p = tt
plain_drop (suc n) (step.Literal b ∷ xs) p = plain_drop n xs p
plain_drop (suc n) (step.More b ∷ xs) p = absurd p
plain_drop (suc n) (step.Component c ∷ xs) p = plain_drop n xs p
plain_drop (suc n) (step.Group g len ∷ xs) p = absurd p

drop_part : (n : ℕ) (xs ys : List Step) → n ≤ length xs → drop n (xs ++ ys) ≡ drop n xs ++ ys
drop_part zero xs ys within = refl
drop_part (suc n) [] ys within = absurd (omega arith)
drop_part (suc n) (x ∷ xs) ys within = drop_part n xs ys (omega arith)

-- that many bytes and components are read, each on its own
pub plain_front : (j : Joined) → AllPlain (parts j) → (n : ℕ) → n ≤ length (parts j) → (b mid : List ℕ) (r q : Record) →
    ReadsAll greatest_year (leaves (take n (parts j))) b r mid q → ReadsFront j n b r mid q
plain_front j p n within b mid r q h = λ after e.
    let xs = parts j in
    let left = drop n xs ++ after in
    let whole : xs ++ after ≡ take n xs ++ left = ap (λ ys. ys ++ after) (sym (take-append-drop n xs)) ∙ append_assoc (take n xs) (drop n xs) after in
    let row : steps_trees (xs ++ after) ≡ followed_by (leaves (take n xs)) (steps_trees left) =
    ap steps_trees whole ∙ plain_row (take n xs) left (plain_take n xs p) (further_plain (drop n xs) after (plain_drop n xs p) e) in
    Resumes-as (Resumes-reads (Resumes-start (steps_trees (xs ++ after)) b r) (leaves (take n xs)) (steps_trees left) row h)
    (steps_trees (drop n (xs ++ after))) (ap steps_trees (drop_part n xs after within))

-- none of them is read
pub no_front : (j : Joined) (n : ℕ) (b rest : List ℕ) (r : Record) → n ≡ 0 → rest ≡ b → ReadsFront j n b r rest r
no_front j n b rest r none same = λ after e.
    rw (none, same) (Resumes-start (steps_trees (parts j ++ after)) b r)

-- all of them are read as these trees, or none is
pub whole_front : (j : Joined) (ts : Trees) (k n : ℕ) (b rest : List ℕ) (r q : Record) (o : Option (Bor (List ℕ))) →
    ((after : List Step) → further after ≡ [] → steps_trees (parts j ++ after) ≡ followed_by ts (steps_trees (drop k (parts j ++ after)))) →
    MayReadAll ts b r o q → MatchOption o ((n ≡ 0) × (rest ≡ b)) (λ x. (n ≡ k) × (rest ≡ x.now)) → ReadsFront j n b r rest q
whole_front j ts k n b rest r q (Some x) row h is = λ after e.
    rw (is.0, is.1) (Resumes-reads (Resumes-start (steps_trees (parts j ++ after)) b r) ts (steps_trees (drop k (parts j ++ after))) (row after e) h)
whole_front j ts k n b rest r q None row h is = rw h (no_front j n b rest r is.0 is.1)

-- the trees in a row of steps, from one step on
pub front_goes : (js : List Joined) (steps : List Step) (next n : ℕ) (j : Joined) (b mid : List ℕ) (r q : Record) → Fits js steps →
    length js ≡ length steps → next < length js → j ≡ get_or js next j → MayReadFront j (length js - next) n b r mid q →
    Resumes (steps_trees (drop next steps)) b r (steps_trees (drop (next + n) steps)) mid q
front_goes js steps next n j b mid r q fits same within is (inl none) =
    let all = steps_trees (drop next steps) in
    let here : next + n ≡ next = omega (arith, none.0) in
    rw (none.1, none.2) (Resumes-as (Resumes-start all b r) (steps_trees (drop (next + n) steps)) (ap (λ k. steps_trees (drop k steps)) here))
front_goes js steps next n j b mid r q fits same within is (inr h) =
    let says = subst (λ d. BeginsWithParts d (drop next steps)) (sym is) (says_at next j js steps fits within same) in
    let begins = says h.0 (omega (arith, length-drop next steps, h.1)) in
    let goes = subst (λ xs. Resumes (steps_trees xs) b r (steps_trees (drop n xs)) mid q) (sym begins.1) (h.2 begins.0 begins.2) in
    Resumes-as goes (steps_trees (drop (next + n) steps)) (ap steps_trees (drop_further next n steps))
