-- Optional trees, equal trees, and the rest after a tree. `Y` is the greatest year.
use Rattle.std.specs.Prelude.{option_and_then}
use Rattle.std.proofs.Common.{◌≡◌, ◌∙◌, ℕ, List, [], ◌∷◌, ◌++◌, Option, None, Some, refl, ap, cond, Bool, true, false, ◌↔◌, ◌⊎◌, Ok, Err, subst, inl, inr, Result, Bor, sym, append_assoc}
use Rattle.time_values.specs.Refusal.{Refusal, refusal_of_description}
use Rattle.time_values.specs.declared.error.ParseFromDescription.{ParseFromDescription}
use Rattle.time_components.specs.Tree.{Tree, Trees, sequence, more, trees, literal, component, optional, first_of, none}
use Rattle.time_record.specs.Record.{Record, Entry, in_range, put, put_here, put_all, year_is}
use Rattle.time_record.specs.Reading.{Reads, ReadsAll, IsFault, IsFaultAll, Refuses, RefusesAll, Answers, ReadsSome}
use Rattle.time_record.proofs.Unique.{RefusesAll-here, RefusesAll-more, Refuses-unique, Reads-unrefused, Reads-unique}
use Rattle.time_parsing.specs.Rfc3339.{without_offset_sign, with_leap_second}
use Rattle.time_parsing.specs.TreeLaws.{JoinedReads, JoinedRefuses, JoinedLeaves, Flattens, OptionalAsFirst, told, HaveEqualResults, LeavesSuffix}

-- ---- Entries stored in a record in turn. `Y` is the greatest year.

and_then-append : (Y : ℕ) (xs ys : List Entry) (o : Option Record) (q : Record)
    → ((p : Record) → put_all Y xs p ≡ Some q → put_all Y (xs ++ ys) p ≡ put_all Y ys q)
    → option_and_then (put_all Y xs) o ≡ Some q → option_and_then (put_all Y (xs ++ ys)) o ≡ put_all Y ys q
and_then-append Y xs ys None q each h = absurd (cc)
and_then-append Y xs ys (Some p) q each h = each p h

-- the entries of one list, and then those of another
put_all-append : (Y : ℕ) (xs ys : List Entry) (r q : Record) → put_all Y xs r ≡ Some q → put_all Y (xs ++ ys) r ≡ put_all Y ys q
put_all-append Y [] ys r q h = let same : r ≡ q = cc in ap (put_all Y ys) same
put_all-append Y (x ∷ xs) ys r q h = and_then-append Y xs ys (put Y x r) q (λ p. put_all-append Y xs ys p q) h

-- A change of the record on which no entry depends may precede the entries or follow them.
module _ (change : Record → Record) (past : (e : Entry) (r : Record) → put_here e (change r) ≡ change (put_here e r)) where
  and_then-changed : (Y : ℕ) (e : Entry) (es : List Entry) (r q : Record) (b : Bool)
      → ((p : Record) → put_all Y es p ≡ Some q → put_all Y es (change p) ≡ Some (change q))
      → option_and_then (put_all Y es) (cond b (Some (put_here e r)) None) ≡ Some q
      → option_and_then (put_all Y es) (cond b (Some (put_here e (change r))) None) ≡ Some (change q)
  and_then-changed Y e es r q true each h = ap (put_all Y es) (past e r) ∙ each (put_here e r) h
  and_then-changed Y e es r q false each h = absurd (cc)

  put_all-changed : (Y : ℕ) (es : List Entry) (r q : Record) → put_all Y es r ≡ Some q → put_all Y es (change r) ≡ Some (change q)
  put_all-changed Y [] r q h = let same : r ≡ q = cc in ap (λ (x : Record). Some (change x)) same
  put_all-changed Y (e ∷ es) r q h = and_then-changed Y e es r q (in_range Y e) (λ p. put_all-changed Y es p q) h

-- no entry depends on these two flags
past_offset_sign : (e : Entry) (r : Record) → put_here e (without_offset_sign r) ≡ without_offset_sign (put_here e r)
past_offset_sign (year_is v) r = refl
past_offset_sign _ r = refl

past_leap_second : (e : Entry) (r : Record) → put_here e (with_leap_second r) ≡ with_leap_second (put_here e r)
past_leap_second (year_is v) r = refl
past_leap_second _ r = refl

-- Entries of a date, a time and an offset, with the sign of an offset cleared before the last, and a leap second
-- allowed at the end.
pub put_all-parts : (Y : ℕ) (date time offset : List Entry) (old dated timed new : Record)
    → put_all Y date old ≡ Some dated → put_all Y time dated ≡ Some timed
    → put_all Y offset (without_offset_sign timed) ≡ Some new
    → put_all Y (date ++ time ++ offset) (with_leap_second (without_offset_sign old)) ≡ Some (with_leap_second new)
put_all-parts Y date time offset old dated timed new d t o =
    let unsigned = put_all-changed without_offset_sign past_offset_sign Y in
    let all =
    put_all-append Y (date ++ time) offset (without_offset_sign old) (without_offset_sign timed)
    (put_all-append Y date time (without_offset_sign old) (without_offset_sign dated) (unsigned date old dated d) ∙ unsigned time dated timed t) ∙ o in
    put_all-changed with_leap_second past_leap_second Y (date ++ time ++ offset) (without_offset_sign old) new all

-- ---- Lists that are joined, or flattened. `Y` is the greatest year.

-- trees in turn, read in two parts
abbrev ReadsBoth : ℕ → Trees → Trees → List ℕ → Record → List ℕ → Record → Type 0
ReadsBoth Y ts us b r rest q = (mid : List ℕ) × (m : Record) × ReadsAll Y ts b r mid m × ReadsAll Y us mid m rest q

-- rejected in the first part or in the second
abbrev RefusesEither : ℕ → Trees → Trees → List ℕ → Record → Refusal → Type 0
RefusesEither Y ts us b r e =
    RefusesAll Y ts b r e ⊎ ((mid : List ℕ) × (m : Record) × ReadsAll Y ts b r mid m × RefusesAll Y us mid m e)

module _ (Y : ℕ) where
  joined-both : (xs ys : List Tree) (b : List ℕ) (r : Record) (rest : List ℕ) (q : Record) →
      ReadsAll Y (trees (xs ++ ys)) b r rest q → ReadsBoth Y (trees xs) (trees ys) b r rest q
  unfolding ReadsAll
  joined-both [] ys b r rest q h = (b, r, (refl, refl), h)
  joined-both (t ∷ xs) ys b r rest q (mid, m, h, hs) =
      let later = joined-both xs ys mid m rest q hs in
      (later.0, later.1, (mid, m, h, later.2), later.3)

  both-joined : (xs ys : List Tree) (b : List ℕ) (r : Record) (mid : List ℕ) (m : Record) (rest : List ℕ) (q : Record) →
      ReadsAll Y (trees xs) b r mid m → ReadsAll Y (trees ys) mid m rest q → ReadsAll Y (trees (xs ++ ys)) b r rest q
  unfolding ReadsAll
  both-joined [] ys b r mid m rest q h k =
      subst (λ s. ReadsAll Y (trees ys) s r rest q) h.0 (subst (λ p. ReadsAll Y (trees ys) mid p rest q) h.1 k)
  both-joined (t ∷ xs) ys b r mid m rest q h k = (h.0, h.1, h.2, both-joined xs ys h.0 h.1 mid m rest q h.3 k)

  -- trees in turn are rejected by the first of them, or after it
  head-either : (t : Tree) (ts : Trees) (b : List ℕ) (r : Record) (e : Refusal) → RefusesAll Y (more t ts) b r e →
      Refuses Y t b r e ⊎ ((mid : List ℕ) × (m : Record) × Reads Y t b r mid m × RefusesAll Y ts mid m e)
  unfolding ReadsAll IsFaultAll
  head-either t ts b r e h =
      elim h.fault [
        | inl here ↦ inl (record { unread = here.0; fault = here.1 })
        | inr (mid, m, k, fault) ↦ inr (mid, m, k, record { unread = λ x q s. h.unread x q (mid, m, k, s); fault = fault })
      ]

  -- an error of the first of joined lists is one of both
  refused-first : (xs ys : List Tree) (b : List ℕ) (r : Record) (e : Refusal) →
      RefusesAll Y (trees xs) b r e → RefusesAll Y (trees (xs ++ ys)) b r e
  unfolding IsFaultAll
  refused-first [] ys b r e h = absurd h.fault
  refused-first (t ∷ xs) ys b r e h =
      elim (head-either t (trees xs) b r e h) [
        | inl here ↦ RefusesAll-here Y t (trees (xs ++ ys)) b r e here
        | inr (mid, m, k, part) ↦ RefusesAll-more Y t (trees (xs ++ ys)) b r mid m e k (refused-first xs ys mid m e part)
      ]

  -- an error of the second list, after the first, is one of both
  refused-behind : (xs ys : List Tree) (b : List ℕ) (r : Record) (mid : List ℕ) (m : Record) (e : Refusal) →
      ReadsAll Y (trees xs) b r mid m → RefusesAll Y (trees ys) mid m e → RefusesAll Y (trees (xs ++ ys)) b r e
  unfolding ReadsAll
  refused-behind [] ys b r mid m e h k =
      subst (λ s. RefusesAll Y (trees ys) s r e) h.0 (subst (λ p. RefusesAll Y (trees ys) mid p e) h.1 k)
  refused-behind (t ∷ xs) ys b r mid m e h k =
      RefusesAll-more Y t (trees (xs ++ ys)) b r h.0 h.1 e h.2 (refused-behind xs ys h.0 h.1 mid m e h.3 k)

  joined-either : (xs ys : List Tree) (b : List ℕ) (r : Record) (e : Refusal) →
      RefusesAll Y (trees (xs ++ ys)) b r e → RefusesEither Y (trees xs) (trees ys) b r e
  unfolding ReadsAll
  joined-either [] ys b r e h = inr (b, r, (refl, refl), h)
  joined-either (t ∷ xs) ys b r e h =
      elim (head-either t (trees (xs ++ ys)) b r e h) [
        | inl here ↦ inl (RefusesAll-here Y t (trees xs) b r e here)
        | inr (mid, m, k, part) ↦ elim (joined-either xs ys mid m e part) [
          | inl first ↦ inl (RefusesAll-more Y t (trees xs) b r mid m e k first)
          | inr (x, p, s, behind) ↦ inr (x, p, (mid, m, k, s), behind)
        ]
      ]

  -- a list is read and rejected as its trees in turn
  list-reads : (ts : Trees) (b : List ℕ) (r : Record) (rest : List ℕ) (q : Record) →
      Reads Y (sequence ts) b r rest q ↔ ReadsAll Y ts b r rest q
  unfolding Reads
  list-reads ts b r rest q = (λ h. h, λ h. h)

  list-refuses : (ts : Trees) (b : List ℕ) (r : Record) (e : Refusal) → Refuses Y (sequence ts) b r e ↔ RefusesAll Y ts b r e
  unfolding Reads IsFault
  list-refuses ts b r e = (λ h. record { unread = h.unread; fault = h.fault }, λ h. record { unread = h.unread; fault = h.fault })

  pub joined_reads : JoinedReads Y
  unfolding Reads
  joined_reads xs ys b r rest q =
      (joined-both xs ys b r rest q, λ h. both-joined xs ys b r h.0 h.1 rest q h.2 h.3)

  pub joined_refuses : JoinedRefuses Y
  unfolding Reads
  joined_refuses xs ys b r e = (
    λ h. elim (joined-either xs ys b r e ((list-refuses (trees (xs ++ ys)) b r e).0 h)) [
      | inl k ↦ inl ((list-refuses (trees xs) b r e).1 k)
      | inr (mid, m, s, k) ↦ inr (mid, m, s, (list-refuses (trees ys) mid m e).1 k)
    ],
    λ h. (list-refuses (trees (xs ++ ys)) b r e).1 (elim h [
      | inl k ↦ refused-first xs ys b r e ((list-refuses (trees xs) b r e).0 k)
      | inr (mid, m, s, k) ↦ refused-behind xs ys b r mid m e s ((list-refuses (trees ys) mid m e).0 k)
    ]),
  )

  pub joined_leaves : JoinedLeaves Y
  joined_leaves xs ys b old new e (Ok x) either read =
      absurd (Reads-unrefused Y (sequence (trees (xs ++ ys))) b old x.now new e read ((joined_refuses xs ys b old e).1 either))
  joined_leaves xs ys b old new e (Err f) either (refused, same) = (
    ap Err (Refuses-unique Y (sequence (trees (xs ++ ys))) b old (refusal_of_description f) e refused ((joined_refuses xs ys b old e).1 either)),
    same,
  )

  module _ (before inside behind : List Tree) (b : List ℕ) (r : Record) where
    abbrev nested : Trees
    nested = trees (before ++ sequence (trees inside) ∷ behind)

    abbrev flat : Trees
    flat = trees (before ++ (inside ++ behind))

    nested-flat : (rest : List ℕ) (q : Record) → ReadsAll Y nested b r rest q → ReadsAll Y flat b r rest q
    unfolding Reads ReadsAll
    nested-flat rest q h =
        let (mid, m, k, (x, p, s, l)) = joined-both before (sequence (trees inside) ∷ behind) b r rest q h in
        both-joined before (inside ++ behind) b r mid m rest q k (both-joined inside behind mid m x p rest q s l)

    flat-nested : (rest : List ℕ) (q : Record) → ReadsAll Y flat b r rest q → ReadsAll Y nested b r rest q
    unfolding Reads ReadsAll
    flat-nested rest q h =
        let (mid, m, k, l) = joined-both before (inside ++ behind) b r rest q h in
        let (x, p, s, u) = joined-both inside behind mid m rest q l in
        both-joined before (sequence (trees inside) ∷ behind) b r mid m rest q k (x, p, s, u)

    nested-flat_refuses : (e : Refusal) → RefusesAll Y nested b r e → RefusesAll Y flat b r e
    unfolding Reads
    nested-flat_refuses e h = elim (joined-either before (sequence (trees inside) ∷ behind) b r e h) [
      | inl first ↦ refused-first before (inside ++ behind) b r e first
      | inr (mid, m, k, l) ↦ refused-behind before (inside ++ behind) b r mid m e k (
          elim (head-either (sequence (trees inside)) (trees behind) mid m e l) [
            | inl i ↦ refused-first inside behind mid m e ((list-refuses (trees inside) mid m e).0 i)
            | inr (x, p, s, u) ↦ refused-behind inside behind mid m x p e s u
          ])
    ]

    flat-nested_refuses : (e : Refusal) → RefusesAll Y flat b r e → RefusesAll Y nested b r e
    unfolding Reads
    flat-nested_refuses e h = elim (joined-either before (inside ++ behind) b r e h) [
      | inl first ↦ refused-first before (sequence (trees inside) ∷ behind) b r e first
      | inr (mid, m, k, l) ↦ refused-behind before (sequence (trees inside) ∷ behind) b r mid m e k (
          elim (joined-either inside behind mid m e l) [
            | inl i ↦ RefusesAll-here Y (sequence (trees inside)) (trees behind) mid m e ((list-refuses (trees inside) mid m e).1 i)
            | inr (x, p, s, u) ↦ RefusesAll-more Y (sequence (trees inside)) (trees behind) mid m x p e s u
          ])
    ]

  pub flattens : Flattens Y
  flattens before inside behind b r =
      let ts = trees (before ++ sequence (trees inside) ∷ behind) in
      let us = trees (before ++ (inside ++ behind)) in
      record {
        reads = λ rest q. (
          λ h. (list-reads us b r rest q).1 (nested-flat before inside behind b r rest q ((list-reads ts b r rest q).0 h)),
          λ h. (list-reads ts b r rest q).1 (flat-nested before inside behind b r rest q ((list-reads us b r rest q).0 h)),
        );
        refuses = λ e. (
          λ h. (list-refuses us b r e).1 (nested-flat_refuses before inside behind b r e ((list-refuses ts b r e).0 h)),
          λ h. (list-refuses ts b r e).1 (flat-nested_refuses before inside behind b r e ((list-refuses us b r e).0 h)),
        );
      }

module _ (Y : ℕ) where
  -- the optional tree, written as a choice
  abbrev choice : Tree → Tree
  choice t = first_of (trees (t ∷ sequence none ∷ []))

  optional-choice : (t : Tree) (b : List ℕ) (r : Record) (rest : List ℕ) (q : Record) → Reads Y (optional t) b r rest q → Reads Y (choice t) b r rest q
  unfolding Reads ReadsAll ReadsSome
  optional-choice t b r rest q (inl h) = inl h
  optional-choice t b r rest q (inr h) = inr (h.0, inl (h.1, h.2))

  choice-optional : (t : Tree) (b : List ℕ) (r : Record) (rest : List ℕ) (q : Record) → Reads Y (choice t) b r rest q → Reads Y (optional t) b r rest q
  unfolding Reads ReadsAll ReadsSome
  choice-optional t b r rest q (inl h) = inl h
  choice-optional t b r rest q (inr (h, inl k)) = inr (h, k.0, k.1)
  choice-optional t b r rest q (inr (h, inr k)) = absurd k.1

  -- neither is ever rejected
  optional-unrefused : (t : Tree) (b : List ℕ) (r : Record) (e : Refusal) → Refuses Y (optional t) b r e → ⊥
  unfolding IsFault
  optional-unrefused t b r e h = h.fault

  choice-unrefused : (t : Tree) (b : List ℕ) (r : Record) (e : Refusal) → Refuses Y (choice t) b r e → ⊥
  unfolding Reads ReadsAll ReadsSome
  choice-unrefused t b r e h = h.unread b r (inr (λ x q k. h.unread x q (inl k), inl (refl, refl)))

  pub optional_as_first : OptionalAsFirst Y
  optional_as_first t b r = record {
    reads = λ rest q. (optional-choice t b r rest q, choice-optional t b r rest q);
    refuses = λ e. (λ h. absurd (optional-unrefused t b r e h), λ h. absurd (choice-unrefused t b r e h));
  }

  -- one tree has one answer
  one_answer : (t : Tree) (b : List ℕ) (r : Record) (result other : Result (Bor (List ℕ)) ParseFromDescription) (q p : Record) →
      Answers Y t b r result q → Answers Y t b r other p → (told result ≡ told other) × (q ≡ p)
  one_answer t b r (Ok x) (Ok y) q p h k =
      let is = Reads-unique Y t b r x.now q y.now p h k in
      (ap Ok is.0, is.1)
  one_answer t b r (Ok x) (Err e) q p h k = absurd (Reads-unrefused Y t b r x.now q _ h k.0)
  one_answer t b r (Err e) (Ok y) q p h k = absurd (Reads-unrefused Y t b r y.now p _ k h.0)
  one_answer t b r (Err e) (Err f) q p h k =
      (ap Err (Refuses-unique Y t b r (refusal_of_description e) (refusal_of_description f) h.0 k.0), h.1 ∙ sym k.1)

  pub answers_alike : (t u : Tree) → HaveEqualResults Y t u
  answers_alike t u b r result other q p is h k = one_answer t b r result other q p h (subst (λ s. Answers Y s b r other p) (sym is) k)

  abbrev Suffix : List ℕ → List ℕ → Type 0
  Suffix b x = (front : List ℕ) × (b ≡ front ++ x)

  suffix-same : (b x : List ℕ) → x ≡ b → Suffix b x
  suffix-same b x is = ([], sym is)

  suffix-of_suffix : (b m x : List ℕ) → Suffix b m → Suffix m x → Suffix b x
  suffix-of_suffix b m x h k = (h.0 ++ k.0, h.1 ∙ ap (λ s. h.0 ++ s) k.1 ∙ sym (append_assoc h.0 k.0 x))

  mutual
    unfolding Reads ReadsAll ReadsSome

    pub leaves_suffix : LeavesSuffix Y
    leaves_suffix (literal t) b r x q h = (t, h.0)
    leaves_suffix (component w c) b r x q h = (h.text, h.cut)
    leaves_suffix (sequence ts) b r x q h = all-suffix ts b r x q h
    leaves_suffix (optional t) b r x q (inl h) = leaves_suffix t b r x q h
    leaves_suffix (optional t) b r x q (inr h) = suffix-same b x h.1
    leaves_suffix (first_of none) b r x q h = suffix-same b x h.0
    leaves_suffix (first_of (more t ts)) b r x q h = some-suffix (more t ts) b r x q h

    all-suffix : (ts : Trees) (b : List ℕ) (r : Record) (x : List ℕ) (q : Record) → ReadsAll Y ts b r x q → Suffix b x
    all-suffix none b r x q h = suffix-same b x h.0
    all-suffix (more t ts) b r x q (mid, m, h, hs) =
        suffix-of_suffix b mid x (leaves_suffix t b r mid m h) (all-suffix ts mid m x q hs)

    some-suffix : (ts : Trees) (b : List ℕ) (r : Record) (x : List ℕ) (q : Record) → ReadsSome Y ts b r x q → Suffix b x
    some-suffix none b r x q h = absurd h
    some-suffix (more t ts) b r x q (inl h) = leaves_suffix t b r x q h
    some-suffix (more t ts) b r x q (inr h) = some-suffix ts b r x q h.1
