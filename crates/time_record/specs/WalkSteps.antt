-- No public contract rests on this file.
--
-- Walks over trees in turn. `Y` is the greatest year.
use Rattle.std.specs.Prelude.{◌≡◌, ℕ, ◌+◌, ◌<◌, List, ◌∷◌, length, drop, Option, Some, None}
use Rattle.std.specs.Borrow.{Bor}
use Rattle.time_values.specs.Refusal.{Refusal, literal as of_literal}
use Rattle.time_components.specs.Tree.{further as further_bytes, Trees, Tree, literal, component, more}
use Rattle.time_components.specs.declared.inspect.Step.{Step}
use Rattle.time_record.specs.Reading.{places_of_all, BeginsAll, BeginsFirst, Rises, ReadsAll, Refuses, RefusesAll, NoReading, Reads}
use Rattle.time_record.specs.Components.{component_fault}
use Rattle.time_record.specs.Record.{Record}

-- The result of reading the trees that are left is that of reading all: those before them were read, and the number of
-- items visited so far is added.
pub record Resumes (Y : ℕ) (all : Trees) (b0 : List ℕ) (r0 : Record) (begun : ℕ) (left : Trees) (b : List ℕ)
    (r : Record) : Type 0 where
  pub reads : (rest : List ℕ) (q : Record) → ReadsAll Y left b r rest q → ReadsAll Y all b0 r0 rest q
  pub refuses : (e : Refusal) → RefusesAll Y left b r e → RefusesAll Y all b0 r0 e
  pub begins : (m : ℕ) → BeginsAll Y left b r m → BeginsAll Y all b0 r0 (begun + m)

-- The count rises by the number of items that alternatives visit, at most their number of nodes, without the group
-- around them. It stops at 2 ^ 64 - 1.
abbrev pub CountsFirst : ℕ → Trees → List ℕ → Record → ℕ → ℕ → Type 0
CountsFirst Y ts bytes r = Rises (BeginsFirst Y ts bytes r) (places_of_all ts)

-- The steps `steps` begin with that byte, as a further byte of a literal, and `behind` are the steps after it.
pub record IsFurther (byte : ℕ) (behind steps : List Step) : Type 0 where
  pub further : further_bytes steps ≡ byte ∷ further_bytes behind
  pub after : drop (length (further_bytes behind)) behind ≡ drop (length (further_bytes steps)) steps
  pub fewer : length behind < length steps

-- ---- The results of an attempt to read a tree. `Y` is the greatest year.

-- The tree has no reading, and the record is unchanged.
pub record Unread (Y : ℕ) (t : Tree) (bytes : List ℕ) (r r' : Record) : Type 0 where
  pub unread : NoReading Y t bytes r
  pub same : r' ≡ r

-- the rest and the record of the tree's reading; or no reading, and the unchanged record
abbrev pub Attempts : ℕ → Tree → List ℕ → Record → Option (Bor (List ℕ)) → Record → Type 0
Attempts Y t bytes r (Some rest) r' = Reads Y t bytes r rest.now r'
Attempts Y t bytes r None r' = Unread Y t bytes r r'

-- ---- The results of the walk's fast paths. `Y` is the greatest year.

-- the rest and the record of a reading; or `None` and the unchanged record, whether or not the tree has a reading
abbrev pub MayRead : ℕ → Tree → List ℕ → Record → Option (Bor (List ℕ)) → Record → Type 0
MayRead Y t bytes r (Some rest) r' = Reads Y t bytes r rest.now r'
MayRead Y t bytes r None r' = r' ≡ r

-- a result that satisfies `Attempts`; or, for the outer `None`, the fast path doesn't apply, and the record is
-- unchanged
abbrev pub MayAttempt : ℕ → Tree → List ℕ → Record → Option (Option (Bor (List ℕ))) → Record → Type 0
MayAttempt Y t bytes r (Some read) r' = Attempts Y t bytes r read r'
MayAttempt Y t bytes r None r' = r' ≡ r

-- a literal or a component, which has nothing inside it
abbrev pub IsLeaf : Tree → Type 0
IsLeaf (literal t) = Unit {0}
IsLeaf (component whole c) = Unit {0}
IsLeaf t = ⊥

-- the error of a literal or a component that doesn't match; for another tree, the error of a literal
abbrev pub leaf_refusal : Tree → Refusal
leaf_refusal (component whole c) = component_fault c
leaf_refusal t = of_literal

-- The first of the trees is a leaf that doesn't match, and e is its error.
pub record RefusesLeaf (Y : ℕ) (ts : Trees) (bytes : List ℕ) (r : Record) (e : Refusal) : Type 0 where
  pub leaf : Tree
  pub later : Trees
  pub is : ts ≡ more leaf later
  pub is_leaf : IsLeaf leaf
  pub refuses : Refuses Y leaf bytes r e
