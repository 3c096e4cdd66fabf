-- How a tree is read into a record, and why it isn't. `Y` is the greatest year.
use Rattle.std.specs.Prelude.{◌≡◌, ℕ, ◌⊎◌, List, ◌++◌, Bool, Some, Result, Ok, Err, false, ◌+◌, ◌-◌, ◌^◌, ◌≤◌, min}
use Rattle.std.specs.Borrow.{Bor}
use Rattle.time_values.specs.Refusal.{Refusal, literal as of_literal, refusal_of_description}
use Rattle.time_values.specs.declared.error.ParseFromDescription.{ParseFromDescription}
use Rattle.time_components.specs.declared.format_description.Component.{Component}
use Rattle.time_components.specs.Spelling.{Value, Spells, BeginsCharacter}
use Rattle.time_components.specs.Tree.{Tree, Trees, literal, component, sequence, optional, first_of, none, more}
use Rattle.time_components.specs.declared.format_description.Component.TheVariants.{Ignore}
use Rattle.time_components.specs.declared.modifier.Ignore.{Ignore as Ignore'}
use Rattle.time_record.specs.Components.{component_fault, put_value}
use Rattle.time_record.specs.Record.{Record}

-- The bytes are a text that spells the component, followed by `rest`, and r' is the record r with the text's value
-- stored (r itself for an `Ignore` or an `End`). If `whole` is true, an `Ignore` has to end between characters.
pub record ReadsComponent (Y : ℕ) (whole : Bool) (c : Component)
    (bytes : List ℕ) (r : Record) (rest : List ℕ) (r' : Record) : Type 0 where
  pub text : List ℕ
  pub value : Value
  pub cut : bytes ≡ text ++ rest
  pub spells : Spells whole c text rest value
  pub puts : put_value Y c value r ≡ Some r'

-- no rest and record have the property
abbrev pub HasNone : (List ℕ → Record → Type 0) → Type 0
HasNone P = (rest : List ℕ) (r' : Record) → P rest r' → ⊥

unfoldable mutual
  -- The tree matches the bytes before `rest`, and changes the record r to r'. An optional tree whose inner tree doesn't
  -- match, and a tree of no alternatives, match the empty text and leave the record unchanged.
  pub Reads : ℕ → Tree → List ℕ → Record → List ℕ → Record → Type 0
  Reads Y (literal t) bytes r rest r' = (bytes ≡ t ++ rest) × (r' ≡ r)
  Reads Y (component whole c) bytes r rest r' = ReadsComponent Y whole c bytes r rest r'
  Reads Y (sequence ts) bytes r rest r' = ReadsAll Y ts bytes r rest r'
  Reads Y (optional t) bytes r rest r' =
      Reads Y t bytes r rest r' ⊎ (HasNone (Reads Y t bytes r) × (rest ≡ bytes) × (r' ≡ r))
  Reads Y (first_of none) bytes r rest r' = (rest ≡ bytes) × (r' ≡ r)
  Reads Y (first_of (more t ts)) bytes r rest r' = ReadsSome Y (more t ts) bytes r rest r'

  -- each of the trees in turn, from the rest and the record of the one before; without trees, the rest is all bytes,
  -- and the record is unchanged
  pub ReadsAll : ℕ → Trees → List ℕ → Record → List ℕ → Record → Type 0
  ReadsAll Y none bytes r rest r' = (rest ≡ bytes) × (r' ≡ r)
  ReadsAll Y (more t ts) bytes r rest r' =
      (mid : List ℕ) × (q : Record) × Reads Y t bytes r mid q × ReadsAll Y ts mid q rest r'

  -- the first of the trees that matches; false if none does
  pub ReadsSome : ℕ → Trees → List ℕ → Record → List ℕ → Record → Type 0
  ReadsSome Y none bytes r rest r' = ⊥
  ReadsSome Y (more t ts) bytes r rest r' =
      Reads Y t bytes r rest r' ⊎ (HasNone (Reads Y t bytes r) × ReadsSome Y ts bytes r rest r')

-- The tree doesn't match at the start of the bytes with this record.
abbrev pub NoReading : ℕ → Tree → List ℕ → Record → Type 0
NoReading Y t bytes r = HasNone (Reads Y t bytes r)

-- The trees, one after another, don't all match at the start of the bytes with this record.
abbrev pub NoReadingAll : ℕ → Trees → List ℕ → Record → Type 0
NoReadingAll Y ts bytes r = HasNone (ReadsAll Y ts bytes r)

unfoldable mutual
  -- the error of a tree that doesn't match; for alternatives that of the first one; an optional tree and an empty list
  -- of alternatives have no error
  pub IsFault : ℕ → Tree → List ℕ → Record → Refusal → Type 0
  IsFault Y (literal t) bytes r e = e ≡ of_literal
  IsFault Y (component whole c) bytes r e = e ≡ component_fault c
  IsFault Y (sequence ts) bytes r e = IsFaultAll Y ts bytes r e
  IsFault Y (optional t) bytes r e = ⊥
  IsFault Y (first_of none) bytes r e = ⊥
  IsFault Y (first_of (more t ts)) bytes r e = IsFault Y t bytes r e

  -- for trees one after another the error of the first one that doesn't match; without trees there is no error
  pub IsFaultAll : ℕ → Trees → List ℕ → Record → Refusal → Type 0
  IsFaultAll Y none bytes r e = ⊥
  IsFaultAll Y (more t ts) bytes r e =
      (NoReading Y t bytes r × IsFault Y t bytes r e)
      ⊎ ((mid : List ℕ) × (q : Record) × Reads Y t bytes r mid q × IsFaultAll Y ts mid q e)

-- The tree doesn't match, and e is its error.
pub record Refuses (Y : ℕ) (t : Tree) (bytes : List ℕ) (r : Record) (e : Refusal) : Type 0 where
  pub unread : NoReading Y t bytes r
  pub fault : IsFault Y t bytes r e

-- The trees, one after another, don't all match, and e is the error of the first that doesn't.
pub record RefusesAll (Y : ℕ) (ts : Trees) (bytes : List ℕ) (r : Record) (e : Refusal) : Type 0 where
  pub unread : NoReadingAll Y ts bytes r
  pub fault : IsFaultAll Y ts bytes r e

-- ---- The results of reading a tree. `Y` is the greatest year.

-- the rest and the record of the tree's reading; or, without a reading, the error and the unchanged record
abbrev pub Answers :
    ℕ → Tree → List ℕ → Record → Result (Bor (List ℕ)) ParseFromDescription → Record → Type 0
Answers Y t bytes r (Ok rest) r' = Reads Y t bytes r rest.now r'
Answers Y t bytes r (Err e) r' = Refuses Y t bytes r (refusal_of_description e) × (r' ≡ r)

-- ---- Readings that leave each character whole. `Y` is the greatest year.

-- if the component is an `Ignore` and matches, its rest is empty or doesn't begin with a UTF-8 continuation byte
abbrev pub CleanComponent : ℕ → Component → List ℕ → Record → Type 0
CleanComponent Y c bytes r =
    (modifiers : Ignore') (rest : List ℕ) (q : Record)
    → c ≡ Ignore modifiers → ReadsComponent Y false c bytes r rest q → BeginsCharacter rest

unfoldable mutual
  -- no `Ignore` among the items visited in reading the tree ends inside a character
  pub Clean : ℕ → Tree → List ℕ → Record → Type 0
  Clean Y (literal t) bytes r = Unit {0}
  Clean Y (component whole c) bytes r = CleanComponent Y c bytes r
  Clean Y (sequence ts) bytes r = CleanAll Y ts bytes r
  Clean Y (optional t) bytes r = Clean Y t bytes r
  Clean Y (first_of ts) bytes r = CleanFirst Y ts bytes r

  -- `Clean` for trees one after another, up to and including the first that doesn't match
  pub CleanAll : ℕ → Trees → List ℕ → Record → Type 0
  CleanAll Y none bytes r = Unit {0}
  CleanAll Y (more t ts) bytes r =
      Clean Y t bytes r × ((mid : List ℕ) (q : Record) → Reads Y t bytes r mid q → CleanAll Y ts mid q)

  -- `Clean` for alternatives, up to and including the first that matches
  pub CleanFirst : ℕ → Trees → List ℕ → Record → Type 0
  CleanFirst Y none bytes r = Unit {0}
  CleanFirst Y (more t ts) bytes r =
      Clean Y t bytes r × (NoReading Y t bytes r → CleanFirst Y ts bytes r)

-- the tree with no component marked to end between characters
abbrev mutual
  pub unmarked : Tree → Tree
  unmarked (literal t) = literal t
  unmarked (component whole c) = component false c
  unmarked (sequence ts) = sequence (unmarked_all ts)
  unmarked (optional t) = optional (unmarked t)
  unmarked (first_of ts) = first_of (unmarked_all ts)

  -- the trees, each with no component marked
  pub unmarked_all : Trees → Trees
  unmarked_all none = none
  unmarked_all (more t ts) = more (unmarked t) (unmarked_all ts)

-- ---- How many items an attempt to read a tree visits, and how many there are. `Y` is the greatest year.

-- the number of nodes of a tree, itself included
abbrev mutual
  pub places : Tree → ℕ
  places (literal t) = 1
  places (component whole c) = 1
  places (sequence ts) = 1 + places_of_all ts
  places (optional t) = 1 + places t
  places (first_of ts) = 1 + places_of_all ts

  -- the number of nodes of all the trees
  pub places_of_all : Trees → ℕ
  places_of_all none = 0
  places_of_all (more t ts) = places t + places_of_all ts

unfoldable mutual
  -- Matching the tree at the start of the bytes visits n items, whether it matches or not.
  pub Begins : ℕ → Tree → List ℕ → Record → ℕ → Type 0
  Begins Y (literal t) bytes r n = n ≡ 1
  Begins Y (component whole c) bytes r n = n ≡ 1
  Begins Y (sequence ts) bytes r n = (k : ℕ) × BeginsAll Y ts bytes r k × (n ≡ 1 + k)
  Begins Y (optional t) bytes r n = (k : ℕ) × Begins Y t bytes r k × (n ≡ 1 + k)
  Begins Y (first_of ts) bytes r n = (k : ℕ) × BeginsFirst Y ts bytes r k × (n ≡ 1 + k)

  -- Trees one after another visit n items, up to and including the first that doesn't match; 0 without trees.
  pub BeginsAll : ℕ → Trees → List ℕ → Record → ℕ → Type 0
  BeginsAll Y none bytes r n = n ≡ 0
  BeginsAll Y (more t ts) bytes r n =
      (k : ℕ) × Begins Y t bytes r k × ((NoReading Y t bytes r × (n ≡ k))
      ⊎ ((mid : List ℕ) × (q : Record) × Reads Y t bytes r mid q × (m : ℕ) × BeginsAll Y ts mid q m × (n ≡ k + m)))

  -- Alternatives visit n items, up to and including the first that matches; 0 without alternatives.
  pub BeginsFirst : ℕ → Trees → List ℕ → Record → ℕ → Type 0
  BeginsFirst Y none bytes r n = n ≡ 0
  BeginsFirst Y (more t ts) bytes r n =
      (k : ℕ) × Begins Y t bytes r k × (((mid : List ℕ) × (q : Record) × Reads Y t bytes r mid q × (n ≡ k))
      ⊎ (NoReading Y t bytes r × (m : ℕ) × BeginsFirst Y ts bytes r m × (n ≡ k + m)))

-- a count of 64 bits plus a number, or 2 ^ 64 - 1 if the sum is greater
abbrev pub raised : ℕ → ℕ → ℕ
raised old n = old + min n (2 ^ 64 - 1 - old)

-- The count rises from `old` to `new` by a number that satisfies `is_begun` and is at most `most`; it stops at
-- 2 ^ 64 - 1.
pub record Rises (is_begun : ℕ → Type 0) (most old new : ℕ) : Type 0 where
  pub begun : ℕ
  pub begins : is_begun begun
  pub within : begun ≤ most
  pub rises : new ≡ raised old begun

-- The count rises by the number of items that the tree visits, at most its number of nodes.
abbrev pub Counts : ℕ → Tree → List ℕ → Record → ℕ → ℕ → Type 0
Counts Y t bytes r = Rises (Begins Y t bytes r) (places t)

-- The count rises by the number of items that trees in turn visit, without the list itself.
abbrev pub CountsAll : ℕ → Trees → List ℕ → Record → ℕ → ℕ → Type 0
CountsAll Y ts bytes r = Rises (BeginsAll Y ts bytes r) (places_of_all ts)
