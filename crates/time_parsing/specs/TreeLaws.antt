-- Laws about reading trees. `Y` is the greatest year.
use Rattle.std.specs.Prelude.{◌≡◌, ◌↔◌, ◌⊎◌, ℕ, List, [], ◌∷◌, ◌++◌, Result, Ok, Err}
use Rattle.std.specs.Borrow.{Bor}
use Rattle.time_values.specs.Refusal.{Refusal, refusal_of_description}
use Rattle.time_values.specs.declared.error.ParseFromDescription.{ParseFromDescription}
use Rattle.time_components.specs.Tree.{Tree, sequence, optional, first_of, none, trees, Trees, literal, component, more}
use Rattle.time_record.specs.Reading.{Answers, Clean, unmarked, Reads, Refuses}
use Rattle.time_record.specs.Record.{Record, IsInRanges}
use Rattle.time_parsing.specs.Outcome.{Reading}

-- A list that joins two lists has the readings of the first, and then of the second from the rest and the record after
-- the first.
abbrev pub JoinedReads : ℕ → Type 0
JoinedReads Y =
    (xs ys : List Tree) (bytes : List ℕ) (r : Record) (rest : List ℕ) (q : Record)
    → Reads Y (sequence (trees (xs ++ ys))) bytes r rest q
    ↔ ((mid : List ℕ) × (m : Record) × Reads Y (sequence (trees xs)) bytes r mid m
    × Reads Y (sequence (trees ys)) mid m rest q)

-- the first list has this error, or the second has it from the rest and the record after the first
abbrev pub EitherRefuses : ℕ → List Tree → List Tree → List ℕ → Record → Refusal → Type 0
EitherRefuses Y xs ys bytes r e =
    Refuses Y (sequence (trees xs)) bytes r e
    ⊎ ((mid : List ℕ) × (m : Record) × Reads Y (sequence (trees xs)) bytes r mid m
    × Refuses Y (sequence (trees ys)) mid m e)

-- The joined list has an error if and only if one of the two lists has it, by `EitherRefuses`.
abbrev pub JoinedRefuses : ℕ → Type 0
JoinedRefuses Y =
    (xs ys : List Tree) (bytes : List ℕ) (r : Record) (e : Refusal)
    → Refuses Y (sequence (trees (xs ++ ys))) bytes r e ↔ EitherRefuses Y xs ys bytes r e

-- the trees have equal readings and equal errors for these bytes and this record
pub record AreEquivalentOn (Y : ℕ) (t u : Tree) (bytes : List ℕ) (r : Record) : Type 0 where
  pub reads : (rest : List ℕ) (q : Record) → Reads Y t bytes r rest q ↔ Reads Y u bytes r rest q
  pub refuses : (e : Refusal) → Refuses Y t bytes r e ↔ Refuses Y u bytes r e

-- the trees have equal readings and equal errors for all bytes and records
abbrev pub AreEquivalent : ℕ → Tree → Tree → Type 0
AreEquivalent Y t u = (bytes : List ℕ) (r : Record) → AreEquivalentOn Y t u bytes r

-- A list inside a list may be flattened: both have equal readings and errors, whatever items are before and after it.
abbrev pub Flattens : ℕ → Type 0
Flattens Y =
    (before inside behind : List Tree)
    → AreEquivalent Y (sequence (trees (before ++ sequence (trees inside) ∷ behind)))
    (sequence (trees (before ++ (inside ++ behind))))

-- An optional tree has the readings and errors of a choice of it and the empty list, in that order.
abbrev pub OptionalAsFirst : ℕ → Type 0
OptionalAsFirst Y = (t : Tree) → AreEquivalent Y (optional t) (first_of (trees (t ∷ sequence none ∷ [])))

-- an item's result: the bytes of the rest, or the error viewed without the address of its text
abbrev pub told : Result (Bor (List ℕ)) ParseFromDescription → Result (List ℕ) Refusal
told (Ok rest) = Ok rest.now
told (Err e) = Err (refusal_of_description e)

-- If the first list is rejected, or the second on the bytes that the first leaves, a call for the joined list returns
-- that error, and the record is unchanged.
abbrev pub JoinedLeaves : ℕ → Type 0
JoinedLeaves Y =
    (xs ys : List Tree) (bytes : List ℕ) (old new : Record) (e : Refusal)
    (result : Result (Bor (List ℕ)) ParseFromDescription)
    → EitherRefuses Y xs ys bytes old e → Answers Y (sequence (trees (xs ++ ys))) bytes old result new
    → (told result ≡ Err e) × (new ≡ old)

-- Calls for equal trees, with the same bytes and the same record, have equal results and leave equal records.
abbrev pub HaveEqualResults : ℕ → Tree → Tree → Type 0
HaveEqualResults Y t u =
    (bytes : List ℕ) (old : Record) (result other : Result (Bor (List ℕ)) ParseFromDescription) (new other_new : Record)
    → t ≡ u → Answers Y t bytes old result new → Answers Y u bytes old other other_new
    → (told result ≡ told other) × (new ≡ other_new)

-- A tree with any components marked to end between UTF-8 characters, and that tree without the marks, are equivalent
-- on bytes and a record if no `Ignore` that the unmarked tree visits there ends inside a character.
abbrev pub WholeCharacters : ℕ → Type 0
WholeCharacters Y =
    (t u : Tree) (bytes : List ℕ) (r : Record) → unmarked t ≡ u → Clean Y u bytes r → AreEquivalentOn Y t u bytes r

-- The unparsed rest after any tree is a suffix of the bytes.
abbrev pub LeavesSuffix : ℕ → Type 0
LeavesSuffix Y =
    (t : Tree) (bytes : List ℕ) (r : Record) (rest : List ℕ) (q : Record)
    → Reads Y t bytes r rest q → (front : List ℕ) × (bytes ≡ front ++ rest)

-- ---- Readings that are kept in a wider range of years. `Y` is the greatest year of the narrower range, and `Z` of the
-- wider.

-- a tree that contains no optional tree and no choice, at any depth
abbrev mutual
  pub HasNoChoice : Tree → Type 0
  HasNoChoice (literal t) = Unit {0}
  HasNoChoice (component whole c) = Unit {0}
  HasNoChoice (sequence ts) = HaveNoChoice ts
  HasNoChoice (optional t) = ⊥
  HasNoChoice (first_of ts) = ⊥

  -- each of the trees is without an optional tree and without a choice
  pub HaveNoChoice : Trees → Type 0
  HaveNoChoice none = Unit {0}
  HaveNoChoice (more t ts) = HasNoChoice t × HaveNoChoice ts

-- If a tree contains neither an optional tree nor a choice, each of its readings with `Y` as greatest year is also one
-- with `Z` as greatest year, with equal rest and record.
abbrev pub KeepsReadings : ℕ → ℕ → Type 0
KeepsReadings Y Z =
    (t : Tree) → HasNoChoice t → (bytes : List ℕ) (r : Record) (rest : List ℕ) (q : Record)
    → Reads Y t bytes r rest q → Reads Z t bytes r rest q

-- Each text that the format parses whole by the reading `before` it parses whole by the reading `now`, with an equal
-- record.
abbrev pub KeepsTexts : Reading → Reading → Type 0
KeepsTexts before now = (bytes : List ℕ) (r q : Record) → before bytes r [] q → now bytes r [] q

-- If a record's values are in their ranges with `Y` as greatest year, they also are with `Z` as greatest year.
abbrev pub KeepsRecords : ℕ → ℕ → Type 0
KeepsRecords Y Z = (r : Record) → IsInRanges Y r → IsInRanges Z r
