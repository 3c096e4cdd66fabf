-- Where a text is rejected, over the readings of a format and the place of a text that it doesn't read whole.
use Rattle.std.specs.Prelude.{◌≡◌, ◌↔◌, ℕ, ◌+◌, ◌-◌, List, [], ◌∷◌, length, codes, MatchBool, Option, Some, None, Result, Ok, ◌++◌}
use Rattle.std.specs.Str.{bytes_eq}
use Rattle.time_values.specs.Refusal.{Refusal, range}
use Rattle.time_record.specs.Record.{Record}
use Rattle.time_parsing.specs.Outcome.{IsOutcome, IsWhole, Reading, Refusing, Resolving}
use Rattle.time_locating.specs.Misses.{Expectation, these_bytes, named, the_end, Miss, missed}
use Rattle.time_locating.specs.declared.located.Expected.{Expected}
use Rattle.time_locating.specs.declared.located.Expected.TheVariants.{Literal, Component, End}
use Rattle.time_locating.specs.declared.located.Located.{Located}
use Rattle.time_locating.specs.declared.mark.Miss.{Miss as Miss'}

-- what a call expected, viewed without the address of its bytes
abbrev pub wants : Expected → Expectation
wants (Literal text) = these_bytes text.now
wants (Component name) = named name.now
wants End = the_end

-- a call's miss, viewed without the address of its bytes, or none without a miss
abbrev pub erased_miss : Option Miss' → Option Miss
erased_miss None = None
erased_miss (Some m) = Some (missed m.left (wants m.expected))

-- for bytes that a format doesn't read whole over a record: the miss of their place, which is how many bytes are left
-- there, and what was expected
abbrev pub Locating : Type 1
Locating = List ℕ → Record → Miss → Type 0

-- The result is None if all bytes are read over the record `begin`, and otherwise the index of the place and what was
-- expected there.
abbrev pub IsLocated : Reading → Locating → List ℕ → Record → Option Located → Type 0
IsLocated reads locates bytes begin None = (r : Record) × reads bytes begin [] r
IsLocated reads locates bytes begin (Some at) =
    (m : Miss) × locates bytes begin m × (at.index + m.left ≡ length bytes) × (wants at.expected ≡ m.wanted)

-- for the name of a component, bytes and a record: how many bytes are left at the start of the last component of that
-- name that is read, or nothing if none is read
abbrev pub Marking : Type 1
Marking = List ℕ → List ℕ → Record → Option ℕ → Type 0

-- The result is None if no component of that name is read, and otherwise the index at which the last of them begins.
abbrev pub IsMarked : Marking → List ℕ → List ℕ → Record → Option ℕ → Type 0
IsMarked marks name bytes begin None = marks name bytes begin None
IsMarked marks name bytes begin (Some index) =
    (left : ℕ) × marks name bytes begin (Some left) × (index + left ≡ length bytes)

-- For a text, a record and a component's name, `marks` allows at most one mark: a count of bytes left, or none.
abbrev pub IsExactMark : Marking → Type 0
IsExactMark marks =
    (name bytes : List ℕ) (r : Record) (mark other : Option ℕ)
    → marks name bytes r mark → marks name bytes r other → mark ≡ other

-- The index of the component that an error calls out of range, given the index of the last component of its name, if
-- there is one: it is that index. The error of a week date that counts weeks from Sundays or Mondays names the ordinal;
-- if the text has no ordinal, the index is that of the week number, or none without one. For any other name without an
-- index it is none.
abbrev pub IsRangeAt : Marking → List ℕ → Record → List ℕ → Option ℕ → Option ℕ → Type 0
IsRangeAt marks bytes begin name (Some own) index = index ≡ Some own
IsRangeAt marks bytes begin name None index =
    MatchBool (bytes_eq name (codes "ordinal")) (IsMarked marks (codes "week number") bytes begin index) (index ≡ None)

-- the name of the component that the error calls out of range, or none for any other error
abbrev pub range_name : Refusal → Option (List ℕ)
range_name (range name conditional) = Some name
range_name e = None

-- The index of the error in a text that is read whole, given the name of the component that the error calls out of
-- range, if there is one: the index of that component, or for an ordinal in a text without one, of the week number. It
-- is none without a name, or if the text doesn't have the component.
abbrev pub IsValueAt : Marking → List ℕ → Record → Option (List ℕ) → Option ℕ → Type 0
IsValueAt marks bytes begin None index = index ≡ None
IsValueAt marks bytes begin (Some name) index =
    (own : Option ℕ) × IsMarked marks name bytes begin own × IsRangeAt marks bytes begin name own index

-- the index of a text's place; else that of the error's component (for an absent ordinal, of the week number), or none
abbrev pub IsRefusedAt : Marking → List ℕ → Record → Refusal → Option Located → Option ℕ → Type 0
IsRefusedAt marks bytes begin e (Some at) index = index ≡ Some at.index
IsRefusedAt marks bytes begin e None index = IsValueAt marks bytes begin (range_name e) index

-- The index of the error with which a parse rejects the bytes: that of the place, or else of the component that the
-- error calls out of range (of the week number, if that is an ordinal that the text doesn't have), or none.
abbrev pub IsErrorAt : Reading → Locating → Marking → List ℕ → Record → Refusal → Option ℕ → Type 0
IsErrorAt reads locates marks bytes begin e index =
    (place : Option Located) × IsLocated reads locates bytes begin place × IsRefusedAt marks bytes begin e place index

-- A text that is parsed over a record has at most one place of an error, and none if it is read whole.
pub record IsExactPlace (reads : Reading) (locates : Locating) : Type 0 where
  pub one_place : (bytes : List ℕ) (r : Record) (m n : Miss) → locates bytes r m → locates bytes r n → m ≡ n
  pub not_read : (bytes : List ℕ) (r q : Record) (m : Miss) → locates bytes r m → reads bytes r [] q → ⊥

-- a result's index, stored in `left`, and what was expected, without the address of its bytes; none without a result
abbrev pub erased_located : Option Located → Option Miss
erased_located None = None
erased_located (Some at) = Some (missed at.index (wants at.expected))

-- the index of that miss in a text of `all` bytes, stored in `left`, and what it expects, or none without a miss
abbrev pub place_in : ℕ → Option Miss → Option Miss
place_in all None = None
place_in all (Some m) = Some (missed (all - m.left) m.wanted)

-- the index of these unread bytes in a text of `all` bytes, stored in `left`, and the end; none if they are empty
abbrev pub end_of : ℕ → List ℕ → Option Miss
end_of all [] = None
end_of all (b ∷ rest) = Some (missed (all - length (b ∷ rest)) the_end)

-- any two results for a text over a record are both none, or equal in index and expectation
abbrev pub OneAnswer : Reading → Locating → Type 0
OneAnswer reads locates =
    (bytes : List ℕ) (begin : Record) (result other : Option Located)
    → IsLocated reads locates bytes begin result → IsLocated reads locates bytes begin other
    → erased_located result ≡ erased_located other

-- A text has no place if and only if the outcome of parsing it whole is a record, and not an error.
abbrev pub PlacesRefusals : Reading → Refusing → Locating → Type 0
PlacesRefusals reads refuses locates =
    (bytes : List ℕ) (begin : Record) (place : Option Located) (outcome : Result Record Refusal)
    → IsLocated reads locates bytes begin place → IsWhole reads refuses bytes begin outcome
    → (place ≡ None) ↔ ((r : Record) × (outcome ≡ Ok r))

-- A text has no place if and only if it is read whole and its outcome is the value or error of the resulting record.
abbrev pub PlacesOutcomes : {V : Type 0} → Resolving V → Reading → Refusing → Locating → Type 0
PlacesOutcomes {V} resolves reads refuses locates =
    (bytes : List ℕ) (begin : Record) (place : Option Located) (outcome : Result V Refusal)
    → IsLocated reads locates bytes begin place → IsOutcome resolves reads refuses bytes begin outcome
    → (place ≡ None) ↔ ((r : Record) × reads bytes begin [] r × resolves r outcome)

-- an error of a text over a record has at most one index
abbrev pub OneIndex : Reading → Locating → Marking → Type 0
OneIndex reads locates marks =
    (bytes : List ℕ) (begin : Record) (e : Refusal) (index other : Option ℕ)
    → IsErrorAt reads locates marks bytes begin e index → IsErrorAt reads locates marks bytes begin e other
    → index ≡ other

-- ---- How an expectation is printed

-- the text that is printed for an expectation; none for a literal, since nothing is stated of its escaped bytes
abbrev pub expected_text : Expected → Option (List ℕ)
expected_text (Literal bytes) = None
expected_text (Component name) = Some (codes "expected " ++ name.now)
expected_text End = Some (codes "expected the end")
