-- Laws about misses.
use Rattle.time_values.specs.Calendar.{greatest_year}
use Rattle.std.specs.Prelude.{◌≡◌, ◌<◌, ◌≤◌, ℕ, List, ◌∷◌, ◌++◌, Some, Err, All}
use Rattle.time_values.specs.Refusal.{Refusal, literal, component, trailing}
use Rattle.time_components.specs.Tree.{Tree}
use Rattle.time_record.specs.Reading.{Refuses}
use Rattle.time_record.specs.Record.{Record}
use Rattle.time_parsing.specs.Iso8601.{date_over}
use Rattle.time_locating.specs.Iso8601.{misses}
use Rattle.time_locating.specs.Misses.{Expectation, these_bytes, named, the_end, Miss, Misses, LiteralReport, furthest}

-- A tree has at most one list of misses for given bytes and a given record.
abbrev pub OneList : Type 0
OneList =
    (told : LiteralReport) (t : Tree) (bytes : List ℕ) (r : Record) (ms ns : List Miss)
    → Misses told t bytes r ms → Misses told t bytes r ns → ms ≡ ns

-- the error of a leaf that expects this and doesn't match: an invalid literal or component, or trailing characters
abbrev pub refusal_by : Expectation → Refusal
refusal_by (these_bytes text) = literal
refusal_by (named name) = component name
refusal_by the_end = trailing

-- If a tree rejects the bytes with an error, its list begins with a miss that has this error.
abbrev pub OwnMissFirst : Type 0
OwnMissFirst =
    (told : LiteralReport) (t : Tree) (bytes : List ℕ) (r : Record) (e : Refusal) (ms : List Miss)
    → Refuses greatest_year t bytes r e → Misses told t bytes r ms
    → (m : Miss) × (others : List Miss) × (ms ≡ m ∷ others) × (refusal_by m.wanted ≡ e)

-- No miss leaves fewer bytes than the furthest, and each miss before it in the list leaves more.
abbrev pub FurthestLeavesFewest : Type 0
FurthestLeavesFewest =
    (ms : List Miss) (m : Miss) → furthest ms ≡ Some m
    → (before after : List Miss) × (ms ≡ before ++ m ∷ after)
    × All (λ n. m.left < n.left) before × All (λ n. m.left ≤ n.left) after

-- The miss is in the list, and each miss before it leaves more bytes.
abbrev pub LeavesLeastSoFar : Miss → List Miss → Type 0
LeavesLeastSoFar m ms =
    (before after : List Miss) × (ms ≡ before ++ m ∷ after) × All (λ n. m.left < n.left) before

-- If the date of an ISO 8601 text is rejected with an error, one miss of the text has that error, and each miss before
-- it leaves more bytes. So that miss is the furthest unless a later one leaves fewer.
abbrev pub IsoOwnMiss : Type 0
IsoOwnMiss =
    (bytes : List ℕ) (r : Record) (e : Refusal) → date_over greatest_year bytes r ≡ Err e
    → (m : Miss) × LeavesLeastSoFar m (misses bytes r) × (refusal_by m.wanted ≡ e)
