-- What isn't there when a tree is read, and where.
--
-- A miss is a leaf that is tried and doesn't match: a component at its start, or a literal at its first byte that isn't
-- there. If its tree has an error, a list of misses begins with the one that the error names: in a sequence the misses
-- of later trees precede those of earlier ones, and in a choice those of earlier trees precede those of later ones.
use Rattle.time_values.specs.Calendar.{greatest_year}
use Rattle.std.specs.Prelude.{◌≡◌, ◌≢◌, ◌==◌, ℕ, ◌⊎◌, List, [], ◌∷◌, ◌++◌, length, Option, Some, None, nat_lt, if◌then◌else◌}
use Rattle.time_values.specs.Refusal.{Refusal, component as of_component}
use Rattle.time_components.specs.declared.format_description.Component.{Component}
use Rattle.time_components.specs.Tree.{Tree, Trees, literal, component, sequence, optional, first_of, none, more}
use Rattle.time_record.specs.Components.{component_fault}
use Rattle.time_record.specs.Reading.{Reads, NoReading}
use Rattle.time_record.specs.Record.{Record}

-- what was expected: these bytes, the component of that name, or the end of the text
pub data Expectation : Type 0 where
  these_bytes : List ℕ → Expectation
  named : List ℕ → Expectation
  the_end : Expectation

-- a miss: how many bytes were left where the expected text isn't there, and what was expected
pub record Miss : Type 0 where
  pub left : ℕ
  pub wanted : Expectation

-- the miss of this expectation with n bytes left
abbrev pub missed : ℕ → Expectation → Miss
missed n w = record { left = n; wanted = w }

-- what is expected at a component with that error: the component that it names, or the end for any other error
abbrev pub expected_of : Refusal → Expectation
expected_of (of_component name) = named name
expected_of _ = the_end

-- what a component expects: a component of its name, or the end of the text for an `End`
abbrev pub expected_by : Component → Expectation
expected_by c = expected_of (component_fault c)

-- a map from the rest of a literal, which begins with its first byte that doesn't match, to the bytes that are reported
abbrev pub LiteralReport : Type 0
LiteralReport = List ℕ → List ℕ

-- all bytes of a literal's rest are reported
abbrev pub all_bytes : LiteralReport
all_bytes text = text

-- only the first byte is reported, since a `Description` or `Prepared` stores each byte of a literal as its own step
abbrev pub first_byte : LiteralReport
first_byte [] = []
first_byte (b ∷ text) = b ∷ []

-- A literal with which the bytes begin is no miss. Any other is missed at its first byte that isn't there.
abbrev pub literal_misses : LiteralReport → List ℕ → List ℕ → List Miss
literal_misses told [] bytes = []
literal_misses told (t ∷ text) [] = missed 0 (these_bytes (told (t ∷ text))) ∷ []
literal_misses told (t ∷ text) (b ∷ bytes) =
    if b == t then literal_misses told text bytes
    else missed (length (b ∷ bytes)) (these_bytes (told (t ∷ text))) ∷ []

-- no misses if the tree, a component, matches; and otherwise one miss of what is wanted, at its start
abbrev pub MissesLeaf : Tree → Expectation → List ℕ → Record → List Miss → Type 0
MissesLeaf t wanted bytes r ms =
    (((rest : List ℕ) × (q : Record) × Reads greatest_year t bytes r rest q) × (ms ≡ []))
    ⊎ (NoReading greatest_year t bytes r × (ms ≡ missed (length bytes) wanted ∷ []))

unfoldable mutual
  -- These are the misses, if the tree is read from the bytes over the record, or known not to match.
  pub Misses : LiteralReport → Tree → List ℕ → Record → List Miss → Type 0
  Misses told (literal t) bytes r ms = ms ≡ literal_misses told t bytes
  Misses told (component whole c) bytes r ms = MissesLeaf (component whole c) (expected_by c) bytes r ms
  Misses told (sequence ts) bytes r ms = MissesAll told ts bytes r ms
  Misses told (optional t) bytes r ms = Misses told t bytes r ms
  Misses told (first_of ts) bytes r ms = MissesFirst told ts bytes r ms

  -- the misses of a sequence, up to and including the first tree that doesn't match; those of later trees come first
  pub MissesAll : LiteralReport → Trees → List ℕ → Record → List Miss → Type 0
  MissesAll told none bytes r ms = ms ≡ []
  MissesAll told (more t ts) bytes r ms =
      (here : List Miss) × Misses told t bytes r here × ((NoReading greatest_year t bytes r × (ms ≡ here))
      ⊎ ((mid : List ℕ) × (q : Record) × Reads greatest_year t bytes r mid q
      × (later : List Miss) × MissesAll told ts mid q later × (ms ≡ later ++ here)))

  -- the misses of a choice, up to and including the first tree that matches; those of earlier trees come first
  pub MissesFirst : LiteralReport → Trees → List ℕ → Record → List Miss → Type 0
  MissesFirst told none bytes r ms = ms ≡ []
  MissesFirst told (more t ts) bytes r ms =
      (here : List Miss) × Misses told t bytes r here
      × (((mid : List ℕ) × (q : Record) × Reads greatest_year t bytes r mid q × (ms ≡ here))
      ⊎ (NoReading greatest_year t bytes r × (later : List Miss) × MissesFirst told ts bytes r later ×
      (ms ≡ here ++ later)))

-- The misses of a text that isn't read whole: those of the tree, and before them the end of the text, if the tree reads
-- a front and bytes remain.
abbrev pub MissesText : LiteralReport → Tree → List ℕ → Record → List Miss → Type 0
MissesText told t bytes r ms =
    (NoReading greatest_year t bytes r × Misses told t bytes r ms)
    ⊎ ((rest : List ℕ) × (q : Record) × Reads greatest_year t bytes r rest q × (rest ≢ [])
    × (inside : List Miss) × Misses told t bytes r inside × (ms ≡ missed (length rest) the_end ∷ inside))

-- the first miss, or the second if that leaves fewer bytes
abbrev pub further_of : Miss → Miss → Miss
further_of m n = if nat_lt n.left m.left then n else m

-- the first miss, or the second if it leaves fewer bytes or is the only one; none without either
abbrev pub further : Option Miss → Option Miss → Option Miss
further None n = n
further (Some m) None = Some m
further (Some m) (Some n) = Some (further_of m n)

-- the first of the misses that leave the fewest bytes, or none for an empty list
abbrev pub furthest : List Miss → Option Miss
furthest [] = None
furthest (m ∷ ms) = further (Some m) (furthest ms)

-- `miss` is the furthest of a list of misses that has the property, or none if the list is empty
abbrev pub IsFurthest : (List Miss → Type 0) → Option Miss → Type 0
IsFurthest are_misses miss = (ms : List Miss) × are_misses ms × (miss ≡ furthest ms)

-- The place of a text with this rest (none if no prefix is read) and this furthest miss. It is none if the rest is
-- empty. If bytes remain, it is the end, unless the miss leaves fewer bytes. If no prefix is read, it is the miss.
abbrev pub place_after : Option (List ℕ) → Option Miss → Option Miss
place_after None miss = miss
place_after (Some []) miss = None
place_after (Some (b ∷ rest)) miss = further (Some (missed (length (b ∷ rest)) the_end)) miss

-- The place of a text that a tree doesn't read whole: the furthest of the text's misses.
abbrev pub LocatesTree : LiteralReport → Tree → List ℕ → Record → Miss → Type 0
LocatesTree told t bytes r m = IsFurthest (MissesText told t bytes r) (Some m)
