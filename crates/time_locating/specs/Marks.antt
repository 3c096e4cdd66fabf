-- Where the components that a tree reads begin. A mark is how many bytes are left at the
-- start of the last component of a name, or nothing if none of that name is read.
use Rattle.time_values.specs.Calendar.{greatest_year}
use Rattle.std.specs.Prelude.{◌≡◌, ℕ, ◌⊎◌, List, length, codes, Bool, false, ◌||◌, Option, None, ◌≢◌, [], ◌∷◌, true, ◌&&◌, nat_lt, Some}
use Rattle.std.specs.Option.{option_or}
use Rattle.std.specs.Str.{bytes_eq}
use Rattle.time_values.specs.Refusal.{Refusal, component as of_component}
use Rattle.time_digits.specs.Digits.{Cut}
use Rattle.time_components.specs.declared.format_description.Component.{Component}
use Rattle.time_components.specs.declared.format_description.Component.TheVariants as named
use Rattle.time_components.specs.Tree.{Tree, Trees, literal, component, sequence, optional, first_of, none, more}
use Rattle.time_readers.specs.IsoTimes.{when}
use Rattle.time_readers.specs.Readers.{Format, MatchesPlaces, StopsAt}
use Rattle.time_record.specs.Components.{component_fault}
use Rattle.time_record.specs.Reading.{Reads, NoReading}
use Rattle.time_record.specs.Record.{Record}
use Rattle.time_locating.specs.Located.{Marking}
use Rattle.time_locating.specs.Misses.{Miss, Expectation, missed, the_end}

-- whether the error is an invalid component of that name
abbrev pub has_name : List ℕ → Refusal → Bool
has_name name (of_component other) = bytes_eq name other
has_name name e = false

-- Whether errors call the component by that name. An ISO 8601 week has two names: that of the error of its text, and
-- that of the error of its date.
abbrev pub is_named : List ℕ → Component → Bool
is_named name (named.WeekNumberIso m) = bytes_eq name (codes "week number") || bytes_eq name (codes "week")
is_named name c = has_name name (component_fault c)

unfoldable mutual
  -- This is the mark, if the tree is read from the bytes over the record.
  pub Marks : List ℕ → Tree → List ℕ → Record → Option ℕ → Type 0
  Marks name (literal t) bytes r mark = mark ≡ None
  Marks name (component whole c) bytes r mark = mark ≡ when (is_named name c) (length bytes)
  Marks name (sequence ts) bytes r mark = MarksAll name ts bytes r mark
  Marks name (optional t) bytes r mark =
      ((rest : List ℕ) × (q : Record) × Reads greatest_year t bytes r rest q × Marks name t bytes r mark)
      ⊎ (NoReading greatest_year t bytes r × (mark ≡ None))
  Marks name (first_of ts) bytes r mark = MarksFirst name ts bytes r mark

  -- the mark of trees that match in turn: that of the last tree with a mark
  pub MarksAll : List ℕ → Trees → List ℕ → Record → Option ℕ → Type 0
  MarksAll name none bytes r mark = mark ≡ None
  MarksAll name (more t ts) bytes r mark =
      (here : Option ℕ) × Marks name t bytes r here
      × (mid : List ℕ) × (q : Record) × Reads greatest_year t bytes r mid q
      × (later : Option ℕ) × MarksAll name ts mid q later × (mark ≡ option_or later here)

  -- the mark of alternatives: that of the first that matches, or none if none matches
  pub MarksFirst : List ℕ → Trees → List ℕ → Record → Option ℕ → Type 0
  MarksFirst name none bytes r mark = mark ≡ None
  MarksFirst name (more t ts) bytes r mark =
      ((mid : List ℕ) × (q : Record) × Reads greatest_year t bytes r mid q × Marks name t bytes r mark)
      ⊎ (NoReading greatest_year t bytes r × MarksFirst name ts bytes r mark)

-- How many bytes are left where the last component of that name begins, if the tree reads a front of the text; or none.
abbrev pub MarksTree : Tree → Marking
MarksTree t name bytes r mark = Marks name (optional t) bytes r mark

-- ---- The place of a text that a format by places rejects, and the start of a component in one that it reads

-- for a place and the bytes that are left at its start: the bytes that are left where the expected text begins, or
-- should begin
abbrev pub Beginning : Type 0 → Type 0
Beginning P = P → List ℕ → List ℕ

-- the expected text begins at the start of its place
abbrev pub at_once : {P : Type 0} → Beginning P
at_once p bytes = bytes

-- The miss at the first place that doesn't match, where its expected text should begin. If all places match and bytes
-- remain, it is the miss of the end, at the first byte too many.
abbrev pub LocatesPlace :
    {P N : Type 0} → Format P N → List P → N → Beginning P → (P → Expectation) → List ℕ → Miss → Type 0
LocatesPlace {P} {N} A ps start expected_from expected_at bytes m =
    ((p : P) × (stop : StopsAt A ps start bytes p)
    × (m ≡ missed (length (expected_from p stop.mid)) (expected_at p)))
    ⊎ ((rest : List ℕ) × (n : N) × MatchesPlaces A ps start bytes rest n × (rest ≢ [])
    × (m ≡ missed (length rest) the_end))

-- whether a place with that error has the name, and its text isn't empty: `rest`, after the place, is shorter than
-- `bytes`
abbrev pub is_place_of : List ℕ → Refusal → List ℕ → List ℕ → Bool
is_place_of name refusal bytes rest = nat_lt (length rest) (length bytes) && has_name name refusal

-- The mark of that name in places that match in turn: how many bytes are left where the expected text begins of the
-- first place of that name whose text isn't empty. None if there is no such place.
unfoldable pub MarksPlaces :
    {P N : Type 0} → Format P N → Beginning P → (P → Refusal) → List ℕ → List P → N → List ℕ → Option ℕ → Type 0
MarksPlaces A expected_from fault name [] n bytes mark = mark ≡ None
MarksPlaces {P} {N} A expected_from fault name (p ∷ ps) n bytes mark =
    (mid : List ℕ) × (k : N) × Cut (A p n) bytes mid k
    × (((is_place_of name (fault p) bytes mid ≡ true) × (mark ≡ Some (length (expected_from p bytes))))
    ⊎ ((is_place_of name (fault p) bytes mid ≡ false) × MarksPlaces A expected_from fault name ps k mid mark))

-- How many bytes are left where the text of that name begins; none if it is empty or absent, or a place doesn't match.
abbrev pub MarksText :
    {P N : Type 0} → Format P N → Beginning P → (P → Refusal) → List P → N → List ℕ → List ℕ → Option ℕ → Type 0
MarksText {P} {N} A expected_from fault ps start name bytes mark =
    (((p : P) × StopsAt A ps start bytes p) × (mark ≡ None))
    ⊎ (((rest : List ℕ) × (n : N) × MatchesPlaces A ps start bytes rest n)
    × MarksPlaces A expected_from fault name ps start bytes mark)
