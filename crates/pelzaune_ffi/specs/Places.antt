-- Where a rejected text fails.
use Rattle.std.specs.Prelude.{◌≡◌, ℕ, List, [], ◌∷◌, Option, Some, None, Result, Ok, Err}
use Rattle.time_values.specs.Calendar.{greatest_year}
use Rattle.time_values.specs.Refusal as refusals
use Rattle.time_components.specs.Tree.{Tree}
use Rattle.time_descriptions.specs.Refusal.{Refusal}
use Rattle.time_record.specs.Reading.{Reads}
use Rattle.time_record.specs.Record.{empty}
use Rattle.time_parsing.specs.Outcome.{Reading}
use Rattle.time_parsing.specs.Rfc3339 as rfc3339
use Rattle.time_parsing.specs.Rfc2822 as rfc2822
use Rattle.time_parsing.specs.Iso8601 as iso8601
use Rattle.time_parsing.specs.Rfc3339Strict as strict
use Rattle.time_locating.specs.Located.{IsLocated, Locating, wants}
use Rattle.time_locating.specs.Misses.{LocatesTree, Expectation, first_byte, named, the_end, these_bytes}
use Rattle.time_locating.specs.Rfc3339 as places_3339
use Rattle.time_locating.specs.Rfc2822 as places_2822
use Rattle.time_locating.specs.Iso8601 as places_8601
use Rattle.time_locating.specs.Rfc3339Strict as places_strict
use Rattle.time_locating.specs.declared.located.Located.{Located}
use Rattle.pelzaune_ffi.specs.Described.{IsDescribed, fault_status}
use Rattle.pelzaune_ffi.specs.Status.{status_of, unknown_format, unknown_syntax}
use Rattle.pelzaune_ffi.specs.declared.descriptions.Syntax.{Syntax}
use Rattle.pelzaune_ffi.specs.declared.status.Format.{Format}
use Rattle.pelzaune_ffi.specs.declared.status.Format.TheVariants.{Rfc3339, Rfc2822, Iso8601, Rfc3339Strict}
use Rattle.pelzaune_ffi.specs.declared.locating.Place.{Place}

-- The parse error where this was expected: of a literal, of the named component, or of trailing bytes where it was the
-- end.
abbrev pub expected_refusal : Expectation → refusals.Refusal
expected_refusal (these_bytes text) = refusals.literal
expected_refusal (named name) = refusals.component name
expected_refusal the_end = refusals.trailing

-- The first byte, or 0 if there is none.
abbrev pub first_of : List ℕ → ℕ
first_of [] = 0
first_of (b ∷ text) = b

-- The first byte of the bytes that were expected, or 0 where a component or the end was.
abbrev pub expected_byte : Expectation → ℕ
expected_byte (these_bytes text) = first_of text
expected_byte (named name) = 0
expected_byte the_end = 0

-- Without a location, status 0, and the place is unchanged. Otherwise the status of what was expected, and the new
-- place has the index and the expected byte.
abbrev pub IsPlaceStored : Option Located → ℕ → Place → Place → Type 0
IsPlaceStored None status old new = (status ≡ 0) × (new ≡ old)
IsPlaceStored (Some at) status old new =
    (status ≡ status_of (expected_refusal (wants at.expected)))
    × (new ≡ record { index = at.index; byte = expected_byte (wants at.expected) })

-- The location of the text's mismatch, by what a format parses and locates, is stored. For a text that matches whole,
-- even with a date that doesn't exist, the status is 0, and nothing is stored.
abbrev pub LocatesBy : Reading → Locating → List ℕ → ℕ → Place → Place → Type 0
LocatesBy reads locates text status old new =
    (answer : Option Located) × IsLocated reads locates text empty answer × IsPlaceStored answer status old new

-- The location of the text's mismatch by the format is stored. For an unknown format, status 8 and nothing is stored.
abbrev pub StoresPlace : Option Format → List ℕ → ℕ → Place → Place → Type 0
StoresPlace (Some Rfc3339) text status old new =
    LocatesBy (rfc3339.Reads greatest_year) places_3339.Locates text status old new
StoresPlace (Some Rfc2822) text status old new =
    LocatesBy (rfc2822.Reads greatest_year) places_2822.Locates text status old new
StoresPlace (Some Iso8601) text status old new =
    LocatesBy (iso8601.Reads greatest_year) places_8601.Locates text status old new
StoresPlace (Some Rfc3339Strict) text status old new =
    LocatesBy (strict.Reads greatest_year) places_strict.Locates text status old new
StoresPlace None text status old new = (status ≡ unknown_format) × (new ≡ old)

-- The location of the text's mismatch by the described tree is stored. A malformed description has its fault's
-- status, and nothing is stored.
abbrev pub StoresPlaceByTree : Result Tree Refusal → List ℕ → ℕ → Place → Place → Type 0
StoresPlaceByTree (Ok tree) text status old new =
    LocatesBy (Reads greatest_year tree) (LocatesTree first_byte tree) text status old new
StoresPlaceByTree (Err e) text status old new = (status ≡ fault_status e) × (new ≡ old)

-- The location of the text's mismatch by a description in the syntax is stored. An unknown syntax has the status 17,
-- and nothing is stored.
abbrev pub StoresPlaceByDescription : Option Syntax → List ℕ → List ℕ → ℕ → Place → Place → Type 0
StoresPlaceByDescription (Some s) description text status old new =
    (described : Result Tree Refusal) × IsDescribed s description described
    × StoresPlaceByTree described text status old new
StoresPlaceByDescription None description text status old new = (status ≡ unknown_syntax) × (new ≡ old)
