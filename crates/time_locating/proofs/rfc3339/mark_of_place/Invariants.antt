use Rattle.std.proofs.Common.{ℕ, List, drop, true}
use Rattle.time_readers.specs.Rfc3339.{PlaceSyntax, HasForm, fault, nothing_read, places}
use Rattle.time_readers.specs.declared.rfc3339.Numbers.{Numbers}
use Rattle.time_locating.specs.Marks.{at_once}
use Rattle.time_locating.proofs.Rfc3339Places.{InUtc}
use Rattle.time_locating.proofs.WholeTexts.{Left}
use Rattle.time_locating.proofs.rfc3339.mark_of_place.Given as goal

abbrev pub invariant-loop-place : goal.invariant-loop-place
invariant-loop-place l =
    (rest : List ℕ) (n : Numbers) → HasForm true l.input rest n
    → Left (PlaceSyntax true) at_once fault l.name InUtc places nothing_read l.input (drop l.place-index places) l.rest l.is_utc
