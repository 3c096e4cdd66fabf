use Rattle.std.proofs.Common.{ℕ, List, drop, true}
use Rattle.time_readers.specs.Rfc2822.{PlaceSyntax, HasForm, fault, nothing_read, places}
use Rattle.time_readers.specs.declared.rfc2822.Numbers.{Numbers}
use Rattle.time_locating.specs.MailPlaces.{Agrees}
use Rattle.time_locating.specs.Rfc2822.{expected_from}
use Rattle.time_locating.proofs.WholeTexts.{Left}
use Rattle.time_locating.proofs.rfc2822.mark_of_place.Given as goal

abbrev pub invariant-loop-place : goal.invariant-loop-place
invariant-loop-place l =
    (rest : List ℕ) (n : Numbers) → HasForm true l.input rest n
    → Left (PlaceSyntax true) expected_from fault l.name Agrees places nothing_read l.input (drop l.place-index places) l.rest l.passed
