use Rattle.std.proofs.Common.{inl, refl, true}
use Rattle.time_parsing.specs.Outcome.{begun}
use Rattle.time_readers.specs.Rfc2822.{PlaceSyntax, fault, nothing_read, places}
use Rattle.time_locating.specs.Rfc2822.{expected_from}
use Rattle.time_locating.proofs.MailParts.{expected_from-within}
use Rattle.time_locating.proofs.WholeTexts.{places_marked}
use Rattle.time_locating.proofs.rfc2822.Rfc2822Locate.locate_component.Goals as goal

pub returns-in-Ok : goal.returns-in-Ok
returns-in-Ok c =
    let form = c.in-Ok.ensures in
    rw c.index_of.ensures.text
    (places_marked (PlaceSyntax true) expected_from expected_from-within fault c.args.name.now places nothing_read c.args.input.now (begun c.args._defaults)
    _ _ c.mark_of_place.result form (c.mark_of_place.ensures _ _ form))

pub returns-in-Err : goal.returns-in-Err
returns-in-Err c = inl ((c.in-Err.field-0, c.in-Err.ensures), refl)
