use Rattle.std.proofs.Common.{subst}
use Rattle.time_readers.specs.PlaceAnswers.{Walks}
use Rattle.time_readers.specs.Rfc2822.{PlaceSyntax, to_offset_places}
use Rattle.time_readers.proofs.rfc2822.to_offset.Goals as goal

pub returns-in-None : goal.returns-in-None
returns-in-None g c =
    subst (λ n. Walks (PlaceSyntax _) to_offset_places n c.args.input.now c.to_offset_by_places.result c.to_offset_by_places.new.numbers)
    c.in-None.ensures.stands c.to_offset_by_places.ensures
