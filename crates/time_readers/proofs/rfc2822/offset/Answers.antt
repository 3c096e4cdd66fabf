use Rattle.std.proofs.Common.{subst}
use Rattle.time_readers.specs.PlaceAnswers.{Walks}
use Rattle.time_readers.specs.Rfc2822.{PlaceSyntax, offset_places}
use Rattle.time_readers.proofs.rfc2822.offset.Goals as goal

pub returns-in-None : goal.returns-in-None
returns-in-None g c =
    subst (λ n. Walks (PlaceSyntax _) offset_places n c.args.input.now c.offset-in-None.result c.offset-in-None.new.numbers)
    c.in-None.ensures.stands c.offset-in-None.ensures
