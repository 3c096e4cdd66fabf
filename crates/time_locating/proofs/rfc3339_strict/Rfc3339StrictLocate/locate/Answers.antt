use Rattle.time_parsing.specs.Outcome.{begun}
use Rattle.time_locating.proofs.StrictTexts.{located}
use Rattle.time_locating.proofs.rfc3339_strict.Rfc3339StrictLocate.locate.Goals as goal

pub returns : goal.returns
returns c =
    let begin = begun c.args._defaults in
    located c.args.input.now c.strict_text.result.now begin c.error_place.result c.strict_text.ensures (c.error_place.ensures begin)
