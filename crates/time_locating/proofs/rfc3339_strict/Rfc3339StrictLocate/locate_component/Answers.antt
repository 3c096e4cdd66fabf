use Rattle.time_parsing.specs.Outcome.{begun}
use Rattle.time_locating.proofs.StrictTexts.{marked}
use Rattle.time_locating.proofs.rfc3339_strict.Rfc3339StrictLocate.locate_component.Goals as goal

pub returns : goal.returns
returns c =
    marked c.args.input.now c.strict_text.result.now (begun c.args.defaults) c.args.name.now c.locate_component.result
    c.strict_text.ensures c.locate_component.ensures
