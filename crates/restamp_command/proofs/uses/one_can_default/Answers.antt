use Rattle.std.proofs.Common.{◌≡◌, false, rules, tests}
use Rattle.std.proofs.lemmas.Iterator.{YieldsList-from_slice}
use Rattle.std.proofs.lemmas.Iterator.Search.{any_from_yields_List}
use Rattle.restamp_formats.specs.MissingField.{can_default}
use Rattle.restamp_command.proofs.uses.one_can_default.Goals as goal

pub returns-else-can_default : goal.returns-else-can_default
returns-else-can_default c =
    let none : can_default c.args.part c.args.first.now ≡ false = search rules in
    rw none (any_from_yields_List (can_default c.args.part) _ _ _ c.any.ensures.ran (YieldsList-from_slice c.args.others.now cc)
    (λ x b q k. search (rules, tests)))
