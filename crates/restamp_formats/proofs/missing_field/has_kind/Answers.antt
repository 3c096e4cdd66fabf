use Rattle.std.proofs.Common.{◌∙◌, sym, rules, tests}
use Rattle.std.proofs.lemmas.Iterator.{YieldsList-from_slice, Search.any_from_yields_List}
use Rattle.restamp_formats.specs.MissingFieldSteps.{step_has}
use Rattle.restamp_formats.proofs.MissingFieldTrees.{row_has_kind}
use Rattle.restamp_formats.proofs.missing_field.has_kind.Goals as goal

pub returns : goal.returns
returns c =
    any_from_yields_List (step_has c.args.kind) _ _ _ c.any.ensures.ran (YieldsList-from_slice c.args.steps.now (cc)) (λ x b q k. search (rules, tests))
    ∙ sym (row_has_kind c.args.kind c.args.steps.now)
