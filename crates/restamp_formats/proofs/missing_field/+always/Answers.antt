use Rattle.std.proofs.Common.{length, sym, ◌∙◌, arith}
use Rattle.std.proofs.lemmas.Bool.{eqb-false, eqb-true}
use Rattle.restamp_formats.proofs.MissingFieldTrees.{one_always-end, one_always-step, each_always-end, each_always-step, choice_always-none, choice_always-some}
use Rattle.restamp_formats.proofs.missing_field.+always.Goals as goal

pub one_always-returns-in_default : goal.one_always-returns-in_default
one_always-returns-in_default t c = one_always-end c.args.part c.args.steps.now (omega arith)

pub one_always-returns-then-item_always : goal.one_always-returns-then-item_always
one_always-returns-then-item_always t c =
    let step = one_always-step c.args.part c.args.steps.now c.step-item.result (omega arith) c.step-item.is in grind arith

pub one_always-returns-else-item_always : goal.one_always-returns-else-item_always
one_always-returns-else-item_always t c =
    let step = one_always-step c.args.part c.args.steps.now c.step-item.result (omega arith) c.step-item.is in grind arith

pub each_always-returns-in_default : goal.each_always-returns-in_default
each_always-returns-in_default t c = each_always-end c.args.part c.args.steps.now (omega arith)

pub each_always-returns-then-item_always : goal.each_always-returns-then-item_always
each_always-returns-then-item_always t c =
    let step = each_always-step c.args.part c.args.steps.now c.step-item.result (omega arith) c.step-item.is in grind arith

pub each_always-returns-else-item_always : goal.each_always-returns-else-item_always
each_always-returns-else-item_always t c =
    let step = each_always-step c.args.part c.args.steps.now c.step-item.result (omega arith) c.step-item.is in grind arith

pub group_always-returns-then-not-is_empty : goal.group_always-returns-then-not-is_empty
group_always-returns-then-not-is_empty t c =
    let some = eqb-false (length c.args.inside.now) 0 (sym c.is_empty.ensures ∙ c.if-not-is_empty.true) in
    rw c.in-First.is (c.each_always.ensures ∙ choice_always-some c.args.part c.args.inside.now (omega (arith, some)))

pub group_always-returns-else-not-is_empty : goal.group_always-returns-else-not-is_empty
group_always-returns-else-not-is_empty t c =
    let none = eqb-true (length c.args.inside.now) 0 (sym c.is_empty.ensures ∙ c.if-not-is_empty.false) in
    rw (c.in-First.is, c.if-not-is_empty.false) (choice_always-none c.args.part c.args.inside.now (omega (arith, none)))
