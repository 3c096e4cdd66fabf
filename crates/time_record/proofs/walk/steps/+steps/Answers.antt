use Rattle.std.proofs.Common.{ap, sym, subst, ◌∙◌, length, drop, ◌-◌, refl, arith, length-take, length-drop}
use Rattle.time_values.specs.Calendar.{greatest_year}
use Rattle.time_components.specs.Tree.{steps_after, steps_trees, tree_at, more}
use Rattle.time_record.specs.Reading.{raised}
use Rattle.time_record.proofs.Counting.{Chooses-start, Chooses-reads, Chooses-counts, Chooses-refused, Chooses-fault, Chooses-nothing}
use Rattle.time_record.proofs.Counting.{Chooses-counts_end, Counts-sequence}
use Rattle.time_record.proofs.WalkSteps.{behind_first, first_item, steps_trees-end, Resumes-end, Resumes-refused, Walked, Walked-counts, Walked-counts_leaf}
use Rattle.time_record.proofs.WalkSteps.{Walked-counts_refused, Walked-further, Walked-reads, raised_further}
use Rattle.time_record.proofs.walk.steps.+steps.Goals as goal

pub walk_group-returns-in-Optional-clause-counts : goal.walk_group-returns-in-Optional-clause-counts
walk_group-returns-in-Optional-clause-counts t c =
    rw c.in-Optional.is (c.begin.ensures.optional _ _ _ _ c.walk_optional.ensures.counts)

pub walk_list-returns-in_default-clause-answers : goal.walk_list-returns-in_default-clause-answers
walk_list-returns-in_default-clause-answers t c =
    let counted = c.add.ensures ∙ raised_further _ _ _ _ c.read_steps.ensures.fewer c.loop-later.invariant.2 in
    let w = Walked-further c.loop-later.invariant.0 _ _ c.read_steps.ensures.goes counted in
    Resumes-end w.goes (steps_trees-end c.read_steps.result.0.now (omega arith))

pub walk_list-returns-in_default-clause-counts : goal.walk_list-returns-in_default-clause-counts
walk_list-returns-in_default-clause-counts t c =
    let counted = c.add.ensures ∙ raised_further _ _ _ _ c.read_steps.ensures.fewer c.loop-later.invariant.2 in
    let w = Walked-further c.loop-later.invariant.0 _ _ c.read_steps.ensures.goes counted in
    Counts-sequence greatest_year c.args.input.now c.args.parsed.now c.args.tries.now _ _ refl _
    (Walked-counts w (steps_trees-end c.read_steps.result.0.now (omega arith)))

pub walk_list-returns-in-Some-clause-answers : goal.walk_list-returns-in-Some-clause-answers
walk_list-returns-in-Some-clause-answers t c =
    let counted = c.add.ensures ∙ raised_further _ _ _ _ c.read_steps.ensures.fewer c.loop-later.invariant.2 in
    let w = Walked-further c.loop-later.invariant.0 _ _ c.read_steps.ensures.goes counted in
    let leaf = rw c.in-Some.is at c.read_steps.ensures.fault in
    (Resumes-refused w.goes leaf.leaf leaf.later leaf.is leaf.refuses, refl)

pub walk_list-returns-in-Some-clause-counts : goal.walk_list-returns-in-Some-clause-counts
walk_list-returns-in-Some-clause-counts t c =
    let counted = c.add.ensures ∙ raised_further _ _ _ _ c.read_steps.ensures.fewer c.loop-later.invariant.2 in
    let w = Walked-further c.loop-later.invariant.0 _ _ c.read_steps.ensures.goes counted in
    let leaf = rw c.in-Some.is at c.read_steps.ensures.fault in
    Counts-sequence greatest_year c.args.input.now c.args.parsed.now c.args.tries.now _ _ refl _
    (Walked-counts_leaf w leaf _ c.add-in-Some.ensures)

pub walk_list-returns-in-Err-clause-answers : goal.walk_list-returns-in-Err-clause-answers
walk_list-returns-in-Err-clause-answers t c =
    let left = c.read_steps.result.0.now in
    let behind = behind_first left in
    let x = c.step-item.result in
    let counted = c.add.ensures ∙ raised_further _ _ _ _ c.read_steps.ensures.fewer c.loop-later.invariant.2 in
    let w = Walked-further c.loop-later.invariant.0 _ _ c.read_steps.ensures.goes counted in
    let is = first_item left x (omega arith) c.step-item.is in
    (Resumes-refused w.goes (tree_at steps_trees x behind) (steps_trees (steps_after x behind)) is c.in-Err.ensures.answers.0, refl)

pub walk_list-returns-in-Err-clause-counts : goal.walk_list-returns-in-Err-clause-counts
walk_list-returns-in-Err-clause-counts t c =
    let left = c.read_steps.result.0.now in
    let behind = behind_first left in
    let x = c.step-item.result in
    let counted = c.add.ensures ∙ raised_further _ _ _ _ c.read_steps.ensures.fewer c.loop-later.invariant.2 in
    let w = Walked-further c.loop-later.invariant.0 _ _ c.read_steps.ensures.goes counted in
    let is = first_item left x (omega arith) c.step-item.is in
    Counts-sequence greatest_year c.args.input.now c.args.parsed.now c.args.tries.now _ _ refl _
    (Walked-counts_refused w (tree_at steps_trees x behind) (steps_trees (steps_after x behind)) is
    _ c.in-Err.ensures.counts c.in-Err.ensures.answers.0.unread)

pub walk_list-loop-later-preserved : goal.walk_list-loop-later-preserved
walk_list-loop-later-preserved t c =
    let left = c.read_steps.result.0.now in
    let x = c.step-item.result in
    let after = c.steps_after-after.result.now in
    let item = tree_at steps_trees x (behind_first left) in
    let counted = c.add.ensures ∙ raised_further _ _ _ _ c.read_steps.ensures.fewer c.loop-later.invariant.2 in
    let w = Walked-further c.loop-later.invariant.0 _ _ c.read_steps.ensures.goes counted in
    let is = first_item left x (omega arith) c.step-item.is ∙ ap (λ ys. more item (steps_trees ys)) (sym c.steps_after-after.ensures.after) in (
      subst (λ n. Walked greatest_year (steps_trees c.args.steps.now) c.args.input.now c.args.parsed.now (steps_trees after) c.in-Ok.more.now
          c.walk_item.new.parsed (raised c.args.tries.now 1) n)
          (omega arith) (Walked-reads w item (steps_trees after) is _ c.in-Ok.ensures.counts c.in-Ok.ensures.answers),
      omega (arith, length-take (length left - 1) (drop 1 left), length-drop 1 left),
      omega arith,
    )

pub walk_first-returns-in_default-clause-answers : goal.walk_first-returns-in_default-clause-answers
walk_first-returns-in_default-clause-answers t c =
    let all = steps_trees c.args.steps.now in
    Chooses-nothing (Chooses-start greatest_year all c.args.input.now c.args.parsed.now c.args.tries.now) (steps_trees-end c.args.steps.now (omega arith)) refl

pub walk_first-returns-in_default-clause-counts : goal.walk_first-returns-in_default-clause-counts
walk_first-returns-in_default-clause-counts t c =
    let all = steps_trees c.args.steps.now in
    Chooses-counts_end (Chooses-start greatest_year all c.args.input.now c.args.parsed.now c.args.tries.now) (steps_trees-end c.args.steps.now (omega arith))

pub walk_first-returns-in-Ok-clause-answers : goal.walk_first-returns-in-Ok-clause-answers
walk_first-returns-in-Ok-clause-answers t c =
    let steps = c.args.steps.now in
    let behind = behind_first steps in
    let x = c.step-item.result in
    let start = Chooses-start greatest_year (steps_trees steps) c.args.input.now c.args.parsed.now c.args.tries.now in
    let is = first_item steps x (omega arith) c.step-item.is in
    Chooses-reads start (tree_at steps_trees x behind) (steps_trees (steps_after x behind)) is _ _ c.in-Ok.ensures.answers

pub walk_first-returns-in-Ok-clause-counts : goal.walk_first-returns-in-Ok-clause-counts
walk_first-returns-in-Ok-clause-counts t c =
    let steps = c.args.steps.now in
    let behind = behind_first steps in
    let x = c.step-item.result in
    let start = Chooses-start greatest_year (steps_trees steps) c.args.input.now c.args.parsed.now c.args.tries.now in
    let is = first_item steps x (omega arith) c.step-item.is in
    Chooses-counts start (tree_at steps_trees x behind) (steps_trees (steps_after x behind)) is
    _ c.in-Ok.ensures.counts _ _ c.in-Ok.ensures.answers

pub walk_first-loop-left-init : goal.walk_first-loop-left-init
walk_first-loop-left-init t c =
    let steps = c.args.steps.now in
    let x = c.step-item.result in
    let item = tree_at steps_trees x (behind_first steps) in
    let start = Chooses-start greatest_year (steps_trees steps) c.args.input.now c.args.parsed.now c.args.tries.now in
    let is = first_item steps x (omega arith) c.step-item.is ∙ ap (λ ys. more item (steps_trees ys)) (sym c.steps_after-left.ensures.after) in (
      Chooses-refused start item (steps_trees c.steps_after-left.result.now) is _ c.in-Err.ensures.counts _ c.in-Err.ensures.answers refl,
      omega (arith, length-take (length steps - 1) (drop 1 steps), length-drop 1 steps),
    )

pub walk_first-returns-in-Ok-walk_item-clause-answers : goal.walk_first-returns-in-Ok-walk_item-clause-answers
walk_first-returns-in-Ok-walk_item-clause-answers t c =
    let left = c.loop-left.left.now in
    let behind = behind_first left in
    let x = c.step-item-in-loop-left.result in
    let is = first_item left x (omega arith) c.step-item-in-loop-left.is in
    Chooses-reads c.loop-left.invariant.0 (tree_at steps_trees x behind) (steps_trees (steps_after x behind)) is _ _ c.in-Ok-walk_item.ensures.answers

pub walk_first-returns-in-Ok-walk_item-clause-counts : goal.walk_first-returns-in-Ok-walk_item-clause-counts
walk_first-returns-in-Ok-walk_item-clause-counts t c =
    let left = c.loop-left.left.now in
    let behind = behind_first left in
    let x = c.step-item-in-loop-left.result in
    let is = first_item left x (omega arith) c.step-item-in-loop-left.is in
    Chooses-counts c.loop-left.invariant.0 (tree_at steps_trees x behind) (steps_trees (steps_after x behind)) is
    _ c.in-Ok-walk_item.ensures.counts _ _ c.in-Ok-walk_item.ensures.answers

pub walk_first-loop-left-preserved : goal.walk_first-loop-left-preserved
walk_first-loop-left-preserved t c =
    let left = c.loop-left.left.now in
    let x = c.step-item-in-loop-left.result in
    let after = c.steps_after-left-in-len1-up-left in
    let item = tree_at steps_trees x (behind_first left) in
    let is = first_item left x (omega arith) c.step-item-in-loop-left.is ∙ ap (λ ys. more item (steps_trees ys)) (sym after.ensures.after) in (
      Chooses-refused c.loop-left.invariant.0 item (steps_trees after.result.now) is _ c.in_default-walk_item.ensures.counts
          _ c.in_default-walk_item.ensures.answers refl,
      omega (arith, length-take (length left - 1) (drop 1 left), length-drop 1 left),
    )

pub walk_first-returns-clause-answers : goal.walk_first-returns-clause-answers
walk_first-returns-clause-answers t c = Chooses-fault c.loop-left.invariant.0 _ (steps_trees-end c.loop-left.left.now (omega arith)) refl

pub walk_first-returns-clause-counts : goal.walk_first-returns-clause-counts
walk_first-returns-clause-counts t c = Chooses-counts_end c.loop-left.invariant.0 (steps_trees-end c.loop-left.left.now (omega arith))
