use Rattle.std.proofs.Common.{ap, ◌∙◌, length, drop, ◌-◌, arith, length-take, length-drop}
use Rattle.time_components.specs.Tree.{steps_after, steps_trees, tree_at, more}
use Rattle.time_record.proofs.WalkSteps.{behind_first, first_item, leaf_refused, Resumes-counted, Resumes-leaf}
use Rattle.time_record.proofs.walk.steps.read_steps.Goals as goal

pub loop-left-preserved : goal.loop-left-preserved
loop-left-preserved c =
    let left = c.loop-left.left.now in
    let behind = behind_first left in
    let item = tree_at steps_trees c.step-item.result behind in
    let later = steps_trees behind in
    let is = first_item left c.step-item.result (omega arith) c.step-item.is ∙ ap (λ ys. more item (steps_trees ys)) c.in-Some-Some.ensures.alone in
    let reads = rw c.in-Some-Some.field-0-is at c.in-Some-Some.ensures.read in
    let goes = Resumes-leaf c.loop-left.invariant.0 item later is c.in-Some-Some.ensures.leaf reads in (
      Resumes-counted (omega (arith, length-take (length left - 1) (drop 1 left), length-drop 1 left)) goes,
      omega (arith, length-take (length left - 1) (drop 1 left), length-drop 1 left),
    )

pub returns-in-Some-None-clause-fault : goal.returns-in-Some-None-clause-fault
returns-in-Some-None-clause-fault c =
    let left = c.loop-left.left.now in
    let behind = behind_first left in
    let x = c.step-item.result in
    leaf_refused (tree_at steps_trees x behind) (steps_trees (steps_after x behind)) (first_item left x (omega arith) c.step-item.is)
    c.in-Some-None.ensures.leaf (rw c.in-Some-None.field-0-is at c.in-Some-None.ensures.read) (c.step_fault.ensures behind)
