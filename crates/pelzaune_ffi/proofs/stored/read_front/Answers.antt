use Rattle.std.proofs.Common.{ap, subst, ◌∙◌, map, length, take, drop, get_or, false, ◌-◌, arith, length-take, length-drop}
use Rattle.time_values.specs.Calendar.{greatest_year}
use Rattle.time_components.specs.Tree.{steps_trees, tree_at, more}
use Rattle.time_record.specs.WalkSteps.{Resumes}
use Rattle.time_record.proofs.WalkSteps.{Resumes-leaf}
use Rattle.pelzaune_ffi.specs.Described.{chosen, step_of}
use Rattle.pelzaune_ffi.proofs.StoredRows.{first_stored}
use Rattle.pelzaune_ffi.proofs.stored.read_front.Goals as goal

pub loop-left-preserved : goal.loop-left-preserved
loop-left-preserved c =
    let left = c.loop-left.left.now in
    let behind = map step_of (take (length left - 1) (drop 1 left)) in
    let item = tree_at steps_trees (step_of (get_or left 0 (chosen 0 0 false))) behind in
    let later = steps_trees behind in
    let is = first_stored left (chosen 0 0 false) (omega arith) ∙ ap (λ ys. more item (steps_trees ys)) c.in-Some.ensures.alone in
    let progress = Resumes-leaf c.loop-left.invariant.0 item later is c.in-Some.ensures.leaf c.in-Some.ensures.read in (
      subst (λ n. Resumes greatest_year (steps_trees (map step_of c.args.steps.now)) c.args.input.now c.args.parsed.now n later c.in-Some.unread.now
          c.read_step.new.parsed)
          (omega (arith, length-take (length left - 1) (drop 1 left), length-drop 1 left)) progress,
      omega (arith, length-take (length left - 1) (drop 1 left), length-drop 1 left),
    )
