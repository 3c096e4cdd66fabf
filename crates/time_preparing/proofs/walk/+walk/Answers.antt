use Rattle.std.proofs.Common.{◌≡◌, ◌+◌, ◌*◌, ◌<◌, [], ◌∷◌, false, length, take, drop, refl, ap, sym, ◌∙◌, subst, arith, rules, length-take, length-drop}
use Rattle.std.proofs.lemmas.List.{take_all, drop_all}
use Rattle.time_values.specs.Calendar.{greatest_year}
use Rattle.time_values.specs.Refusal.{refusal_of_description}
use Rattle.time_components.specs.Tree.{group_tree, steps_trees, tree_at, component, literal, more}
use Rattle.time_components.specs.declared.inspect.Step.TheVariants as step
use Rattle.time_record.specs.Reading.{Reads, Refuses}
use Rattle.time_preparing.specs.Forms.{Fits}
use Rattle.time_record.proofs.WalkSteps.{behind_first, steps_trees-end}
use Rattle.time_preparing.proofs.Going.{Chooses-fault, Chooses-nothing, Chooses-reads, Chooses-refused, answered, Resumes-as, Resumes-end, Resumes-further, Resumes-item, Resumes-refused, one_reads, one_refused, one_told}
use Rattle.time_preparing.proofs.Rows.{Fits-drop, Fits-take, group_row, item_row, item_trees, lone_row}
use Rattle.time_preparing.proofs.walk.+walk.Goals as goal

pub walk_first-walk_item-requires : goal.walk_first-walk_item-requires
walk_first-walk_item-requires t c =
    let count = 1 + c.item_len-count.result in
    let fits = Fits-take count c.loop-left.left_joined.now c.loop-left.left.now c.loop-left.invariant.2 in
    let short : length c.split_at.result.0.now ≡ length (take count c.loop-left.left.now) = ap length c.split_at.ensures.front in
    let fewer : 8 * length c.split_at.result.0.now < 8 * length c.args.steps.now + 5 = omega (arith, length-take count c.loop-left.left.now) in (
      search rules,
      (rw (c.split_at-in-len1-up.ensures.front, c.split_at.ensures.front) fits, omega arith),
    )

pub walk_first-returns-in-Ok : goal.walk_first-returns-in-Ok
walk_first-returns-in-Ok t c =
    let left = c.loop-left.left.now in
    let x = c.step-item.result in
    let item = tree_at steps_trees x (behind_first left) in
    let after = c.split_at.result.1.now in
    let row = item_row left x (omega arith) c.step-item.is _ c.item_len-count.ensures.len after c.split_at.ensures.back in
    let alone = item_trees left x (omega arith) c.step-item.is _ c.item_len-count.ensures.len _ c.split_at.ensures.front in
    let reads = one_reads item _ _ c.loop-left.parsed _ _ alone c.in-Ok.ensures in
    Chooses-reads c.loop-left.invariant.0 item (steps_trees after) row _ _
    (subst (λ p. Reads greatest_year item c.args.input.now p c.in-Ok.rest.now c.walk_item.new.parsed) c.loop-left.invariant.1 reads)

pub walk_first-loop-left-preserved : goal.walk_first-loop-left-preserved
walk_first-loop-left-preserved t c =
    let left = c.loop-left.left.now in
    let x = c.step-item.result in
    let item = tree_at steps_trees x (behind_first left) in
    let after = c.split_at.result.1.now in
    let row = item_row left x (omega arith) c.step-item.is _ c.item_len-count.ensures.len after c.split_at.ensures.back in
    let alone = item_trees left x (omega arith) c.step-item.is _ c.item_len-count.ensures.len _ c.split_at.ensures.front in
    let refused = one_refused item _ _ c.loop-left.parsed _ alone c.in-Err.ensures in
    let fits = Fits-drop (1 + c.item_len-count.result) c.loop-left.left_joined.now left c.loop-left.invariant.2 in (
      Chooses-refused c.loop-left.invariant.0 item (steps_trees after) row c.in-Err.fault
          (subst (λ p. Refuses greatest_year item c.args.input.now p (refusal_of_description c.in-Err.fault)) c.loop-left.invariant.1 refused)
          c.or-first_fault.ensures,
      refl,
      rw (c.split_at-in-len1-up.ensures.back, c.split_at.ensures.back) fits,
      omega arith,
      omega arith,
    )

pub walk_first-returns-in-Some : goal.walk_first-returns-in-Some
walk_first-returns-in-Some t c =
    Chooses-fault c.loop-left.invariant.0 _ (steps_trees-end c.loop-left.left.now (omega arith)) c.in-Some.is

pub walk_first-returns-in-None : goal.walk_first-returns-in-None
walk_first-returns-in-None t c =
    rw c.loop-left.invariant.1 (Chooses-nothing c.loop-left.invariant.0 (steps_trees-end c.loop-left.left.now (omega arith)) c.in-None.is)

pub walk_item-returns-in-Group : goal.walk_item-returns-in-Group
walk_item-returns-in-Group t c =
    let steps = c.args.steps.now in
    let inside = behind_first steps in
    let group = c.in-Group.group in
    let len = c.in-Group.len in
    let row = group_row steps c.step-item.result (omega arith) c.step-item.is group len len inside [] c.in-Group.is (omega arith)
    (sym (take_all len inside (omega arith))) (sym (drop_all len inside (omega arith))) in
    let tree = group_tree group (steps_trees inside) in
    one_told tree (steps_trees steps) c.args.input.now c.args.parsed.now c.walk_group.result c.walk_group.new.parsed
    (row ∙ ap (more tree) (steps_trees-end [] (omega arith))) c.walk_group.ensures

pub walk-returns-in_default : goal.walk-returns-in_default
walk-returns-in_default t c =
    let later = c.split_at.result.1.now in
    let goes = Resumes-as (Resumes-further c.loop-later.invariant.0 c.read_joined-read.ensures.goes) (steps_trees later)
    (ap steps_trees c.split_at.ensures.back) in
    Resumes-end goes (steps_trees-end later (omega arith))

pub walk-walk_item-requires : goal.walk-walk_item-requires
walk-walk_item-requires t c =
    let later = c.split_at.result.1.now in
    let n = c.read_joined-read.result.0 in
    let later_joined = c.split_at-in-loop-later.result.1.now in
    let fits = Fits-drop n c.loop-later.left_joined.now c.loop-later.left.now c.loop-later.invariant.1 in
    let later_fits : Fits later_joined later = rw (c.split_at-in-loop-later.ensures.back, c.split_at.ensures.back) fits in
    let count = 1 + c.item_len-count.result in
    let within : length later ≡ length (drop n c.loop-later.left.now) = ap length c.split_at.ensures.back in
    let short : length c.split_at-in-loop-later-2.result.0.now ≡ length (take count later) = ap length c.split_at-in-loop-later-2.ensures.front in
    let fewer : 8 * length c.split_at-in-loop-later-2.result.0.now < 8 * length c.args.steps.now + 2 =
    omega (arith, length-take count later, length-drop n c.loop-later.left.now) in (
      search rules,
      (rw (c.split_at-in-loop-later-3.ensures.front, c.split_at-in-loop-later-2.ensures.front) (Fits-take count later_joined later later_fits), omega arith),
    )

pub walk-returns-in-Err : goal.walk-returns-in-Err
walk-returns-in-Err t c =
    let later = c.split_at.result.1.now in
    let x = c.step-item.result in
    let item = tree_at steps_trees x (behind_first later) in
    let after = c.split_at-in-loop-later-2.result.1.now in
    let row = item_row later x (omega arith) c.step-item.is _ c.item_len-count.ensures.len after c.split_at-in-loop-later-2.ensures.back in
    let alone = item_trees later x (omega arith) c.step-item.is _ c.item_len-count.ensures.len _ c.split_at-in-loop-later-2.ensures.front in
    let goes = Resumes-as (Resumes-further c.loop-later.invariant.0 c.read_joined-read.ensures.goes) (steps_trees later)
    (ap steps_trees c.split_at.ensures.back) in
    Resumes-refused goes item (steps_trees after) row (one_refused item _ _ c.read_joined-read.new.parsed _ alone c.in-Err.ensures)

pub walk-loop-later-preserved : goal.walk-loop-later-preserved
walk-loop-later-preserved t c =
    let later = c.split_at.result.1.now in
    let x = c.step-item.result in
    let item = tree_at steps_trees x (behind_first later) in
    let after = c.split_at-in-loop-later-2.result.1.now in
    let row = item_row later x (omega arith) c.step-item.is _ c.item_len-count.ensures.len after c.split_at-in-loop-later-2.ensures.back in
    let alone = item_trees later x (omega arith) c.step-item.is _ c.item_len-count.ensures.len _ c.split_at-in-loop-later-2.ensures.front in
    let goes = Resumes-as (Resumes-further c.loop-later.invariant.0 c.read_joined-read.ensures.goes) (steps_trees later)
    (ap steps_trees c.split_at.ensures.back) in
    let n = c.read_joined-read.result.0 in
    let later_joined = c.split_at-in-loop-later.result.1.now in
    let fits = Fits-drop n c.loop-later.left_joined.now c.loop-later.left.now c.loop-later.invariant.1 in
    let later_fits : Fits later_joined later = rw (c.split_at-in-loop-later.ensures.back, c.split_at.ensures.back) fits in
    let count = 1 + c.item_len-count.result in
    let reads = one_reads item _ _ c.read_joined-read.new.parsed _ _ alone c.in-Ok.ensures in (
      Resumes-item goes item (steps_trees after) row reads,
      rw (c.split_at-in-loop-later-3.ensures.back, c.split_at-in-loop-later-2.ensures.back) (Fits-drop count later_joined later later_fits),
      omega arith,
      omega arith,
    )

pub walk_item-returns-in-Component : goal.walk_item-returns-in-Component
walk_item-returns-in-Component t c =
    let steps = c.args.steps.now in
    let tree = component false c.in-Component.component in
    let row = lone_row steps c.step-item.result (step.Component c.in-Component.component) (omega arith) c.step-item.is c.in-Component.is tt
    (sym c.if-is_empty.ensures) in
    one_told tree (steps_trees steps) _ _ _ _ row (answered tree _ _ _ _ c.parse_component.ensures)

pub walk_item-returns-in-Literal : goal.walk_item-returns-in-Literal
walk_item-returns-in-Literal t c =
    let steps = c.args.steps.now in
    let tree = literal (c.in-Literal.byte ∷ []) in
    let row = lone_row steps c.step-item.result (step.Literal c.in-Literal.byte) (omega arith) c.step-item.is c.in-Literal.is tt
    (sym c.if-is_empty-2.ensures) in
    one_told tree (steps_trees steps) _ _ _ _ row (answered tree _ _ _ _ (c.parse_literal.ensures c.args.parsed.now))
