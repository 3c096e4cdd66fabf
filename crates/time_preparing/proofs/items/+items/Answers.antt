use Rattle.std.proofs.Common.{◌+◌, ◌-◌, ℕ, arith, ap, length, map, ◌∙◌}
use Rattle.std.specs.Prelude.{slice_set}
use Rattle.time_components.specs.Tree.{borrowed_shape, trees}
use Rattle.time_components.specs.declared.inspect.Step.TheVariants as step
use Rattle.time_record.proofs.Unique.{trees_from, trees_from-end, trees_from-item}
use Rattle.time_preparing.proofs.Placing.{group_put, inside_tells, stands_item, stands_last, stands_refused, tells}
use Rattle.time_preparing.proofs.items.+items.Goals as goal

pub put_items-returns-in_err-put_item : goal.put_items-returns-in_err-put_item
put_items-returns-in_err-put_item g t c =
    let i = c.loop-item.item-index in
    let left = trees_from-item borrowed_shape c.args.items.now i c.item-item.result (omega arith) c.item-item.is in
    tells g.row.N _ c.args.steps.now.items c.from_residual.result c.put_item.new.steps.items _ c.from_residual.ensures
    (stands_refused c.loop-item.invariant _ (trees_from borrowed_shape (i + 1) c.args.items.now) _ left c.in_err-put_item.ensures)

pub put_items-loop-item-preserved : goal.put_items-loop-item-preserved
put_items-loop-item-preserved g t c =
    let i = c.loop-item.item-index in
    let left = trees_from-item borrowed_shape c.args.items.now i c.item-item.result (omega arith) c.item-item.is in
    stands_item c.loop-item.invariant _ (trees_from borrowed_shape (i + 1) c.args.items.now) c.put_item.new.steps.items left c.in_ok-put_item.ensures

pub put_items-returns : goal.put_items-returns
put_items-returns g t c =
    stands_last c.loop-item.invariant (trees_from-end borrowed_shape c.args.items.now c.loop-item.item-index (omega arith))

pub put_group-returns-in_err-put_items : goal.put_group-returns-in_err-put_items
put_group-returns-in_err-put_items g t c =
    inside_tells g.row.N c.args.group (trees (map borrowed_shape c.args.items.now)) c.args.steps.now.items c.put.new.steps.items
    c.from_residual-in_err-put_items.result c.put_items.new.steps.items _ c.from_residual-in_err-put_items.ensures c.in_ok-put.ensures.ok
    c.in_ok-put.ensures.room c.in_err-put_items.ensures

pub put_group-returns : goal.put_group-returns
put_group-returns g t c =
    group_put g.row.N c.args.group (trees (map borrowed_shape c.args.items.now)) c.args.steps.now.items c.put.new.steps.items
    c.put_items.new.steps.items c.close_group.new.steps.items c.in_ok-put.ensures.ok c.in_ok-put_items.ensures
    (c.close_group.ensures ∙ ap (λ (k : ℕ). slice_set c.put_items.new.steps.items k
    (step.Group c.args.group (length c.put_items.new.steps.items - k - 1))) c.len-index.ensures.value)
