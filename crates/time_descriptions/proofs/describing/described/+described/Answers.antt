use Rattle.std.proofs.Common.{◌≡◌, false, true, sym, ◌∙◌, refl, arith, map, rules}
use Rattle.std.proofs.lemmas.Bool.{and_left, and_right, le-ltb}
use Rattle.std.specs.Prelude.{◌&&◌}
use Rattle.time_components.specs.Tree.{trees}
use Rattle.time_descriptions.specs.Described.{is_item, is_list}
use Rattle.time_descriptions.proofs.Checks.{first_at, items-end, items-more, items-not, lists-end, lists-more, lists-not, no_first, no_optional, optional_at, size-item, trees_from-end, trees_from-item}
use Rattle.time_descriptions.proofs.describing.described.+described.Goals as goal
use Rattle.time_descriptions.proofs.describing.described.+described.Goals.{are_items-else-is_after_run-via-then-is_after_run+else-is_run, are_items-else-is_after_run-via-else-is_after_run}

pub are_items-is_item-requires : goal.are_items-is_item-requires
are_items-is_item-requires g t c κs within =
    let least = size-item g.I.Inspect.shape c.args.items.now _ _ (omega arith) c.item-item.is in search rules

pub are_items-returns-then-not-is_item : goal.are_items-returns-then-not-is_item
are_items-returns-then-not-is_item g t c =
    let is = trees_from-item g.I.Inspect.shape c.args.items.now c.loop-item.item-index c.item-item.result (omega arith) c.item-item.is in
    let e : is_item c.args.depth c.args.nested (g.I.Inspect.shape c.item-item.result) ≡ false = cc in
    items-not c.loop-item.invariant _ _ is e

pub are_items-loop-item-preserved : goal.are_items-loop-item-preserved
are_items-loop-item-preserved g t c =
    let is = trees_from-item g.I.Inspect.shape c.args.items.now c.loop-item.item-index c.item-item.result (omega arith) c.item-item.is in
    let e : is_item c.args.depth c.args.nested (g.I.Inspect.shape c.item-item.result) ≡ true = cc in
    let q : (c.loop-item.is_after_run && c.is_run-is_run.result) ≡ false =
    elim c.else-is_after_run.branch [
      | are_items-else-is_after_run-via-then-is_after_run+else-is_run w ↦ and_right _ _ w.if-is_run.false
      | are_items-else-is_after_run-via-else-is_after_run w ↦ and_left _ _ w.if-is_after_run.false
    ] in
    items-more c.loop-item.invariant _ _ c.is_run-is_run.result is c.is_run-is_run.ensures q e

pub are_items-returns : goal.are_items-returns
are_items-returns g t c =
    items-end c.loop-item.invariant (trees_from-end g.I.Inspect.shape c.args.items.now c.loop-item.item-index (omega arith))

pub are_lists-is_list-requires : goal.are_lists-is_list-requires
are_lists-is_list-requires g t c κs within =
    let least = size-item g.I.Inspect.shape c.args.lists.now _ _ (omega arith) c.list-item.is in search rules

pub are_lists-returns-then-not-is_list : goal.are_lists-returns-then-not-is_list
are_lists-returns-then-not-is_list g t c =
    let is = trees_from-item g.I.Inspect.shape c.args.lists.now c.loop-list.list-index c.list-item.result (omega arith) c.list-item.is in
    let e : is_list c.args.depth (g.I.Inspect.shape c.list-item.result) ≡ false = cc in
    lists-not c.loop-list.invariant _ _ is e

pub are_lists-loop-list-preserved : goal.are_lists-loop-list-preserved
are_lists-loop-list-preserved g t c =
    let is = trees_from-item g.I.Inspect.shape c.args.lists.now c.loop-list.list-index c.list-item.result (omega arith) c.list-item.is in
    let e : is_list c.args.depth (g.I.Inspect.shape c.list-item.result) ≡ true = cc in
    lists-more c.loop-list.invariant _ _ is e

pub are_lists-returns : goal.are_lists-returns
are_lists-returns g t c =
    lists-end c.loop-list.invariant (trees_from-end g.I.Inspect.shape c.args.lists.now c.loop-list.list-index (omega arith))

pub is_item-returns-in-Literal : goal.is_item-returns-in-Literal
unfolding is_item
is_item-returns-in-Literal g t c = rw c.in-Literal.ensures c.is_literal.ensures

pub is_item-returns-in-Component : goal.is_item-returns-in-Component
unfolding is_item
is_item-returns-in-Component g t c = rw c.in-Component.ensures c.has_words.ensures

pub is_item-returns-in-WholeComponent : goal.is_item-returns-in-WholeComponent
unfolding is_item
is_item-returns-in-WholeComponent g t c = rw c.in-WholeComponent.ensures refl

pub is_item-returns-in-List : goal.is_item-returns-in-List
unfolding is_item
is_item-returns-in-List g t c = rw c.in-List.ensures refl

pub is_item-returns-then-depth-gt0 : goal.is_item-returns-then-depth-gt0
is_item-returns-then-depth-gt0 g t c =
    rw c.in-Optional.ensures
    (c.is_list.ensures ∙ sym (optional_at c.args.nested c.args.depth (g.I.Inspect.shape c.in-Optional.inner.now) c.if-depth-gt0.true))

pub is_item-returns-else-depth-gt0 : goal.is_item-returns-else-depth-gt0
is_item-returns-else-depth-gt0 g t c =
    rw c.in-Optional.ensures
    (le-ltb 0 c.args.depth (omega arith)
    ∙ sym (no_optional c.args.nested c.args.depth (g.I.Inspect.shape c.in-Optional.inner.now) (omega arith)))

pub is_item-returns-then-depth-gt0-2 : goal.is_item-returns-then-depth-gt0-2
is_item-returns-then-depth-gt0-2 g t c =
    rw c.in-First.ensures
    (c.is_choice.ensures
    ∙ sym (first_at c.args.nested c.args.depth (trees (map g.I.Inspect.shape c.in-First.lists.now)) c.if-depth-gt0-2.true))

pub is_item-returns-else-depth-gt0-2 : goal.is_item-returns-else-depth-gt0-2
is_item-returns-else-depth-gt0-2 g t c =
    rw c.in-First.ensures
    (le-ltb 0 c.args.depth (omega arith)
    ∙ sym (no_first c.args.nested c.args.depth (trees (map g.I.Inspect.shape c.in-First.lists.now)) (omega arith)))
