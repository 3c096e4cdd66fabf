use Rattle.std.proofs.Common.{◌+◌, ◌*◌, map}
use Rattle.time_components.specs.Tree.{trees}
use Rattle.time_descriptions.specs.Writing.{lists_text, trees_text}
use Rattle.time_descriptions.proofs.Checks.{Leaves, size, size_of_all, trees_from}
use Rattle.time_descriptions.proofs.describing.writing.+items.Given as goal

abbrev pub decreases-put_item : goal.decreases-put_item
decreases-put_item g l = 4 * size (g.I.Inspect.shape l.item.now)

abbrev pub decreases-put_items : goal.decreases-put_items
decreases-put_items g l = 4 * size_of_all (trees (map g.I.Inspect.shape l.items.now)) + 1

abbrev pub decreases-put_optional : goal.decreases-put_optional
decreases-put_optional g l = 4 * size (g.I.Inspect.shape l.item.now) + 1

abbrev pub decreases-put_first : goal.decreases-put_first
decreases-put_first g l = 4 * size_of_all (trees (map g.I.Inspect.shape l.items.now)) + 3

abbrev pub decreases-put_lists : goal.decreases-put_lists
decreases-put_lists g l = 4 * size_of_all (trees (map g.I.Inspect.shape l.items.now)) + 2

abbrev pub decreases-put_list : goal.decreases-put_list
decreases-put_list g l = 4 * size (g.I.Inspect.shape l.item.now) + 1

abbrev pub invariant-put_items-loop-item : goal.invariant-put_items-loop-item
invariant-put_items-loop-item g l =
    Leaves l.fn.text.bytes.items (trees_text (trees (map g.I.Inspect.shape l.items))) l.text.bytes.items
    (trees_text (trees_from g.I.Inspect.shape l.item-index l.items))

abbrev pub invariant-put_lists-loop-item : goal.invariant-put_lists-loop-item
invariant-put_lists-loop-item g l =
    Leaves l.fn.text.bytes.items (lists_text (trees (map g.I.Inspect.shape l.items))) l.text.bytes.items
    (lists_text (trees_from g.I.Inspect.shape l.item-index l.items))
