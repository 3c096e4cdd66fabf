use Rattle.std.proofs.Common.{◌+◌, ◌*◌, map}
use Rattle.time_components.specs.Tree.{trees}
use Rattle.time_descriptions.proofs.Checks.{ItemsLeft, ListsLeft, size, size_of_all, trees_from}
use Rattle.time_descriptions.proofs.describing.described.+described.Given as goal

abbrev pub decreases-is_item : goal.decreases-is_item
decreases-is_item g l = 4 * size (g.I.Inspect.shape l.item.now)

abbrev pub decreases-is_list : goal.decreases-is_list
decreases-is_list g l = 4 * size (g.I.Inspect.shape l.item.now)

abbrev pub decreases-are_items : goal.decreases-are_items
decreases-are_items g l = 4 * size_of_all (trees (map g.I.Inspect.shape l.items.now)) + 1

abbrev pub decreases-is_choice : goal.decreases-is_choice
decreases-is_choice g l = 4 * size_of_all (trees (map g.I.Inspect.shape l.lists.now)) + 2

abbrev pub decreases-are_lists : goal.decreases-are_lists
decreases-are_lists g l = 4 * size_of_all (trees (map g.I.Inspect.shape l.lists.now)) + 1

abbrev pub invariant-are_items-loop-item : goal.invariant-are_items-loop-item
invariant-are_items-loop-item g l =
    ItemsLeft l.depth l.nested (trees (map g.I.Inspect.shape l.items)) (trees_from g.I.Inspect.shape l.item-index l.items) l.is_after_run

abbrev pub invariant-are_lists-loop-list : goal.invariant-are_lists-loop-list
invariant-are_lists-loop-list g l =
    ListsLeft l.depth (trees (map g.I.Inspect.shape l.lists)) (trees_from g.I.Inspect.shape l.list-index l.lists)
