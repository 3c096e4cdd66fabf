use Rattle.std.proofs.Common.{map}
use Rattle.time_components.specs.Tree.{borrowed_shape, trees}
use Rattle.time_record.proofs.Unique.{trees_from}
use Rattle.time_preparing.proofs.Placing.{PlaceParser}
use Rattle.time_preparing.proofs.items.+items.Given as goal

abbrev pub invariant-put_items-loop-item : goal.invariant-put_items-loop-item
invariant-put_items-loop-item g l =
    PlaceParser g.row.N (trees (map borrowed_shape l.items)) l.fn.steps.items (trees_from borrowed_shape l.item-index l.items) l.steps.items
