use Rattle.std.proofs.Common.{◌+◌, ◌*◌, map}
use Rattle.time_values.specs.Calendar.{greatest_year}
use Rattle.time_components.specs.Tree.{trees}
use Rattle.time_record.specs.Reading.{places, places_of_all}
use Rattle.time_record.proofs.Unique.{trees_from}
use Rattle.time_locating.specs.Located.{erased_miss}
use Rattle.time_locating.specs.Misses.{all_bytes}
use Rattle.time_locating.proofs.TurnSteps.{Passes, Follows}
use Rattle.time_locating.proofs.MarkSteps.{CarriesAll, CarriesFirst}
use Rattle.time_locating.proofs.walk.+items.Given as goal

abbrev pub decreases-walk : goal.decreases-walk
decreases-walk g l = 2 * places (g.I.Inspect.shape l.item.now)

abbrev pub decreases-walk_all : goal.decreases-walk_all
decreases-walk_all g l = 2 * places_of_all (trees (map g.I.Inspect.shape l.items.now)) + 1

abbrev pub decreases-walk_first : goal.decreases-walk_first
decreases-walk_first g l = 2 * places_of_all (trees (map g.I.Inspect.shape l.items.now)) + 1

abbrev pub invariant-walk_all-loop-item : goal.invariant-walk_all-loop-item
invariant-walk_all-loop-item g l =
    Follows all_bytes (trees (map g.I.Inspect.shape l.items)) l.fn.input l.fn.parsed
    (trees_from g.I.Inspect.shape l.item-index l.items) l.rest l.parsed (erased_miss l.furthest)
    × CarriesAll l.name (trees (map g.I.Inspect.shape l.items)) l.fn.input l.fn.parsed
    (trees_from g.I.Inspect.shape l.item-index l.items) l.rest l.parsed l.last

abbrev pub invariant-walk_first-loop-item : goal.invariant-walk_first-loop-item
invariant-walk_first-loop-item g l =
    Passes all_bytes (trees (map g.I.Inspect.shape l.items))
    (trees_from g.I.Inspect.shape l.item-index l.items) l.input l.fn.parsed l.parsed (erased_miss l.furthest)
    × CarriesFirst l.name (trees (map g.I.Inspect.shape l.items))
    (trees_from g.I.Inspect.shape l.item-index l.items) l.input l.fn.parsed
