use Rattle.std.proofs.Common.{◌≡◌, ℕ, suc, ◌+◌, ◌*◌, ◌<◌, ◌≤◌, List, length, true}
use Rattle.time_descriptions.specs.Grammar.{before, item, items_by, list_by, lists_by, MatchesItems}
use Rattle.time_descriptions.specs.Items.{Item}
use Rattle.time_descriptions.proofs.owned.+owned.Given as goal

abbrev pub decreases-read_item : goal.decreases-read_item
decreases-read_item l = 6 * l.depth

abbrev pub decreases-read_items : goal.decreases-read_items
decreases-read_items l = 6 * l.depth + 1

abbrev pub decreases-read_list : goal.decreases-read_list
decreases-read_list l = 6 * l.depth + 2

abbrev pub decreases-read_lists : goal.decreases-read_lists
decreases-read_lists l = 6 * l.depth + 3

abbrev pub decreases-read_group : goal.decreases-read_group
decreases-read_group l = 6 * l.depth + 5

-- the items so far have the trees of those that were read, and the rest gives the other items
abbrev pub invariant-read_items-loop-alloc : goal.invariant-read_items-loop-alloc
invariant-read_items-loop-alloc l =
    record {
      front : List Item;
      most : ℕ;
      within : length l.rest ≤ most;
      shorter : length l.rest ≤ length l.text;
      said : MatchesItems l.items.items front;
      told :
          items_by (item l.version l.depth l.nested) (length l.text) l.nested l.text
          ≡ before front (items_by (item l.version l.depth l.nested) most l.nested l.rest);
    }

abbrev pub decreases-read_items-loop-alloc : goal.decreases-read_items-loop-alloc
decreases-read_items-loop-alloc l = length l.rest

-- the lists so far have the trees of those that were read, and the rest gives the other lists
abbrev pub invariant-read_lists-loop-lists : goal.invariant-read_lists-loop-lists
invariant-read_lists-loop-lists l =
    record {
      front : List Item;
      most : ℕ;
      within : length l.inside < most;
      shorter : length l.inside ≤ length l.text;
      said : MatchesItems l.lists.items front;
      told :
          lists_by (list_by (item l.version l.depth true) l.opening) (suc (length l.text)) l.text
          ≡ before front (lists_by (list_by (item l.version l.depth true) l.opening) most l.inside);
    }

abbrev pub decreases-read_lists-loop-lists : goal.decreases-read_lists-loop-lists
decreases-read_lists-loop-lists l = length l.inside

abbrev pub decreases-read_inside : goal.decreases-read_inside
decreases-read_inside l = 6 * l.depth + 4
