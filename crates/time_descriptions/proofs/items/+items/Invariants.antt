use Rattle.std.proofs.Common.{◌≡◌, ℕ, suc, ◌+◌, ◌-◌, ◌*◌, ◌<◌, ◌≤◌, List, ◌++◌, length, true}
use Rattle.time_descriptions.specs.Grammar.{item_step_count, items_step_count, lists_step_count, before, item, items_by, list_by, lists_by}
use Rattle.time_descriptions.specs.Items.{Item, flat}
use Rattle.time_descriptions.proofs.items.+items.Given as goal

abbrev pub decreases-add_item : goal.decreases-add_item
decreases-add_item g l = 6 * l.depth

abbrev pub decreases-add_items : goal.decreases-add_items
decreases-add_items g l = 6 * l.depth + 1

abbrev pub decreases-add_list : goal.decreases-add_list
decreases-add_list g l = 6 * l.depth + 2

abbrev pub decreases-add_lists : goal.decreases-add_lists
decreases-add_lists g l = 6 * l.depth + 3

abbrev pub decreases-add_inside : goal.decreases-add_inside
decreases-add_inside g l = 6 * l.depth + 4

abbrev pub decreases-add_group : goal.decreases-add_group
decreases-add_group g l = 6 * l.depth + 5

-- the items so far and their steps, and the rest gives the other items
abbrev pub invariant-add_items-loop-version : goal.invariant-add_items-loop-version
invariant-add_items-loop-version g l =
    record {
      front : List Item;
      most : ℕ;
      within : length l.rest ≤ most;
      steps : l.steps.items ≡ l.fn.steps.items ++ flat front;
      room : length l.steps.items + length l.rest ≤ length l.fn.steps.items + length l.text;
      told :
          items_by (item l.version l.depth l.nested) (length l.text) l.nested l.text
          ≡ before front (items_by (item l.version l.depth l.nested) most l.nested l.rest);
      begun :
          items_step_count (item l.version l.depth l.nested) (item_step_count l.version l.depth l.nested) (length l.text) l.nested l.text
          ≡ length (flat front) + items_step_count (item l.version l.depth l.nested) (item_step_count l.version l.depth l.nested) most l.nested l.rest;
      fits : length (flat front) ≤ g.row.N - length l.fn.steps.items;
    }

abbrev pub decreases-add_items-loop-version : goal.decreases-add_items-loop-version
decreases-add_items-loop-version g l = length l.rest

-- the lists so far and their steps, and the rest gives the other lists
abbrev pub invariant-add_lists-loop-index : goal.invariant-add_lists-loop-index
invariant-add_lists-loop-index g l =
    record {
      front : List Item;
      most : ℕ;
      within : length l.inside < most;
      steps : l.steps.items ≡ l.fn.steps.items ++ flat front;
      room : length l.steps.items + length l.inside ≤ length l.fn.steps.items + length l.text;
      told :
          lists_by (list_by (item l.version l.depth true) l.opening) (suc (length l.text)) l.text
          ≡ before front (lists_by (list_by (item l.version l.depth true) l.opening) most l.inside);
      begun :
          lists_step_count (item l.version l.depth true) (item_step_count l.version l.depth true) l.opening (suc (length l.text)) l.text
          ≡ length (flat front) + lists_step_count (item l.version l.depth true) (item_step_count l.version l.depth true) l.opening most l.inside;
      fits : length (flat front) ≤ g.row.N - length l.fn.steps.items;
    }

abbrev pub decreases-add_lists-loop-index : goal.decreases-add_lists-loop-index
decreases-add_lists-loop-index g l = length l.inside
