use Rattle.std.proofs.Common.{◌+◌, ◌<◌, ◌++◌, ◌∙◌, ap, arith, length, map, refl, rules}
use Rattle.std.specs.Prelude.{codes}
use Rattle.time_components.specs.Tree.{trees}
use Rattle.time_descriptions.specs.Writing.{lists_text, tree_text, trees_text}
use Rattle.time_descriptions.specs.DescribedParts.{list_text}
use Rattle.time_descriptions.proofs.Checks.{puts_first, puts_on, leaves-full, lists_text-more, size-item, trees_from, trees_from-item}
use Rattle.time_descriptions.proofs.describing.writing.+items.Goals as goal

pub put_items-put_item-requires : goal.put_items-put_item-requires
put_items-put_item-requires g t c κs within =
    let least = size-item g.I.Inspect.shape c.args.items.now _ _ (omega arith) c.item-item.is in search rules

pub put_lists-put_list-requires : goal.put_lists-put_list-requires
put_lists-put_list-requires g t c κs within =
    let least = size-item g.I.Inspect.shape c.args.items.now _ _ (omega arith) c.item-item.is in search rules

pub put_items-returns-in_err-put_item : goal.put_items-returns-in_err-put_item
put_items-returns-in_err-put_item g t c =
    let is = trees_from-item g.I.Inspect.shape c.args.items.now c.loop-item.item-index c.item-item.result (omega arith) c.item-item.is in
    let full : g.row.N < length c.args.text.now.bytes.items + length (trees_text (trees (map g.I.Inspect.shape c.args.items.now))) =
    leaves-full c.loop-item.invariant g.row.N (tree_text (g.I.Inspect.shape c.item-item.result))
    (trees_text (trees_from g.I.Inspect.shape (c.loop-item.item-index + 1) c.args.items.now)) (ap trees_text is) c.in_err-put_item.ensures in
    search rules

pub put_lists-returns-in_err-put_list : goal.put_lists-returns-in_err-put_list
put_lists-returns-in_err-put_list g t c =
    let later = trees_from g.I.Inspect.shape (c.loop-item.item-index + 1) c.args.items.now in
    let is = trees_from-item g.I.Inspect.shape c.args.items.now c.loop-item.item-index c.item-item.result (omega arith) c.item-item.is in
    let full : g.row.N < length c.args.text.now.bytes.items + length (lists_text (trees (map g.I.Inspect.shape c.args.items.now))) =
    leaves-full c.loop-item.invariant g.row.N (list_text (g.I.Inspect.shape c.item-item.result)) (lists_text later)
    (ap lists_text is ∙ lists_text-more (g.I.Inspect.shape c.item-item.result) later) c.in_err-put_list.ensures in
    search rules

pub put_optional-returns-in_err-put : goal.put_optional-returns-in_err-put
put_optional-returns-in_err-put g t c =
    puts_first g.row.N (codes "[optional [") _ refl c.args.text.now.bytes.items c.from_residual.result _ c.from_residual.ensures.0 c.in_err-put.ensures

pub put_optional-returns-in_err-put_item : goal.put_optional-returns-in_err-put_item
put_optional-returns-in_err-put_item g t c =
    let inside = tree_text (g.I.Inspect.shape c.args.item.now) in
    let full = puts_first g.row.N inside (codes "]]") refl c.put.new.self.bytes.items c.from_residual-in_err-put_item.result
    c.put_item.new.text.bytes.items c.from_residual-in_err-put_item.ensures.0 c.in_err-put_item.ensures in
    puts_on g.row.N (codes "[optional [") (inside ++ codes "]]") refl c.args.text.now.bytes.items c.put.new.self.bytes.items
    c.from_residual-in_err-put_item.result _ c.in_ok-put.ensures full

pub put_optional-returns : goal.put_optional-returns
put_optional-returns g t c =
    let inside = tree_text (g.I.Inspect.shape c.args.item.now) in
    let closed = puts_on g.row.N inside (codes "]]") refl c.put.new.self.bytes.items c.put_item.new.text.bytes.items c.put-2.result
    c.put-2.new.self.bytes.items c.in_ok-put_item.ensures c.put-2.ensures in
    puts_on g.row.N (codes "[optional [") (inside ++ codes "]]") refl c.args.text.now.bytes.items c.put.new.self.bytes.items c.put-2.result _
    c.in_ok-put.ensures closed

pub put_first-returns-in_err-put : goal.put_first-returns-in_err-put
put_first-returns-in_err-put g t c =
    puts_first g.row.N (codes "[first") _ refl c.args.text.now.bytes.items c.from_residual.result _ c.from_residual.ensures.0 c.in_err-put.ensures

pub put_first-returns-in_err-put_lists : goal.put_first-returns-in_err-put_lists
put_first-returns-in_err-put_lists g t c =
    let inside = lists_text (trees (map g.I.Inspect.shape c.args.items.now)) in
    let full = puts_first g.row.N inside (codes "]") refl c.put.new.self.bytes.items c.from_residual-in_err-put_lists.result
    c.put_lists.new.text.bytes.items c.from_residual-in_err-put_lists.ensures.0 c.in_err-put_lists.ensures in
    puts_on g.row.N (codes "[first") (inside ++ codes "]") refl c.args.text.now.bytes.items c.put.new.self.bytes.items
    c.from_residual-in_err-put_lists.result _ c.in_ok-put.ensures full

pub put_first-returns : goal.put_first-returns
put_first-returns g t c =
    let inside = lists_text (trees (map g.I.Inspect.shape c.args.items.now)) in
    let closed = puts_on g.row.N inside (codes "]") refl c.put.new.self.bytes.items c.put_lists.new.text.bytes.items c.put-2.result
    c.put-2.new.self.bytes.items c.in_ok-put_lists.ensures c.put-2.ensures in
    puts_on g.row.N (codes "[first") (inside ++ codes "]") refl c.args.text.now.bytes.items c.put.new.self.bytes.items c.put-2.result _
    c.in_ok-put.ensures closed

pub put_list-returns-in_err-put : goal.put_list-returns-in_err-put
put_list-returns-in_err-put g t c =
    puts_first g.row.N (codes " [") _ refl c.args.text.now.bytes.items c.from_residual.result _ c.from_residual.ensures.0 c.in_err-put.ensures

pub put_list-returns-in_err-put_item : goal.put_list-returns-in_err-put_item
put_list-returns-in_err-put_item g t c =
    let inside = tree_text (g.I.Inspect.shape c.args.item.now) in
    let full = puts_first g.row.N inside (codes "]") refl c.put.new.self.bytes.items c.from_residual-in_err-put_item.result
    c.put_item.new.text.bytes.items c.from_residual-in_err-put_item.ensures.0 c.in_err-put_item.ensures in
    puts_on g.row.N (codes " [") (inside ++ codes "]") refl c.args.text.now.bytes.items c.put.new.self.bytes.items
    c.from_residual-in_err-put_item.result _ c.in_ok-put.ensures full

pub put_list-returns : goal.put_list-returns
put_list-returns g t c =
    let inside = tree_text (g.I.Inspect.shape c.args.item.now) in
    let closed = puts_on g.row.N inside (codes "]") refl c.put.new.self.bytes.items c.put_item.new.text.bytes.items c.put-2.result
    c.put-2.new.self.bytes.items c.in_ok-put_item.ensures c.put-2.ensures in
    puts_on g.row.N (codes " [") (inside ++ codes "]") refl c.args.text.now.bytes.items c.put.new.self.bytes.items c.put-2.result _
    c.in_ok-put.ensures closed
