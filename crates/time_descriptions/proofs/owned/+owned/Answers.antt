use Rattle.std.proofs.Common.{◌≡◌, ℕ, suc, ◌+◌, ◌-◌, ◌<◌, ◌≤◌, List, [], ◌∷◌, ◌++◌, length, true, false, refl, ap, sym, ◌∙◌, arith}
use Rattle.std.proofs.lemmas.Grind.{common_steps}
use Rattle.time_components.specs.declared.inspect.Group.TheVariants as groups
use Rattle.time_descriptions.specs.Grammar.{ends, inside_by, item, list_by, MatchesItem}
use Rattle.time_descriptions.specs.Items.{group, items_of, leaf_item}
use Rattle.time_descriptions.proofs.Adding.{at_end, at_fault, at_item, at_last, at_list, at_list_fault, before_none, deeper, not_ended, not_inside, not_opened, plain_item, too_deep}
use Rattle.time_descriptions.proofs.Shapes.{fails_on, fails_whole, group_not_closed, group_read, group_said, one_more}
use Rattle.time_descriptions.proofs.owned.+owned.Goals as goal

pub read_group-returns-in_err-inside-clause-owns : goal.read_group-returns-in_err-inside-clause-owns
read_group-returns-in_err-inside-clause-owns t c =
    let read = item c.args.version c.args.depth true in
    fails_on MatchesItem _ c.from_residual.result _ c.from_residual.ensures
    (not_opened read c.args.opening c.args.group c.args.text.now c.in_err-inside.field-0.0 c.in_err-inside.ensures.reads)

pub read_item-returns-in_err-leaf-in-None-clause-owns :
    goal.read_item-returns-in_err-leaf-in-None-clause-owns
read_item-returns-in_err-leaf-in-None-clause-owns t c =
    fails_on MatchesItem _ c.from_residual.result _ c.from_residual.ensures
    (plain_item c.args.version c.args.depth c.args.nested c.args.text.now c.in-None.ensures.found ∙ c.in_err-leaf-in-None.ensures.reads)

pub read_item-returns-then-depth-eq0-clause-owns :
    goal.read_item-returns-then-depth-eq0-clause-owns
read_item-returns-then-depth-eq0-clause-owns t c =
    too_deep c.args.version c.args.depth c.args.nested c.args.text.now (c.in-Some.group, c.in-Some.rest.now) c.if-depth-eq0.true c.in-Some.ensures.found

pub read_item-returns-in_ok-item-in-None-clause-owns :
    goal.read_item-returns-in_ok-item-in-None-clause-owns
read_item-returns-in_ok-item-in-None-clause-owns t c = (
  leaf_item c.in_ok-leaf-in-None.leaf,
  plain_item c.args.version c.args.depth c.args.nested c.args.text.now c.in-None.ensures.found ∙ c.in_ok-leaf-in-None.ensures.reads,
  c.in_ok-item-in-None.ensures,
)

pub read_item-returns-else-depth-eq0-clause-owns :
    goal.read_item-returns-else-depth-eq0-clause-owns
read_item-returns-else-depth-eq0-clause-owns t c =
    let h : c.args.depth ≡ suc (c.args.depth - 1) = omega arith in
    rw (deeper c.args.version c.args.depth (c.args.depth - 1) c.args.nested c.args.text.now (c.in-Some.group, c.in-Some.rest.now) h c.in-Some.ensures.found)
    c.read_group.ensures.owns

pub read_items-loop-alloc-init : goal.read_items-loop-alloc-init
read_items-loop-alloc-init t c =
    record {
      front = [];
      most = length c.args.text.now;
      within = omega arith;
      shorter = omega arith;
      said = ap (λ items. Rattle.std.proofs.Common.map Rattle.time_components.specs.Tree.owned_shape items) c.new-items.ensures.items;
      told = before_none _;
    }

pub read_items-returns-in_err-item-clause-owns : goal.read_items-returns-in_err-item-clause-owns
read_items-returns-in_err-item-clause-owns t c =
    let i = c.loop-alloc.invariant in
    let on : ends c.args.nested c.loop-alloc.rest.now ≡ false = grind (arith, common_steps) in
    let some : 0 < i.most = omega (arith, i.within, not_ended c.args.nested c.loop-alloc.rest.now on) in
    let read = item c.args.version c.args.depth c.args.nested in
    fails_on _ _ c.from_residual.result _ c.from_residual.ensures
    (fails_whole (read c.loop-alloc.rest.now) _ c.in_err-item.field-0.0
    (λ e r. at_fault read c.args.nested c.loop-alloc.rest.now _ i.front i.most i.told e some on r)
    c.in_err-item.ensures.owns)

pub read_items-loop-alloc-preserved : goal.read_items-loop-alloc-preserved
read_items-loop-alloc-preserved t c =
    let i = c.loop-alloc.invariant in
    let made = c.in_ok-item.ensures.owns in
    let on : ends c.args.nested c.loop-alloc.rest.now ≡ false = grind (arith, common_steps) in
    let h : i.most ≡ suc (i.most - 1) = omega (arith, i.within, c.in_ok-item.ensures.shorter) in
    let read = item c.args.version c.args.depth c.args.nested in
    record {
      front = i.front ++ made.0 ∷ [];
      most = i.most - 1;
      within = omega (arith, i.within, c.in_ok-item.ensures.shorter);
      shorter = omega (arith, i.shorter, c.in_ok-item.ensures.shorter);
      said = rw c.in_ok-push.ensures.items (one_more c.loop-alloc.items.items i.front c.in_ok-item.item made.0 i.said made.2);
      told = at_item read c.args.nested c.loop-alloc.rest.now _ i.front i.most i.told (i.most - 1) made.0 c.in_ok-item.unread.now h on made.1;
    }

pub read_items-returns-clause-owns : goal.read_items-returns-clause-owns
read_items-returns-clause-owns t c =
    let i = c.loop-alloc.invariant in
    let on : ends c.args.nested c.loop-alloc.rest.now ≡ true = grind (arith, common_steps) in (
      i.front,
      at_end (item c.args.version c.args.depth c.args.nested) c.args.nested c.loop-alloc.rest.now _ i.front i.most i.told on,
      i.said,
    )

pub read_lists-loop-lists-init : goal.read_lists-loop-lists-init
read_lists-loop-lists-init t c =
    record {
      front = [];
      most = suc (length c.args.text.now);
      within = omega arith;
      shorter = omega arith;
      said = ap (λ items. Rattle.std.proofs.Common.map Rattle.time_components.specs.Tree.owned_shape items) c.new-lists.ensures.items;
      told = before_none _;
    }

pub read_lists-returns-in_err-items-clause-owns : goal.read_lists-returns-in_err-items-clause-owns
read_lists-returns-in_err-items-clause-owns t c =
    let i = c.loop-lists.invariant in
    let some : 0 < i.most = omega (arith, i.within) in
    let list = list_by (item c.args.version c.args.depth true) c.args.opening in
    fails_on _ _ c.from_residual.result _ c.from_residual.ensures
    (fails_whole (list c.loop-lists.inside.now) _ c.in_err-items.field-0.0
    (λ e r. at_list_fault list c.loop-lists.inside.now _ i.front i.most i.told e some r)
    c.in_err-items.ensures.owns)

pub read_lists-loop-lists-preserved : goal.read_lists-loop-lists-preserved
read_lists-loop-lists-preserved t c =
    let i = c.loop-lists.invariant in
    let made = c.in_ok-items.ensures.owns in
    let h : i.most ≡ suc (i.most - 1) = omega (arith, i.within) in
    let list = list_by (item c.args.version c.args.depth true) c.args.opening in
    record {
      front = i.front ++ group groups.List (items_of made.0) ∷ [];
      most = i.most - 1;
      within = omega (arith, i.within, c.in_ok-items.ensures.shorter, c.in-Some.ensures.shorter);
      shorter = omega (arith, i.shorter, c.in_ok-items.ensures.shorter, c.in-Some.ensures.shorter);
      said =
          rw c.in_ok-push.ensures.items (one_more c.loop-lists.lists.items i.front _ (group groups.List (items_of made.0)) i.said
          (group_said groups.List c.in_ok-items.items.items made.0 _ made.2 c.compound.ensures));
      told =
          at_list list c.loop-lists.inside.now _ i.front i.most i.told (i.most - 1) made.0 c.in_ok-items.rest.now c.in-Some.next.now h made.1
          c.in-Some.ensures.found;
    }

pub read_lists-returns-in-None-clause-owns : goal.read_lists-returns-in-None-clause-owns
read_lists-returns-in-None-clause-owns t c =
    let i = c.loop-lists.invariant in
    let made = c.in_ok-items.ensures.owns in
    let some : 0 < i.most = omega (arith, i.within) in
    let list = list_by (item c.args.version c.args.depth true) c.args.opening in (
      i.front ++ group groups.List (items_of made.0) ∷ [],
      at_last list c.loop-lists.inside.now _ i.front i.most i.told made.0 c.in_ok-items.rest.now some made.1 c.in-None.ensures.found,
      rw c.in_ok-push.ensures.items (one_more c.loop-lists.lists.items i.front _ (group groups.List (items_of made.0)) i.said
          (group_said groups.List c.in_ok-items.items.items made.0 _ made.2 c.compound.ensures)),
    )

pub read_group-returns-in_err-items-clause-owns : goal.read_group-returns-in_err-items-clause-owns
read_group-returns-in_err-items-clause-owns t c =
    let read = item c.args.version c.args.depth true in
    fails_on MatchesItem _ c.from_residual-in_err-items.result _ c.from_residual-in_err-items.ensures
    (fails_whole (inside_by (list_by read c.args.opening) c.args.group c.in_ok-inside.inside.now) _ c.in_err-items.field-0.0
    (λ e r. not_inside read c.args.opening c.args.group c.args.text.now c.in_ok-inside.inside.now c.in_ok-inside.ensures.reads e r)
    c.in_err-items.ensures.owns)

pub read_group-returns-in_err-rest-clause-owns : goal.read_group-returns-in_err-rest-clause-owns
read_group-returns-in_err-rest-clause-owns t c =
    let read = item c.args.version c.args.depth true in
    let inside = c.in_ok-items.ensures.owns in
    fails_on MatchesItem _ c.from_residual-in_err-rest.result _ c.from_residual-in_err-rest.ensures
    (group_not_closed read c.args.opening c.args.group c.args.text.now c.in_ok-inside.inside.now c.in_ok-inside.ensures.reads
    c.in_ok-items.unread.now inside.0 c.in_err-rest.field-0.0 inside.1 c.in_err-rest.ensures.reads)

pub read_group-returns-clause-owns : goal.read_group-returns-clause-owns
read_group-returns-clause-owns t c =
    let read = item c.args.version c.args.depth true in
    let inside = c.in_ok-items.ensures.owns in (
      group c.args.group (items_of inside.0),
      group_read read c.args.opening c.args.group c.args.text.now c.in_ok-inside.inside.now c.in_ok-inside.ensures.reads
          c.in_ok-items.unread.now c.in_ok-rest.rest.now inside.0 inside.1 c.in_ok-rest.ensures.reads,
      group_said c.args.group c.in_ok-items.items.items inside.0 c.in_ok-item.item inside.2 c.in_ok-item.ensures,
    )
