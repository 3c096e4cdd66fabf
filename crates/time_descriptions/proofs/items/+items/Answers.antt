use Rattle.std.proofs.Common.{◌≡◌, ℕ, suc, ◌+◌, ◌-◌, ◌<◌, ◌≤◌, List, [], ◌∷◌, ◌++◌, length, true, false, refl, ap, sym, ◌∙◌, inr, append-nil, length-append, arith}
use Rattle.std.proofs.lemmas.Grind.{common_steps}
use Rattle.std.specs.Prelude.{slice_set}
use Rattle.time_components.specs.declared.inspect.Group.{Group}
use Rattle.time_components.specs.declared.inspect.Group.TheVariants as groups
use Rattle.time_components.specs.declared.inspect.Step.{Step}
use Rattle.time_components.specs.declared.inspect.Step.TheVariants as step
use Rattle.time_descriptions.specs.Grammar.{item_step_count, ends, item, list_by}
use Rattle.time_descriptions.specs.Items.{flat, group, items_of, steps_of}
use Rattle.time_descriptions.proofs.Adding.{at_end, at_fault, at_item, at_last, at_list, at_list_fault, before_none, closed_length, closed_steps, deeper, fault_on, flat_one, group_ends, more_bytes, next_steps, no_room, not_ended, not_inside, not_opened, plain_item, shorter_of, too_deep, deep_begun, deeper_begun, group_not_opened, group_opened, lists_at_fault, lists_at_last, lists_at_least, lists_at_next, none_at_end, plain_begun, some_at_fault, some_at_item, some_at_least}
use Rattle.time_descriptions.proofs.items.+items.Goals as goal

pub add_group-returns-in-Err : goal.add_group-returns-in-Err
add_group-returns-in-Err g t c =
    let read = item c.args.version c.args.depth true in
    let none = group_not_opened read (item_step_count c.args.version c.args.depth true) c.args.opening c.args.group c.args.text.now c.in-Err.fault
    c.in-Err.ensures.reads in
    inr (not_opened read c.args.opening c.args.group c.args.text.now c.in-Err.fault c.in-Err.ensures.reads, omega (arith, none))

pub add_group-returns-in_err-index-in-Ok : goal.add_group-returns-in_err-index-in-Ok
add_group-returns-in_err-index-in-Ok g t c =
    let e = c.in_err-index-in-Ok.ensures.err in
    let some = group_opened (item c.args.version c.args.depth true) (item_step_count c.args.version c.args.depth true) c.args.opening c.args.group
    c.args.text.now c.in-Ok.inside.now c.in-Ok.ensures.reads in
    no_room steps_of g.row.N _ _ _ _ c.from_residual.result _ c.from_residual.ensures e.0 (omega (arith, e.1, c.in-Ok.ensures.shorter))
    (omega (arith, e.1, some))

pub add_group-returns-in-Err-add_inside : goal.add_group-returns-in-Err-add_inside
add_group-returns-in-Err-add_inside g t c =
    let opened = c.in_ok-index-in-Ok.ensures.ok in
    let more : length c.open_group.new.steps.items ≡ length c.args.steps.now.items + 1 =
    omega (arith, ap length opened.1, length-append c.args.steps.now.items (step.Group c.args.group 0 ∷ [])) in
    let h : length c.open_group.new.steps.items + (length c.in-Ok.inside.now + 1) ≤ length c.args.steps.now.items + length c.args.text.now =
    omega (arith, c.in-Ok.ensures.shorter, more) in
    let read = item c.args.version c.args.depth true in
    let some = group_opened read (item_step_count c.args.version c.args.depth true) c.args.opening c.args.group c.args.text.now c.in-Ok.inside.now
    c.in-Ok.ensures.reads in
    fault_on _ _ _ _ _ _ _ _ c.in-Err-add_inside.ensures h
    (λ l. omega (arith, l, some, more))
    (λ p. (
      not_inside read c.args.opening c.args.group c.args.text.now c.in-Ok.inside.now c.in-Ok.ensures.reads c.in-Err-add_inside.fault p.0,
      omega (arith, p.1, some, more, opened.2),
    ))

pub add_group-returns-in-Ok-add_inside : goal.add_group-returns-in-Ok-add_inside
add_group-returns-in-Ok-add_inside g t c =
    let added = c.in-Ok-add_inside.ensures in
    let opened = c.in_ok-index-in-Ok.ensures.ok in
    let mid : List Step = c.add_inside.new.steps.items in
    let read = item c.args.version c.args.depth true in
    let more : length c.open_group.new.steps.items ≡ length c.args.steps.now.items + 1 =
    omega (arith, ap length opened.1, length-append c.args.steps.now.items (step.Group c.args.group 0 ∷ [])) in
    let some = group_opened read (item_step_count c.args.version c.args.depth true) c.args.opening c.args.group c.args.text.now c.in-Ok.inside.now
    c.in-Ok.ensures.reads in
    let room : length mid + length c.in-Ok-add_inside.rest.now ≤ length (c.args.steps.now.items ++ step.Group c.args.group 0 ∷ []) +
    (length c.in-Ok.inside.now + 1) = omega (arith, added.3, ap length opened.1) in
    group_ends read c.args.opening c.args.group c.args.text.now c.in-Ok.inside.now c.in-Ok.ensures.reads g.row.N _
    c.in-Ok-add_inside.rest.now added.0 c.args.steps.now.items mid c.close_group.new.steps.items c.closed.result added.1
    c.closed.ensures.reads c.closed.ensures.shorter (added.2 ∙ ap (λ (ss : List Step). ss ++ flat added.0) opened.1) room c.in-Ok.ensures.shorter
    (c.close_group.ensures ∙ ap (λ (k : ℕ). slice_set mid k (step.Group c.args.group (length mid - k - 1))) opened.0)
    (omega (arith, some, added.4)) (omega (arith, some, added.5, more, opened.2))

pub add_item-returns-then-depth-eq0-clause-adds : goal.add_item-returns-then-depth-eq0-clause-adds
add_item-returns-then-depth-eq0-clause-adds g t c =
    let none = deep_begun c.args.version c.args.depth c.args.nested c.args.text.now (c.in-Some.group, c.in-Some.rest.now) c.if-depth-eq0.true
    c.in-Some.ensures.found in
    inr (
      too_deep c.args.version c.args.depth c.args.nested c.args.text.now (c.in-Some.group, c.in-Some.rest.now) c.if-depth-eq0.true c.in-Some.ensures.found,
      omega (arith, none),
    )

pub add_item-returns-in-None-clause-adds : goal.add_item-returns-in-None-clause-adds
add_item-returns-in-None-clause-adds g t c =
    rw (
      plain_item c.args.version c.args.depth c.args.nested c.args.text.now c.in-None.ensures.found,
      plain_begun c.args.version c.args.depth c.args.nested c.args.text.now c.in-None.ensures.found,
    ) c.add_leaf.ensures.adds

pub add_item-returns-else-depth-eq0-clause-adds : goal.add_item-returns-else-depth-eq0-clause-adds
add_item-returns-else-depth-eq0-clause-adds g t c =
    let h : c.args.depth ≡ suc (c.args.depth - 1) = omega arith in
    let within : length c.in-Some.rest.now ≤ length c.args.text.now = omega (arith, c.in-Some.ensures.shorter) in
    let found : Group × List ℕ = (c.in-Some.group, c.in-Some.rest.now) in
    rw (
      deeper c.args.version c.args.depth (c.args.depth - 1) c.args.nested c.args.text.now found h c.in-Some.ensures.found,
      deeper_begun c.args.version c.args.depth (c.args.depth - 1) c.args.nested c.args.text.now found h c.in-Some.ensures.found,
    )
    (more_bytes steps_of g.row.N _ _ (length c.in-Some.rest.now) (length c.args.text.now) c.args.steps.now.items c.add_group.result
    c.add_group.new.steps.items within c.add_group.ensures)

pub add_item-returns-else-depth-eq0-clause-shorter : goal.add_item-returns-else-depth-eq0-clause-shorter
add_item-returns-else-depth-eq0-clause-shorter g t c =
    shorter_of steps_of g.row.N _ _ (length c.in-Some.rest.now) (length c.args.text.now) c.args.steps.now.items c.add_group.result
    c.add_group.new.steps.items c.in-Some.ensures.shorter c.add_group.ensures

pub add_items-loop-version-init : goal.add_items-loop-version-init
add_items-loop-version-init g t c =
    record {
      front = [];
      most = length c.args.text.now;
      within = omega arith;
      steps = sym (append-nil c.args.steps.now.items);
      room = omega arith;
      told = before_none _;
      begun = omega arith;
      fits = omega arith;
    }

pub add_items-loop-version-preserved : goal.add_items-loop-version-preserved
add_items-loop-version-preserved g t c =
    let i = c.loop-version.invariant in
    let added = c.in-Ok.ensures.adds in
    let on : ends c.args.nested c.loop-version.rest.now ≡ false = grind (arith, common_steps) in
    let h : i.most ≡ suc (i.most - 1) = omega (arith, i.within, c.in-Ok.ensures.shorter) in
    let read = item c.args.version c.args.depth c.args.nested in
    let begun = item_step_count c.args.version c.args.depth c.args.nested in
    let one = some_at_item read begun c.args.nested c.loop-version.rest.now i.most (i.most - 1) added.0 c.in-Ok.unread.now h on added.1 in
    let before : length c.loop-version.steps.items ≡ length c.args.steps.now.items + length (flat i.front) =
    ap length i.steps ∙ length-append c.args.steps.now.items (flat i.front) in
    let more : length (flat (i.front ++ added.0 ∷ [])) ≡ length (flat i.front) + length (steps_of added.0) =
    ap length (flat_one i.front added.0) ∙ length-append (flat i.front) (steps_of added.0) in
    record {
      front = i.front ++ added.0 ∷ [];
      most = i.most - 1;
      within = omega (arith, i.within, c.in-Ok.ensures.shorter);
      steps = next_steps c.args.steps.now.items c.loop-version.steps.items c.add_item.new.steps.items i.front added.0 i.steps added.2;
      room = omega (arith, i.room, added.3);
      told = at_item read c.args.nested c.loop-version.rest.now _ i.front i.most i.told (i.most - 1) added.0 c.in-Ok.unread.now h on added.1;
      begun = omega (arith, i.begun, one, added.4, more);
      fits = omega (arith, i.fits, before, added.4, added.5, more);
    }

pub add_items-returns-in-Err-clause-adds : goal.add_items-returns-in-Err-clause-adds
add_items-returns-in-Err-clause-adds g t c =
    let i = c.loop-version.invariant in
    let on : ends c.args.nested c.loop-version.rest.now ≡ false = grind (arith, common_steps) in
    let some : 0 < i.most = omega (arith, i.within, not_ended c.args.nested c.loop-version.rest.now on) in
    let read = item c.args.version c.args.depth c.args.nested in
    let begun = item_step_count c.args.version c.args.depth c.args.nested in
    let before : length c.loop-version.steps.items ≡ length c.args.steps.now.items + length (flat i.front) =
    ap length i.steps ∙ length-append c.args.steps.now.items (flat i.front) in
    let least = some_at_least read begun c.args.nested c.loop-version.rest.now i.most some on in
    fault_on _ _ _ _ _ _ _ _ c.in-Err.ensures.adds i.room
    (λ l. omega (arith, l, i.begun, i.fits, before, least))
    (λ p. (
      at_fault read c.args.nested c.loop-version.rest.now _ i.front i.most i.told c.in-Err.fault some on p.0,
      omega (
        arith,
        p.1,
        i.begun,
        i.fits,
        before,
        some_at_fault read begun c.args.nested c.loop-version.rest.now i.most c.in-Err.fault some on p.0,
      ),
    ))

pub add_items-returns-clause-adds : goal.add_items-returns-clause-adds
add_items-returns-clause-adds g t c =
    let i = c.loop-version.invariant in
    let on : ends c.args.nested c.loop-version.rest.now ≡ true = grind (arith, common_steps) in
    let read = item c.args.version c.args.depth c.args.nested in
    let begun = item_step_count c.args.version c.args.depth c.args.nested in
    let none = none_at_end read begun c.args.nested c.loop-version.rest.now i.most on in (
      i.front,
      at_end read c.args.nested c.loop-version.rest.now _ i.front i.most i.told on,
      i.steps,
      i.room,
      omega (arith, i.begun, none),
      omega (arith, i.begun, none, i.fits),
    )

pub add_lists-loop-index-init : goal.add_lists-loop-index-init
add_lists-loop-index-init g t c =
    record {
      front = [];
      most = suc (length c.args.text.now);
      within = omega arith;
      steps = sym (append-nil c.args.steps.now.items);
      room = omega arith;
      told = before_none _;
      begun = omega arith;
      fits = omega arith;
    }

pub add_lists-returns-in_err-index : goal.add_lists-returns-in_err-index
add_lists-returns-in_err-index g t c =
    let i = c.loop-index.invariant in
    let e = c.in_err-index.ensures.err in
    let some : 0 < i.most = omega (arith, i.within) in
    let before : length c.loop-index.steps.items ≡ length c.args.steps.now.items + length (flat i.front) =
    ap length i.steps ∙ length-append c.args.steps.now.items (flat i.front) in
    let least = lists_at_least (item c.args.version c.args.depth true) (item_step_count c.args.version c.args.depth true) c.args.opening
    c.loop-index.inside.now i.most some in
    no_room flat g.row.N _ _ _ _ c.from_residual.result _ c.from_residual.ensures e.0 (omega (arith, e.1, i.room))
    (omega (arith, e.1, before, i.begun, i.fits, least))

pub add_lists-returns-in-Err : goal.add_lists-returns-in-Err
add_lists-returns-in-Err g t c =
    let i = c.loop-index.invariant in
    let opened = c.in_ok-index.ensures.ok in
    let some : 0 < i.most = omega (arith, i.within) in
    let read = item c.args.version c.args.depth true in
    let begun = item_step_count c.args.version c.args.depth true in
    let before : length c.loop-index.steps.items ≡ length c.args.steps.now.items + length (flat i.front) =
    ap length i.steps ∙ length-append c.args.steps.now.items (flat i.front) in
    let more : length c.open_group.new.steps.items ≡ length c.loop-index.steps.items + 1 =
    omega (arith, ap length opened.1, length-append c.loop-index.steps.items (step.Group groups.List 0 ∷ [])) in
    let h : length c.open_group.new.steps.items + length c.loop-index.inside.now ≤ length c.args.steps.now.items + (length c.args.text.now + 1) =
    omega (arith, i.room, more) in
    let least = lists_at_least read begun c.args.opening c.loop-index.inside.now i.most some in
    fault_on _ _ _ _ _ _ _ _ c.in-Err.ensures.adds h
    (λ l. omega (arith, l, i.begun, i.fits, before, more, least))
    (λ p. (
      at_list_fault (list_by read c.args.opening) c.loop-index.inside.now _ i.front i.most i.told c.in-Err.fault some p.0,
      omega (
        arith,
        p.1,
        i.begun,
        i.fits,
        before,
        more,
        opened.2,
        lists_at_fault read begun c.args.opening c.loop-index.inside.now i.most c.in-Err.fault some p.0,
      ),
    ))

pub add_lists-loop-index-preserved : goal.add_lists-loop-index-preserved
add_lists-loop-index-preserved g t c =
    let i = c.loop-index.invariant in
    let opened = c.in_ok-index.ensures.ok in
    let added = c.in-Ok.ensures.adds in
    let cur : List Step = c.loop-index.steps.items in
    let mid : List Step = c.add_list.new.steps.items in
    let new : List Step = c.close_group.new.steps.items in
    let read = item c.args.version c.args.depth true in
    let begun = item_step_count c.args.version c.args.depth true in
    let h : i.most ≡ suc (i.most - 1) = omega (arith, i.within) in
    let m = added.2 ∙ ap (λ (ss : List Step). ss ++ flat added.0) opened.1 in
    let s = c.close_group.ensures ∙ ap (λ (k : ℕ). slice_set mid k (step.Group groups.List (length mid - k - 1))) opened.0 in
    let n = closed_length cur mid new groups.List added.0 m s in
    let before : length cur ≡ length c.args.steps.now.items + length (flat i.front) =
    ap length i.steps ∙ length-append c.args.steps.now.items (flat i.front) in
    let more : length c.open_group.new.steps.items ≡ length cur + 1 =
    omega (arith, ap length opened.1, length-append cur (step.Group groups.List 0 ∷ [])) in
    let one = lists_at_next read begun c.args.opening c.loop-index.inside.now i.most (i.most - 1) added.0 c.in-Ok.rest.now c.in-Some.next.now
    h added.1 c.in-Some.ensures.found in
    let further : length (flat (i.front ++ group groups.List (items_of added.0) ∷ [])) ≡ length (flat i.front) + (1 + length (flat added.0)) =
    ap length (flat_one i.front (group groups.List (items_of added.0)))
    ∙ length-append (flat i.front) (steps_of (group groups.List (items_of added.0))) ∙ omega arith in
    record {
      front = i.front ++ group groups.List (items_of added.0) ∷ [];
      most = i.most - 1;
      within = omega (arith, i.within, c.in-Ok.ensures.shorter, c.in-Some.ensures.shorter);
      steps =
          next_steps c.args.steps.now.items cur new i.front (group groups.List (items_of added.0)) i.steps
          (closed_steps cur mid new groups.List added.0 m s);
      room = omega (arith, i.room, added.3, n, more, c.in-Some.ensures.shorter);
      told =
          at_list (list_by read c.args.opening) c.loop-index.inside.now _ i.front i.most i.told (i.most - 1) added.0 c.in-Ok.rest.now
          c.in-Some.next.now h added.1 c.in-Some.ensures.found;
      begun = omega (arith, i.begun, one, added.4, further);
      fits = omega (arith, i.fits, before, more, opened.2, added.4, added.5, further);
    }

pub add_lists-returns-in-None : goal.add_lists-returns-in-None
add_lists-returns-in-None g t c =
    let i = c.loop-index.invariant in
    let opened = c.in_ok-index.ensures.ok in
    let added = c.in-Ok.ensures.adds in
    let cur : List Step = c.loop-index.steps.items in
    let mid : List Step = c.add_list.new.steps.items in
    let new : List Step = c.close_group.new.steps.items in
    let read = item c.args.version c.args.depth true in
    let begun = item_step_count c.args.version c.args.depth true in
    let some : 0 < i.most = omega (arith, i.within) in
    let m = added.2 ∙ ap (λ (ss : List Step). ss ++ flat added.0) opened.1 in
    let s = c.close_group.ensures ∙ ap (λ (k : ℕ). slice_set mid k (step.Group groups.List (length mid - k - 1))) opened.0 in
    let n = closed_length cur mid new groups.List added.0 m s in
    let before : length cur ≡ length c.args.steps.now.items + length (flat i.front) =
    ap length i.steps ∙ length-append c.args.steps.now.items (flat i.front) in
    let more : length c.open_group.new.steps.items ≡ length cur + 1 =
    omega (arith, ap length opened.1, length-append cur (step.Group groups.List 0 ∷ [])) in
    let last = lists_at_last read begun c.args.opening c.loop-index.inside.now i.most added.0 c.in-Ok.rest.now some added.1 c.in-None.ensures.found in
    let further : length (flat (i.front ++ group groups.List (items_of added.0) ∷ [])) ≡ length (flat i.front) + (1 + length (flat added.0)) =
    ap length (flat_one i.front (group groups.List (items_of added.0)))
    ∙ length-append (flat i.front) (steps_of (group groups.List (items_of added.0))) ∙ omega arith in (
      i.front ++ group groups.List (items_of added.0) ∷ [],
      at_last (list_by read c.args.opening) c.loop-index.inside.now _ i.front i.most i.told added.0 c.in-Ok.rest.now some added.1 c.in-None.ensures.found,
      next_steps c.args.steps.now.items cur new i.front (group groups.List (items_of added.0)) i.steps
          (closed_steps cur mid new groups.List added.0 m s),
      omega (arith, i.room, added.3, n, more),
      omega (arith, i.begun, last, added.4, further),
      omega (arith, i.begun, last, i.fits, before, more, opened.2, added.4, added.5),
    )

pub add_list-returns-in-Err-clause-adds : goal.add_list-returns-in-Err-clause-adds
add_list-returns-in-Err-clause-adds g t c =
    fault_on _ _ _ _ _ _ _ _ c.in-Err.ensures.adds (omega arith) (λ l. l) (λ p. (rw p.0 refl, p.1))
