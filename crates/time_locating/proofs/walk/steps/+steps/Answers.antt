use Rattle.std.proofs.Common.{◌≡◌, get_or, refl, ap, sym, subst, ◌∙◌, arith, false}
use Rattle.time_components.specs.Tree.{steps_trees, tree_at, component, more, none}
use Rattle.time_record.proofs.WalkSteps.{behind_first}
use Rattle.time_locating.specs.Misses.{Misses}
use Rattle.time_locating.proofs.TurnSteps.{Passes-kept, Passes-misses, Passes-none, Passes-nothing, Passes-reads, Passes-unread, optional_reads, Follows-end, Follows-kept, Follows-misses, Follows-reads, Follows-unread}
use Rattle.time_locating.proofs.MarkSteps.{CarriesAll-end, CarriesAll-reads, CarriesFirst-reads, CarriesFirst-unread, marks_read, marks_unread, no_marks, empty_length, some_length}
use Rattle.time_locating.proofs.MissLemmas.{first_tree, group_inside, literal_tree, no_item, no_steps, some_steps}
use Rattle.time_locating.proofs.walk.steps.+steps.Goals as goal

pub walk_first-returns-in-Some-rest-clause-reads : goal.walk_first-returns-in-Some-rest-clause-reads
walk_first-returns-in-Some-rest-clause-reads t c =
    let s = c.in-Some.ensures in
    Passes-reads c.loop-item.invariant.0 s.tree _ s.all _ _ (rw c.in-Some-rest.is at (c.walk_item-walked.ensures.reads s.tree s.alone))

pub walk_first-returns-in-Some-rest-clause-misses : goal.walk_first-returns-in-Some-rest-clause-misses
walk_first-returns-in-Some-rest-clause-misses t c =
    let s = c.in-Some.ensures in
    let read = rw c.in-Some-rest.is at (c.walk_item-walked.ensures.reads s.tree s.alone) in
    rw c.further-furthest.ensures
    (Passes-misses c.loop-item.invariant.0 s.tree _ s.all (c.walk_item-walked.ensures.misses s.tree s.alone) _ _ read)

pub walk_first-returns-in-Some-rest-clause-marks : goal.walk_first-returns-in-Some-rest-clause-marks
walk_first-returns-in-Some-rest-clause-marks t c =
    let s = c.in-Some.ensures in
    let read = rw c.in-Some-rest.is at (c.walk_item-walked.ensures.reads s.tree s.alone) in
    CarriesFirst-reads c.loop-item.invariant.2 s.tree _ s.all c.loop-item.invariant.0.same _ _ _ read (c.walk_item-walked.ensures.marks s.tree s.alone)
    (Passes-reads c.loop-item.invariant.0 s.tree _ s.all _ _ read)

pub walk_first-loop-item-preserved : goal.walk_first-loop-item-preserved
walk_first-loop-item-preserved t c =
    let s = c.in-Some.ensures in
    let read = rw c.in_default-rest.is at (c.walk_item-walked.ensures.reads s.tree s.alone) in
    let missed = c.walk_item-walked.ensures.misses s.tree s.alone in (
      rw c.further-furthest.ensures (Passes-unread c.loop-item.invariant.0 s.tree _ s.all missed read.unread read.same),
      omega (arith, s.fewer, c.loop-item.invariant.1),
      CarriesFirst-unread c.loop-item.invariant.2 s.tree _ s.all c.loop-item.invariant.0.same read.unread,
    )

pub walk_first-returns-then-is_empty-clause-reads : goal.walk_first-returns-then-is_empty-clause-reads
walk_first-returns-then-is_empty-clause-reads t c =
    Passes-none c.loop-item.invariant.0 (no_steps c.args.steps.now (empty_length _ (sym c.is_empty.ensures ∙ c.if-is_empty.true)))

pub walk_first-returns-then-is_empty-clause-misses : goal.walk_first-returns-then-is_empty-clause-misses
walk_first-returns-then-is_empty-clause-misses t c =
    Passes-kept c.loop-item.invariant.0 (no_steps c.loop-item.left.now c.in_default.ensures)

pub walk_first-returns-then-is_empty-clause-marks : goal.walk_first-returns-then-is_empty-clause-marks
walk_first-returns-then-is_empty-clause-marks t c =
    let is = no_steps c.args.steps.now (empty_length _ (sym c.is_empty.ensures ∙ c.if-is_empty.true)) in
    no_marks _ _ _ _ _ is (Passes-none c.loop-item.invariant.0 is)

pub walk_first-returns-clause-marks : goal.walk_first-returns-clause-marks
walk_first-returns-clause-marks t c =
    let some = some_length _ (sym c.is_empty.ensures ∙ c.if-is_empty.false) in
    marks_unread _ _ _ _ (Passes-nothing c.loop-item.invariant.0 (no_steps c.loop-item.left.now c.in_default.ensures)
    (λ is. let short = some_steps c.args.steps.now is in omega arith))

pub walk_first-returns-clause-reads : goal.walk_first-returns-clause-reads
walk_first-returns-clause-reads t c =
    let some = some_length _ (sym c.is_empty.ensures ∙ c.if-is_empty.false) in
    record {
      unread = Passes-nothing c.loop-item.invariant.0 (no_steps c.loop-item.left.now c.in_default.ensures)
          (λ is. let short = some_steps c.args.steps.now is in omega arith);
      same = c.loop-item.invariant.0.same;
    }

pub walk_first-returns-clause-misses : goal.walk_first-returns-clause-misses
walk_first-returns-clause-misses t c = Passes-kept c.loop-item.invariant.0 (no_steps c.loop-item.left.now c.in_default.ensures)

pub walk_group-returns-in-Optional-clause-reads : goal.walk_group-returns-in-Optional-clause-reads
walk_group-returns-in-Optional-clause-reads t c =
    rw (c.in-Optional.is, c.unwrap_or.ensures)
    (optional_reads _ c.args.input.now _ c.walk_list-walked.result.rest c.args.input _ refl c.walk_list-walked.ensures.reads)

pub walk_group-returns-in-Optional-clause-misses : goal.walk_group-returns-in-Optional-clause-misses
unfolding Misses
walk_group-returns-in-Optional-clause-misses t c = rw c.in-Optional.is c.walk_list-walked.ensures.misses

pub walk_group-returns-in-Optional-clause-marks : goal.walk_group-returns-in-Optional-clause-marks
walk_group-returns-in-Optional-clause-marks t c =
    let read = optional_reads _ c.args.input.now _ c.walk_list-walked.result.rest c.args.input _ refl c.walk_list-walked.ensures.reads in
    rw c.in-Optional.is (marks_read _ _ _ _ _ _ _ read c.walk_list-walked.ensures.marks)

pub walk_group-returns-in-First-clause-misses : goal.walk_group-returns-in-First-clause-misses
unfolding Misses
walk_group-returns-in-First-clause-misses t c = rw c.in-First.is c.walk_first.ensures.misses

pub walk_item-returns-in_default-clause-reads : goal.walk_item-returns-in_default-clause-reads
walk_item-returns-in_default-clause-reads t c tree is = absurd (no_item c.args.item.now tree (omega (arith, c.in_default.len_below)) is)

pub walk_item-returns-in_default-clause-misses : goal.walk_item-returns-in_default-clause-misses
walk_item-returns-in_default-clause-misses t c tree is = absurd (no_item c.args.item.now tree (omega (arith, c.in_default.len_below)) is)

pub walk_item-returns-in_default-clause-marks : goal.walk_item-returns-in_default-clause-marks
walk_item-returns-in_default-clause-marks t c tree is = absurd (no_item c.args.item.now tree (omega (arith, c.in_default.len_below)) is)

pub walk_item-returns-in-Component-clause-reads : goal.walk_item-returns-in-Component-clause-reads
walk_item-returns-in-Component-clause-reads t c tree is =
    let behind = behind_first c.args.item.now in
    let one : tree ≡ component false c.in-Component.component =
    first_tree c.args.item.now _ tree c.in-len1-up.len_at_least c.step-item.is is ∙ ap (λ y. tree_at steps_trees y behind) c.in-Component.is in
    rw one c.read_component.ensures.reads

pub walk_item-returns-in-Component-clause-misses : goal.walk_item-returns-in-Component-clause-misses
unfolding Misses
walk_item-returns-in-Component-clause-misses t c tree is =
    let behind = behind_first c.args.item.now in
    let one : tree ≡ component false c.in-Component.component =
    first_tree c.args.item.now _ tree c.in-len1-up.len_at_least c.step-item.is is ∙ ap (λ y. tree_at steps_trees y behind) c.in-Component.is in
    rw one c.read_component.ensures.misses

pub walk_item-returns-in-Component-clause-marks : goal.walk_item-returns-in-Component-clause-marks
walk_item-returns-in-Component-clause-marks t c tree is =
    let behind = behind_first c.args.item.now in
    let one : tree ≡ component false c.in-Component.component =
    first_tree c.args.item.now _ tree c.in-len1-up.len_at_least c.step-item.is is ∙ ap (λ y. tree_at steps_trees y behind) c.in-Component.is in
    rw one c.read_component.ensures.marks

pub walk_item-returns-in-Group-clause-reads : goal.walk_item-returns-in-Group-clause-reads
walk_item-returns-in-Group-clause-reads t c tree is =
    let first = subst (λ y. y ≡ get_or c.args.item.now 0 y) c.in-Group.is c.step-item.is in
    let one = group_inside c.args.item.now _ _ tree c.in-len1-up.len_at_least first is in
    rw one c.walk_group.ensures.reads

pub walk_item-returns-in-Group-clause-misses : goal.walk_item-returns-in-Group-clause-misses
walk_item-returns-in-Group-clause-misses t c tree is =
    let first = subst (λ y. y ≡ get_or c.args.item.now 0 y) c.in-Group.is c.step-item.is in
    let one = group_inside c.args.item.now _ _ tree c.in-len1-up.len_at_least first is in
    rw one c.walk_group.ensures.misses

pub walk_item-returns-in-Group-clause-marks : goal.walk_item-returns-in-Group-clause-marks
walk_item-returns-in-Group-clause-marks t c tree is =
    let first = subst (λ y. y ≡ get_or c.args.item.now 0 y) c.in-Group.is c.step-item.is in
    let one = group_inside c.args.item.now _ _ tree c.in-len1-up.len_at_least first is in
    rw one c.walk_group.ensures.marks

pub walk_item-returns-in-Literal-clause-reads : goal.walk_item-returns-in-Literal-clause-reads
walk_item-returns-in-Literal-clause-reads t c tree is =
    let one = literal_tree c.args.item.now _ c.in-Literal.byte tree c.in-len1-up.len_at_least c.step-item.is is c.in-Literal.is in
    rw one (c.literal.ensures.reads (is ∙ ap (λ u. more u none) one))

pub walk_item-returns-in-Literal-clause-misses : goal.walk_item-returns-in-Literal-clause-misses
walk_item-returns-in-Literal-clause-misses t c tree is =
    let one = literal_tree c.args.item.now _ c.in-Literal.byte tree c.in-len1-up.len_at_least c.step-item.is is c.in-Literal.is in
    rw one (c.literal.ensures.misses (is ∙ ap (λ u. more u none) one))

pub walk_item-returns-in-Literal-clause-marks : goal.walk_item-returns-in-Literal-clause-marks
walk_item-returns-in-Literal-clause-marks t c tree is =
    let one = literal_tree c.args.item.now _ c.in-Literal.byte tree c.in-len1-up.len_at_least c.step-item.is is c.in-Literal.is in
    rw one (c.literal.ensures.marks c.args.name.now (is ∙ ap (λ u. more u none) one))

pub walk_list-returns-in-None-clause-reads : goal.walk_list-returns-in-None-clause-reads
walk_list-returns-in-None-clause-reads t c =
    let s = c.in-Some.ensures in
    let read = rw c.in-None.is at (c.walk_item-walked.ensures.reads s.tree s.alone) in
    record { unread = Follows-unread c.loop-item.invariant.0 s.tree _ s.all (c.walk_item-walked.ensures.misses s.tree s.alone) read.unread; same = refl }

pub walk_list-returns-in-None-clause-misses : goal.walk_list-returns-in-None-clause-misses
unfolding Misses
walk_list-returns-in-None-clause-misses t c =
    let s = c.in-Some.ensures in
    let read = rw c.in-None.is at (c.walk_item-walked.ensures.reads s.tree s.alone) in
    rw c.further-furthest.ensures
    (Follows-misses c.loop-item.invariant.0 s.tree _ s.all (c.walk_item-walked.ensures.misses s.tree s.alone) read.unread)

pub walk_list-returns-in-None-clause-marks : goal.walk_list-returns-in-None-clause-marks
walk_list-returns-in-None-clause-marks t c =
    let s = c.in-Some.ensures in
    let read = rw c.in-None.is at (c.walk_item-walked.ensures.reads s.tree s.alone) in
    marks_unread _ _ _ _ (Follows-unread c.loop-item.invariant.0 s.tree _ s.all (c.walk_item-walked.ensures.misses s.tree s.alone) read.unread)

pub walk_list-loop-item-preserved : goal.walk_list-loop-item-preserved
walk_list-loop-item-preserved t c =
    let s = c.in-Some.ensures in
    let read = rw c.in-Some-rest.is at (c.walk_item-walked.ensures.reads s.tree s.alone) in (
      rw c.further-furthest.ensures
          (Follows-reads c.loop-item.invariant.0 s.tree _ s.all (c.walk_item-walked.ensures.misses s.tree s.alone) read),
      omega (arith, s.fewer, c.loop-item.invariant.1),
      rw c.or-last.ensures (CarriesAll-reads c.loop-item.invariant.2 s.tree _ s.all _ _ _ read (c.walk_item-walked.ensures.marks s.tree s.alone)),
    )

pub walk_list-returns-clause-reads : goal.walk_list-returns-clause-reads
walk_list-returns-clause-reads t c = Follows-end c.loop-item.invariant.0 (no_steps c.loop-item.left.now c.in_default.ensures)

pub walk_list-returns-clause-misses : goal.walk_list-returns-clause-misses
unfolding Misses
walk_list-returns-clause-misses t c = Follows-kept c.loop-item.invariant.0 (no_steps c.loop-item.left.now c.in_default.ensures)

pub walk_list-returns-clause-marks : goal.walk_list-returns-clause-marks
walk_list-returns-clause-marks t c =
    let end = no_steps c.loop-item.left.now c.in_default.ensures in
    CarriesAll-end c.loop-item.invariant.2 end (Follows-end c.loop-item.invariant.0 end)
