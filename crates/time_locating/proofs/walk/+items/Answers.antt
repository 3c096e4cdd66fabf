use Rattle.std.proofs.Common.{refl, sym, ◌∙◌, arith, rules}
use Rattle.time_record.proofs.Counting.{places-item}
use Rattle.time_record.proofs.Unique.{trees_from-end, trees_from-item}
use Rattle.time_locating.specs.Misses.{Misses}
use Rattle.time_locating.proofs.TurnSteps.{Passes-kept, Passes-misses, Passes-none, Passes-nothing, Passes-reads, Passes-unread, no_trees, some_trees, optional_reads, Follows-end, Follows-kept, Follows-misses, Follows-reads, Follows-unread}
use Rattle.time_locating.proofs.MarkSteps.{CarriesAll-end, CarriesAll-reads, CarriesFirst-reads, CarriesFirst-unread, marks_read, marks_unread, no_marks, empty_length, some_length}
use Rattle.time_locating.proofs.walk.+items.Goals as goal

pub walk-returns-in-Literal-clause-misses : goal.walk-returns-in-Literal-clause-misses
walk-returns-in-Literal-clause-misses g t c = rw c.in-Literal.ensures (c.literal.ensures.misses c.args.parsed.now)

pub walk-returns-in-Literal-clause-marks : goal.walk-returns-in-Literal-clause-marks
walk-returns-in-Literal-clause-marks g t c = rw c.in-Literal.ensures (c.literal.ensures.marks c.args.parsed.now c.args.name.now)

pub walk-returns-in-List-clause-misses : goal.walk-returns-in-List-clause-misses
unfolding Misses
walk-returns-in-List-clause-misses g t c = rw c.in-List.ensures c.walk_all.ensures.misses

pub walk-returns-in-Optional-clause-reads : goal.walk-returns-in-Optional-clause-reads
walk-returns-in-Optional-clause-reads g t c =
    rw (c.in-Optional.ensures, c.unwrap_or.ensures)
    (optional_reads _ c.args.input.now _ c.walk-walked.result.rest c.args.input _ refl c.walk-walked.ensures.reads)

pub walk-returns-in-Optional-clause-misses : goal.walk-returns-in-Optional-clause-misses
unfolding Misses
walk-returns-in-Optional-clause-misses g t c = rw c.in-Optional.ensures c.walk-walked.ensures.misses

pub walk-returns-in-Optional-clause-marks : goal.walk-returns-in-Optional-clause-marks
walk-returns-in-Optional-clause-marks g t c =
    let read = optional_reads _ c.args.input.now _ c.walk-walked.result.rest c.args.input _ refl c.walk-walked.ensures.reads in
    rw c.in-Optional.ensures (marks_read _ _ _ _ _ _ _ read c.walk-walked.ensures.marks)

pub walk-returns-in-First-clause-misses : goal.walk-returns-in-First-clause-misses
unfolding Misses
walk-returns-in-First-clause-misses g t c = rw c.in-First.ensures c.walk_first.ensures.misses

pub walk_all-walk-walked-requires : goal.walk_all-walk-walked-requires
walk_all-walk-walked-requires g t c κs within =
    let least = places-item g.I.Inspect.shape c.args.items.now _ _ (omega arith) c.item-item.is in search rules

pub walk_first-walk-walked-requires : goal.walk_first-walk-walked-requires
walk_first-walk-walked-requires g t c κs within =
    let least = places-item g.I.Inspect.shape c.args.items.now _ _ (omega arith) c.item-item.is in search rules

pub walk_all-returns-in-None-clause-reads : goal.walk_all-returns-in-None-clause-reads
walk_all-returns-in-None-clause-reads g t c =
    let is = trees_from-item g.I.Inspect.shape c.args.items.now _ _ (omega arith) c.item-item.is in
    let read = rw c.in-None.is at c.walk-walked.ensures.reads in
    record { unread = Follows-unread c.loop-item.invariant.0 _ _ is c.walk-walked.ensures.misses read.unread; same = refl }

pub walk_all-returns-in-None-clause-misses : goal.walk_all-returns-in-None-clause-misses
walk_all-returns-in-None-clause-misses g t c =
    let is = trees_from-item g.I.Inspect.shape c.args.items.now _ _ (omega arith) c.item-item.is in
    let read = rw c.in-None.is at c.walk-walked.ensures.reads in
    rw c.further-furthest.ensures (Follows-misses c.loop-item.invariant.0 _ _ is c.walk-walked.ensures.misses read.unread)

pub walk_all-returns-in-None-clause-marks : goal.walk_all-returns-in-None-clause-marks
walk_all-returns-in-None-clause-marks g t c =
    let is = trees_from-item g.I.Inspect.shape c.args.items.now _ _ (omega arith) c.item-item.is in
    let read = rw c.in-None.is at c.walk-walked.ensures.reads in
    marks_unread _ _ _ _ (Follows-unread c.loop-item.invariant.0 _ _ is c.walk-walked.ensures.misses read.unread)

pub walk_all-loop-item-preserved : goal.walk_all-loop-item-preserved
walk_all-loop-item-preserved g t c =
    let is = trees_from-item g.I.Inspect.shape c.args.items.now _ _ (omega arith) c.item-item.is in
    let read = rw c.in-Some.is at c.walk-walked.ensures.reads in (
      rw c.further-furthest.ensures (Follows-reads c.loop-item.invariant.0 _ _ is c.walk-walked.ensures.misses read),
      rw c.or-last.ensures (CarriesAll-reads c.loop-item.invariant.1 _ _ is _ _ _ read c.walk-walked.ensures.marks),
    )

pub walk_all-returns-clause-reads : goal.walk_all-returns-clause-reads
walk_all-returns-clause-reads g t c =
    Follows-end c.loop-item.invariant.0 (trees_from-end g.I.Inspect.shape c.args.items.now c.loop-item.item-index (omega arith))

pub walk_all-returns-clause-misses : goal.walk_all-returns-clause-misses
walk_all-returns-clause-misses g t c =
    Follows-kept c.loop-item.invariant.0 (trees_from-end g.I.Inspect.shape c.args.items.now c.loop-item.item-index (omega arith))

pub walk_all-returns-clause-marks : goal.walk_all-returns-clause-marks
walk_all-returns-clause-marks g t c =
    let end = trees_from-end g.I.Inspect.shape c.args.items.now c.loop-item.item-index (omega arith) in
    CarriesAll-end c.loop-item.invariant.1 end (Follows-end c.loop-item.invariant.0 end)

pub walk_first-returns-in-Some-clause-reads : goal.walk_first-returns-in-Some-clause-reads
walk_first-returns-in-Some-clause-reads g t c =
    let is = trees_from-item g.I.Inspect.shape c.args.items.now _ _ (omega arith) c.item-item.is in
    Passes-reads c.loop-item.invariant.0 _ _ is _ _ (rw c.in-Some.is at c.walk-walked.ensures.reads)

pub walk_first-returns-in-Some-clause-misses : goal.walk_first-returns-in-Some-clause-misses
walk_first-returns-in-Some-clause-misses g t c =
    let is = trees_from-item g.I.Inspect.shape c.args.items.now _ _ (omega arith) c.item-item.is in
    rw c.further-furthest.ensures
    (Passes-misses c.loop-item.invariant.0 _ _ is c.walk-walked.ensures.misses _ _ (rw c.in-Some.is at c.walk-walked.ensures.reads))

pub walk_first-returns-in-Some-clause-marks : goal.walk_first-returns-in-Some-clause-marks
walk_first-returns-in-Some-clause-marks g t c =
    let is = trees_from-item g.I.Inspect.shape c.args.items.now _ _ (omega arith) c.item-item.is in
    let read = rw c.in-Some.is at c.walk-walked.ensures.reads in
    CarriesFirst-reads c.loop-item.invariant.1 _ _ is c.loop-item.invariant.0.same _ _ _ read c.walk-walked.ensures.marks
    (Passes-reads c.loop-item.invariant.0 _ _ is _ _ read)

pub walk_first-loop-item-preserved : goal.walk_first-loop-item-preserved
walk_first-loop-item-preserved g t c =
    let is = trees_from-item g.I.Inspect.shape c.args.items.now _ _ (omega arith) c.item-item.is in
    let read = rw c.in_default.is at c.walk-walked.ensures.reads in (
      rw c.further-furthest.ensures (Passes-unread c.loop-item.invariant.0 _ _ is c.walk-walked.ensures.misses read.unread read.same),
      CarriesFirst-unread c.loop-item.invariant.1 _ _ is c.loop-item.invariant.0.same read.unread,
    )

pub walk_first-returns-clause-reads : goal.walk_first-returns-clause-reads
walk_first-returns-clause-reads g t c =
    let some = some_length _ (sym c.is_empty.ensures ∙ c.if-is_empty.false) in
    let end = trees_from-end g.I.Inspect.shape c.args.items.now c.loop-item.item-index (omega arith) in
    let nonempty = some_trees g.I.Inspect.shape c.args.items.now (λ is. omega arith) in
    record { unread = Passes-nothing c.loop-item.invariant.0 end nonempty; same = c.loop-item.invariant.0.same }

pub walk_first-returns-then-is_empty-clause-reads : goal.walk_first-returns-then-is_empty-clause-reads
walk_first-returns-then-is_empty-clause-reads g t c =
    let none = empty_length _ (sym c.is_empty.ensures ∙ c.if-is_empty.true) in
    Passes-none c.loop-item.invariant.0 (no_trees g.I.Inspect.shape c.args.items.now none)

pub walk_first-returns-then-is_empty-clause-misses : goal.walk_first-returns-then-is_empty-clause-misses
walk_first-returns-then-is_empty-clause-misses g t c =
    Passes-kept c.loop-item.invariant.0 (trees_from-end g.I.Inspect.shape c.args.items.now c.loop-item.item-index (omega arith))

pub walk_first-returns-clause-misses : goal.walk_first-returns-clause-misses
walk_first-returns-clause-misses g t c =
    Passes-kept c.loop-item.invariant.0 (trees_from-end g.I.Inspect.shape c.args.items.now c.loop-item.item-index (omega arith))

pub walk_first-returns-then-is_empty-clause-marks : goal.walk_first-returns-then-is_empty-clause-marks
walk_first-returns-then-is_empty-clause-marks g t c =
    let none = empty_length _ (sym c.is_empty.ensures ∙ c.if-is_empty.true) in
    let is = no_trees g.I.Inspect.shape c.args.items.now none in
    no_marks _ _ _ _ _ is (Passes-none c.loop-item.invariant.0 is)

pub walk_first-returns-clause-marks : goal.walk_first-returns-clause-marks
walk_first-returns-clause-marks g t c =
    let some = some_length _ (sym c.is_empty.ensures ∙ c.if-is_empty.false) in
    let end = trees_from-end g.I.Inspect.shape c.args.items.now c.loop-item.item-index (omega arith) in
    let nonempty = some_trees g.I.Inspect.shape c.args.items.now (λ is. omega arith) in
    marks_unread _ _ _ _ (Passes-nothing c.loop-item.invariant.0 end nonempty)
