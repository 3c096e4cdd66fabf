use Rattle.time_values.specs.Calendar.{greatest_year}
use Rattle.std.proofs.Common.{sym, ◌∙◌}
use Rattle.time_locating.specs.Located.{erased_miss}
use Rattle.time_locating.proofs.MarkSteps.{located, longer_text, nothing_left, some_bytes, some_length, unread_text}
use Rattle.time_locating.proofs.mark.place.Goals as goal

pub returns-then-is_empty-clause-tree : goal.returns-then-is_empty-clause-tree
returns-then-is_empty-clause-tree c told t r q reads misses =
    nothing_left t c.args.input.now r c.in-Some.rest.now q (sym c.is_empty.ensures ∙ c.if-is_empty.true)
    (rw c.in-Some.is at reads)

pub returns-else-is_empty-clause-tree : goal.returns-else-is_empty-clause-tree
returns-else-is_empty-clause-tree c told t r q reads misses =
    let bytes = c.args.input.now in
    let rest = c.in-Some.rest.now in
    let read = rw c.in-Some.is at reads in
    let some = some_bytes rest (some_length _ (sym c.is_empty.ensures ∙ c.if-is_empty.false)) in
    let text = longer_text told t bytes r rest q (erased_miss c.args.missed) read some misses in
    located told t bytes r (erased_miss c.further.result) c.located.result (rw c.further.ensures text) c.located.ensures

pub returns-in-None-clause-tree : goal.returns-in-None-clause-tree
returns-in-None-clause-tree c told t r q reads misses =
    let bytes = c.args.input.now in
    let unread = rw c.in-None.is at reads in
    let text = unread_text told t bytes r (erased_miss c.args.missed) unread.unread misses in
    located told t bytes r (erased_miss c.args.missed) c.located-in-None.result text c.located-in-None.ensures
