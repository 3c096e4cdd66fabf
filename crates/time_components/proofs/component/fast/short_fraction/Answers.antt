use Rattle.std.proofs.Common.{arith}
use Rattle.time_components.proofs.NameLemmas.{begun_more, begun_below}
use Rattle.time_components.proofs.component.fast.short_fraction.Goals as goal

pub overflow_add-nanoseconds : goal.overflow_add-nanoseconds
overflow_add-nanoseconds c =
    let more = begun_more _ c.loop-rest.rest.now c.loop-rest.unit c.loop-rest.nanoseconds c.from.result c.loop-rest.invariant
    c.in-48-to-57.len_at_least (omega arith, omega arith) c.from.ensures c.if-unit-eq0.false in
    let below = begun_below _ _ _ _ more in
    omega arith

pub loop-rest-preserved : goal.loop-rest-preserved
loop-rest-preserved c =
    begun_more _ c.loop-rest.rest.now c.loop-rest.unit c.loop-rest.nanoseconds c.from.result c.loop-rest.invariant
    c.in-48-to-57.len_at_least (omega arith, omega arith) c.from.ensures c.if-unit-eq0.false
