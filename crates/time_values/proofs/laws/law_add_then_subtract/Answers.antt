use Rattle.std.proofs.Common.{arith, subst}
use Rattle.std.proofs.lemmas.Int.{ints}
use Rattle.time_values.specs.Instants.{IsInstant}
use Rattle.time_values.specs.Calendar.{greatest_year}
use Rattle.time_values.proofs.InstantLemmas.{clock_nanos_range, same_moment}
use Rattle.time_values.proofs.laws.law_add_then_subtract.Goals as goal

pub unreachable-requires : goal.unreachable-requires
unreachable-requires c =
    let v = c.args.value in
    let added = c.in_ok-later.ensures.value in
    c.in-None.ensures.none (subst (IsInstant greatest_year) (omega (arith, ints, added)) (clock_nanos_range v.date v.time))

pub returns-clause-date : goal.returns-clause-date
returns-clause-date c =
    let v = c.args.value in
    let back = c.in-Some.back in
    let added = c.in_ok-later.ensures.value in
    let taken = c.in-Some.ensures.value in
    (same_moment back.date v.date back.time v.time (omega (arith, ints, added, taken))).0

pub returns-clause-time : goal.returns-clause-time
returns-clause-time c =
    let v = c.args.value in
    let back = c.in-Some.back in
    let added = c.in_ok-later.ensures.value in
    let taken = c.in-Some.ensures.value in
    (same_moment back.date v.date back.time v.time (omega (arith, ints, added, taken))).1
