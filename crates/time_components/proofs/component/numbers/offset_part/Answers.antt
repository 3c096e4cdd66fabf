use Rattle.std.proofs.Common.{◌≡◌, ◌<◌, ◌^◌, ap, arith, pos, to_z, w8}
use Rattle.std.proofs.lemmas.Int.{ints}
use Rattle.time_components.specs.Spelling.{signed}
use Rattle.time_digits.proofs.Runs.{IsPaddedRun-below}
use Rattle.time_components.proofs.component.numbers.offset_part.Goals as goal

pub overflow_cast-result : goal.overflow_cast-result
overflow_cast-result c =
    let below : c.in_ok-part.part.1 < 10 ^ 2 =
    IsPaddedRun-below c.args.padding 2 2 c.in_ok-part.ensures.0 c.in_ok-part.part.0.now c.in_ok-part.part.1 c.in_ok-part.ensures.2 in
    omega (arith, ints)

pub returns : goal.returns
returns c =
    let below : c.in_ok-part.part.1 < 10 ^ 2 =
    IsPaddedRun-below c.args.padding 2 2 c.in_ok-part.ensures.0 c.in_ok-part.part.0.now c.in_ok-part.part.1 c.in_ok-part.ensures.2 in
    let same : to_z w8 c.in_ok-part.part.1 ≡ pos c.in_ok-part.part.1 = omega (arith, ints) in
    (c.in_ok-part.ensures.0, c.in_ok-part.ensures.1, (c.in_ok-part.part.1, ap signed same, c.in_ok-part.ensures.2))
