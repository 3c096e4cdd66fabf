use Rattle.std.proofs.Common.{arith}
use Rattle.std.proofs.lemmas.Int.{ints}
use Rattle.time_values.proofs.InstantLemmas.{instant_near}
use Rattle.time_values.proofs.arithmetic.OffsetDateTimeSub.sub.Goals as goal

pub between-requires : goal.between-requires
between-requires c =
    let a = instant_near c.args.self.date c.args.self.time c.args.self.offset in
    let b = instant_near c.args.rhs.date c.args.rhs.time c.args.rhs.offset in
    ((omega (arith, ints, a), omega (arith, ints, a)), (omega (arith, ints, b), omega (arith, ints, b)))

pub returns : goal.returns
returns c =
    let a = instant_near c.args.self.date c.args.self.time c.args.self.offset in
    let b = instant_near c.args.rhs.date c.args.rhs.time c.args.rhs.offset in
    omega (arith, ints, a, b)
