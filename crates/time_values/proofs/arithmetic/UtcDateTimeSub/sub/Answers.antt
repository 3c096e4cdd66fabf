use Rattle.std.proofs.Common.{arith}
use Rattle.std.proofs.lemmas.Int.{ints}
use Rattle.time_values.proofs.InstantLemmas.{clock_nanos_near}
use Rattle.time_values.proofs.arithmetic.UtcDateTimeSub.sub.Goals as goal

pub between-requires : goal.between-requires
between-requires c =
    let a = clock_nanos_near c.args.self.date c.args.self.time in
    let b = clock_nanos_near c.args.rhs.date c.args.rhs.time in
    ((omega (arith, ints, a), omega (arith, ints, a)), (omega (arith, ints, b), omega (arith, ints, b)))

pub returns : goal.returns
returns c =
    let a = clock_nanos_near c.args.self.date c.args.self.time in
    let b = clock_nanos_near c.args.rhs.date c.args.rhs.time in
    omega (arith, ints, a, b)
