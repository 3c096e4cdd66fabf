use Rattle.std.proofs.Common.{arith}
use Rattle.time_digits.proofs.Fractions.{fraction_none, fraction_fits, fraction_cut}
use Rattle.time_digits.proofs.combinator.grammar.fraction.Goals as goal

pub returns-in_default : goal.returns-in_default
returns-in_default c = fraction_none 4294967295 c.args.input.now (omega arith) c.in_default.ensures

pub overflow_mul-nanoseconds : goal.overflow_mul-nanoseconds
overflow_mul-nanoseconds c =
    let most = fraction_fits c.args.input.now c.in-Some.found.0.now c.in-Some.found.1 c.nanoseconds_of_place.result 4294967295
    c.in-Some.ensures c.nanoseconds_of_place.ensures in
    omega arith

pub returns : goal.returns
returns c =
    let found = c.in-Some.found in
    fraction_cut c.args.input.now found.0.now c.without_digits.result.now found.1 c.nanoseconds_of_place.result 4294967295
    c.in-Some.ensures c.nanoseconds_of_place.ensures c.without_digits.ensures
