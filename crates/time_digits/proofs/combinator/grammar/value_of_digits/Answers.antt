use Rattle.std.proofs.Common.{arith, ◌≡◌, ◌+◌, ◌<◌, length}
use Rattle.time_digits.proofs.Runs.{AllDigits-at, digits_value-more, digits_value-last, digits_value-fits}
use Rattle.time_digits.proofs.combinator.grammar.value_of_digits.Goals as goal

pub overflow_sub-digit : goal.overflow_sub-digit
overflow_sub-digit g c =
    omega (arith, AllDigits-at c.args.digits.now c.loop-count.count c.requires.all c.loop-count-test.true)

pub push_digit-value-requires-clause-one_digit : goal.push_digit-value-requires-clause-one_digit
push_digit-value-requires-clause-one_digit g c =
    omega (arith, AllDigits-at c.args.digits.now c.loop-count.count c.requires.all c.loop-count-test.true)

pub push_digit-value-requires-clause-fits : goal.push_digit-value-requires-clause-fits
push_digit-value-requires-clause-fits g c =
    let places = g.T.Integer.MAX_NUM_DIGITS in
    let few : c.loop-count.count + 1 < places = omega arith in
    let fits = digits_value-fits c.args.digits.now c.loop-count.count places g.T.Integer.greatest c.requires.all
    c.loop-count-test.true g.met.T.Integer.room few in
    omega (arith, c.loop-count.invariant.is)

pub loop-count-preserved-then-count-from : goal.loop-count-preserved-then-count-from
loop-count-preserved-then-count-from g c =
    let places = g.T.Integer.MAX_NUM_DIGITS in
    let few : c.loop-count.count + 1 < places = omega arith in
    let fits = digits_value-fits c.args.digits.now c.loop-count.count places g.T.Integer.greatest c.requires.all
    c.loop-count-test.true g.met.T.Integer.room few in
    let more = digits_value-more c.args.digits.now c.loop-count.count c.loop-count-test.true in
    record {
      in_range = omega arith;
      is = omega (arith, c.push_digit-value.ensures, c.loop-count.invariant.is);
      fits = omega (arith, c.push_digit-value.ensures, c.loop-count.invariant.is);
    }

pub checked_push_digit-requires : goal.checked_push_digit-requires
checked_push_digit-requires g c =
    omega (arith, AllDigits-at c.args.digits.now c.loop-count.count c.requires.all c.loop-count-test.true)

pub returns-in_err-value : goal.returns-in_err-value
returns-in_err-value g c =
    let last : c.loop-count.count + 1 ≡ length c.args.digits.now = omega (arith, c.requires.most) in
    let whole = digits_value-last c.args.digits.now c.loop-count.count last in
    rw c.from_residual.ensures (omega (arith, c.in_err-value.ensures, c.loop-count.invariant.is))

pub loop-count-preserved : goal.loop-count-preserved
loop-count-preserved g c =
    let more = digits_value-more c.args.digits.now c.loop-count.count c.loop-count-test.true in
    record {
      in_range = omega arith;
      is = omega (arith, c.in_ok-value.ensures.0, c.loop-count.invariant.is);
      fits = omega (arith, c.in_ok-value.ensures.0, c.in_ok-value.ensures.1);
    }
