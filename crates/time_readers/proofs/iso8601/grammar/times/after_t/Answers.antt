use Rattle.std.proofs.Common.{arith}
use Rattle.time_readers.proofs.IsoTimes.{no_hour, hour_past, hour_and_fraction_stand, number_and_fraction}
use Rattle.time_readers.proofs.iso8601.grammar.times.after_t.Goals as goal

pub returns-in_err-found : goal.returns-in_err-found
returns-in_err-found c = rw c.from_residual.ensures (no_hour c.args.kind c.args.input.now c.in_err-found.ensures.is)

pub returns-then-hour-gt23 : goal.returns-then-hour-gt23
returns-then-hour-gt23 c =
    let v = c.in_ok-found.found in
    hour_past c.args.kind c.args.input.now v.0.now v.1.0 v.1.1 c.in_ok-found.ensures.is c.if-hour-gt23.true

pub returns-in-Some : goal.returns-in-Some
returns-in-Some c =
    let v = c.in_ok-found.found in
    let hour = number_and_fraction c.args.input.now v.0.now v.1.0 v.1.1 c.in-Some.digits c.in_ok-found.ensures.is c.in-Some.is in
    rw c.past_hour.ensures (hour_and_fraction_stand c.args.kind c.args.input.now v.0.now c.in-Some.digits.now v.1.0 hour (omega arith))
