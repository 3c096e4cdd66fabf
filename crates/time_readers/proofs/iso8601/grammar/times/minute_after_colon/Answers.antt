use Rattle.std.proofs.Common.{refl, arith}
use Rattle.time_readers.specs.IsoPieces.{byte}
use Rattle.time_readers.proofs.IsoTimes.{plain_number, number_and_fraction, colon_no_minute, colon_minute_past, colon_minute_and_fraction, colon_minute}
use Rattle.time_readers.proofs.iso8601.grammar.times.minute_after_colon.Goals as goal

pub returns-in_err-found : goal.returns-in_err-found
returns-in_err-found c b m n y =
    rw c.from_residual.ensures
    (colon_no_minute b m c.args.hour n c.requires.hour c.args.kind c.args.input.now c.requires.kind y
    c.in_err-found.ensures.is)

pub returns-then-minute-gt59 : goal.returns-then-minute-gt59
returns-then-minute-gt59 c b m n y =
    let v = c.in_ok-found.found in
    colon_minute_past b m c.args.hour n c.requires.hour c.args.kind c.args.input.now v.0.now v.1.0 v.1.1
    c.requires.kind y c.in_ok-found.ensures.is c.if-minute-gt59.true

pub returns-in-Some : goal.returns-in-Some
returns-in-Some c b m n y =
    let v = c.in_ok-found.found in
    let s = c.args.input.now in
    let minute =
    number_and_fraction s v.0.now v.1.0 v.1.1 c.in-Some.digits c.in_ok-found.ensures.is c.in-Some.is in
    rw c.past_minute.ensures
    (colon_minute_and_fraction b m c.args.hour n c.requires.hour c.args.kind s v.0.now c.in-Some.digits.now v.1.0
    c.requires.kind y minute (omega arith))

pub returns-in-None : goal.returns-in-None
returns-in-None c b m n y =
    let v = c.in_ok-found.found in
    let s = c.args.input.now in
    let minute = plain_number s v.0.now v.1.0 v.1.1 c.in_ok-found.ensures.is c.in-None.is in
    let second = rw c.hour_and_minute.ensures at c.extended_second.ensures in
    rw (colon_minute b m c.args.hour n c.requires.hour c.args.kind s v.0.now v.1.0 (byte 58 v.0.now)
    c.requires.kind y minute (omega arith) refl) second
