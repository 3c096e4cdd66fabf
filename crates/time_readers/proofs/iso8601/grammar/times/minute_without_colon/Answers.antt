use Rattle.std.proofs.Common.{refl, sym, ◌∙◌, arith}
use Rattle.time_readers.specs.IsoPieces.{byte, number}
use Rattle.time_readers.proofs.IsoTimes.{plain_number, number_and_fraction, hour_alone, minute_past, minute_and_fraction_stand, minute_basic, minute_extended}
use Rattle.time_readers.proofs.iso8601.grammar.times.minute_without_colon.Goals as goal

pub returns-in_default : goal.returns-in_default
returns-in_default c b n =
    rw c.hour_and_minute.ensures
    (hour_alone b c.args.input.now c.args.hour n c.requires.hour c.args.kind c.requires.no_colon
    c.in_default.ensures.is)

pub returns-then-minute-gt59 : goal.returns-then-minute-gt59
returns-then-minute-gt59 c b n =
    let v = c.in-Some.found in
    minute_past b c.args.input.now c.args.hour n c.requires.hour c.args.kind v.0.now v.1.0 v.1.1
    c.requires.no_colon c.in-Some.ensures.is c.if-minute-gt59.true

pub returns-in-Some-1₀ : goal.returns-in-Some-1₀
returns-in-Some-1₀ c b n =
    let v = c.in-Some.found in
    let s = c.args.input.now in
    let minute =
    number_and_fraction s v.0.now v.1.0 v.1.1 c.in-Some-1₀.digits c.in-Some.ensures.is c.in-Some-1₀.is in
    rw (c.past_minute.ensures, c.coerce_basic.ensures.kind)
    (minute_and_fraction_stand b s c.args.hour n c.requires.hour c.args.kind v.0.now c.in-Some-1₀.digits.now v.1.0
    c.requires.no_colon minute (omega arith))

pub returns-then-is_extended : goal.returns-then-is_extended
returns-then-is_extended c b n =
    let v = c.in-Some.found in
    let s = c.args.input.now in
    let minute = plain_number s v.0.now v.1.0 v.1.1 c.in-Some.ensures.is c.in_default-1₀.is in
    let kind = sym c.is_extended.ensures ∙ c.if-is_extended.true in
    let second = rw c.hour_and_minute-then-is_extended.ensures at c.extended_second.ensures in
    rw (minute_extended b s c.args.hour n c.requires.hour c.args.kind v.0.now v.1.0 (byte 58 v.0.now) kind
    c.requires.no_colon minute (omega arith) refl) second

pub returns-else-is_extended : goal.returns-else-is_extended
returns-else-is_extended c b n =
    let v = c.in-Some.found in
    let s = c.args.input.now in
    let minute = plain_number s v.0.now v.1.0 v.1.1 c.in-Some.ensures.is c.in_default-1₀.is in
    let kind = sym c.is_extended.ensures ∙ c.if-is_extended.false in
    let second = rw c.hour_and_minute-else-is_extended.ensures at c.basic_second.ensures in
    rw (minute_basic b s c.args.hour n c.requires.hour c.args.kind v.0.now v.1.0 (number v.0.now) kind
    c.requires.no_colon minute (omega arith) refl) second
