use Rattle.std.proofs.Common.{refl, sym, ◌∙◌, arith, Some}
use Rattle.time_readers.proofs.IsoTimes.{minute_basic}
use Rattle.time_readers.proofs.iso8601.fast.basic_time.Goals as goal

pub returns : goal.returns
returns c b n =
    let minute = c.in_ok-minute.minute in
    let second = c.in_ok-found.ensures in
    let kind = sym c.is_extended.ensures ∙ c.if-is_extended.false in
    rw (minute_basic b c.args.input.now c.args.hour n c.requires.hour c.args.kind minute.0.now minute.1
    (Some (c.in_ok-found.found.0.now, second.0)) kind c.requires.no_colon c.in_ok-minute.ensures (omega arith) second.1)
    (rw (second.2 c.args.hour minute.1) refl)
