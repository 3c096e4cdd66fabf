use Rattle.std.proofs.Common.{refl, sym, ◌∙◌, arith, Some}
use Rattle.time_readers.proofs.IsoTimes.{colon_minute}
use Rattle.time_readers.proofs.iso8601.fast.extended_time.Goals as goal

pub returns : goal.returns
returns c b m n y =
    let minute = c.in_ok-minute.minute in
    let after = c.in_ok-after.after in
    let second = c.in_ok-found.ensures in
    let kind = sym c.maybe_extended.ensures ∙ c.if-not-maybe_extended.false in
    rw (colon_minute b m c.args.hour n c.requires c.args.kind c.args.input.now minute.0.now minute.1 (Some after.now)
    kind y c.in_ok-minute.ensures (omega arith) c.in_ok-after.ensures)
    (rw (second.1, second.2 c.args.hour minute.1) refl)
