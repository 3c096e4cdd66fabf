use Rattle.pelzaune_ffi.proofs.IsoInPlace.{made_of}
use Rattle.pelzaune_ffi.proofs.moments.fast.moment_from.Goals as goal

pub returns : goal.returns
returns c =
    let made = c.new_in_offset.ensures in
    made_of c.args.parts c.new_in_offset.result c.requires (rw made.date c.in_ok-date.ensures)
    (rw made.time c.in-Ok.ensures) (rw made.offset c.in_ok-offset.ensures)
