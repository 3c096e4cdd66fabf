use Rattle.std.proofs.Common.{◌∙◌}
use Rattle.time_locating.proofs.Rfc3339Places.{signed_hour}
use Rattle.time_locating.proofs.rfc3339.past_offset_hour.Goals as goal

pub returns-in-None : goal.returns-in-None
returns-in-None c n m rest h cut =
    let hour = signed_hour n m c.args.input.now rest c.in-None.ensures cut in
    (c.past_bytes.ensures hour.0 rest hour.1 hour.2, hour.3 ∙ h)
