use Rattle.std.proofs.Common.{sym}
use Rattle.time_locating.specs.Misses.{all_bytes}
use Rattle.time_locating.proofs.description.locate_item.Goals as goal

pub returns : goal.returns
returns g c =
    rw (sym c.begin-parsed.ensures) (c.place.ensures.tree all_bytes _ c.begin-parsed.result _ c.walk-walked.ensures.reads c.walk-walked.ensures.misses)
