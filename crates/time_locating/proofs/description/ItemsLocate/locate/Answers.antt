use Rattle.std.proofs.Common.{sym}
use Rattle.time_locating.specs.Misses.{Misses, all_bytes}
use Rattle.time_locating.proofs.description.ItemsLocate.locate.Goals as goal

pub returns : goal.returns
unfolding Misses
returns g c =
    rw (sym c.begin-parsed.ensures)
    (c.place.ensures.tree all_bytes _ c.begin-parsed.result _ c.walk_all-walked.ensures.reads c.walk_all-walked.ensures.misses)
