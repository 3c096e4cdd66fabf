use Rattle.std.proofs.Common.{sym}
use Rattle.time_locating.specs.Misses.{first_byte}
use Rattle.time_locating.proofs.description.locate_steps.Goals as goal

pub returns : goal.returns
returns c =
    rw (sym c.begin-parsed.ensures)
    (c.place.ensures.tree first_byte _ c.begin-parsed.result _ c.walk_list-walked.ensures.reads c.walk_list-walked.ensures.misses)
