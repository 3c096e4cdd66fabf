use Rattle.std.proofs.Common.{sym}
use Rattle.time_locating.proofs.description.ItemsLocate.locate_component.Goals as goal

pub returns : goal.returns
returns g c =
    rw (sym c.begin-parsed.ensures) (c.index_of.ensures.tree _ c.args.name.now c.begin-parsed.result c.walk_all-walked.ensures.marks)
