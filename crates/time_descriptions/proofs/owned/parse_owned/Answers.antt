use Rattle.std.proofs.Common.{sym}
use Rattle.time_descriptions.proofs.Shapes.{owned_description}
use Rattle.time_descriptions.proofs.owned.parse_owned.Goals as goal

pub returns-in-Ok : goal.returns-in-Ok
returns-in-Ok g c =
    let made = c.in-Ok.ensures.owns in
    rw (sym c.version_of.ensures) (owned_description c.version_of.result c.args.text.now c.in-Ok._rest.now made.0 c.in-Ok.items.items _ made.1
    c.in-Ok.ensures.ended made.2 c.compound.ensures)
