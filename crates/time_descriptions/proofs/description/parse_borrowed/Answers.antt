use Rattle.std.proofs.Common.{sym}
use Rattle.time_descriptions.proofs.Shapes.{described, fitting, refused}
use Rattle.time_descriptions.proofs.description.parse_borrowed.Goals as goal

pub returns-in-Ok-clause-ok : goal.returns-in-Ok-clause-ok
returns-in-Ok-clause-ok g c =
    let added = c.in-Ok.ensures.adds in
    rw (sym c.version_of.ensures) (described c.version_of.result c.args.text.now c.in-Ok._rest.now added.0 c.new-steps.result.items
    c.add_items.new.steps.items added.1
    c.in-Ok.ensures.ended c.new-steps.ensures added.2)

pub returns-in-Ok-clause-fits : goal.returns-in-Ok-clause-fits
returns-in-Ok-clause-fits g c =
    let added = c.in-Ok.ensures.adds in
    rw (sym c.version_of.ensures) (fitting g.row.N _ c.new-steps.result.items c.new-steps.ensures added.5)

pub returns-in-Err-clause-err : goal.returns-in-Err-clause-err
returns-in-Err-clause-err g c =
    rw (sym c.version_of.ensures) (refused g.row.N c.version_of.result c.args.text.now c.in-Err.fault _ c.new-steps.result.items c.in-Err.ensures.adds
    c.new-steps.ensures c.at.ensures)
