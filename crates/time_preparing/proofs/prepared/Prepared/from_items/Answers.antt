use Rattle.std.proofs.Common.{map, ◌∙◌}
use Rattle.time_components.specs.Tree.{borrowed_shape, trees}
use Rattle.time_preparing.proofs.Placing.{prepares, unprepared}
use Rattle.time_preparing.proofs.prepared.Prepared.from_items.Goals as goal

pub returns-in_err-put_items : goal.returns-in_err-put_items
returns-in_err-put_items g c =
    unprepared g.row.N (trees (map borrowed_shape c.args.items.now)) c.new-steps.result.items c.from_residual.result _ c.new-steps.ensures
    c.from_residual.ensures c.in_err-put_items.ensures

pub returns : goal.returns
returns g c =
    prepares g.row.N (trees (map borrowed_shape c.args.items.now)) c.new-steps.result.items c.put_items.new.steps.items c.prepare.result
    c.new-steps.ensures c.in_ok-put_items.ensures (c.prepare.ensures ∙ c.as_slice.ensures.value)
