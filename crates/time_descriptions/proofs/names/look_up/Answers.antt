use Rattle.std.proofs.Common.{arith}
use Rattle.std.proofs.lemmas.Grind.{common_steps}
use Rattle.time_descriptions.specs.Values.{look_up}
use Rattle.time_descriptions.proofs.WrittenComponents.{first_row}
use Rattle.time_descriptions.proofs.names.look_up.Goals as goal

pub returns-then-is_same_name : goal.returns-then-is_same_name
returns-then-is_same_name g c =
    let h = first_row c.loop-left.left.now c.first-item.result c.args.name.now c.in-len1-up.len_at_least c.first-item.is in
    grind (arith, common_steps, h)

pub loop-left-preserved : goal.loop-left-preserved
loop-left-preserved g c =
    let h = first_row c.loop-left.left.now c.first-item.result c.args.name.now c.in-len1-up.len_at_least c.first-item.is in
    grind (arith, common_steps, h)

pub returns : goal.returns
unfolding look_up
returns g c = grind (arith, common_steps)
