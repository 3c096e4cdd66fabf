use Rattle.time_values.specs.Calendar.{greatest_year}
use Rattle.time_preparing.specs.Walk.{fraction_tree}
use Rattle.time_components.specs.Tree.{none}
use Rattle.time_preparing.proofs.Parts.{read_all, tree_read}
use Rattle.time_preparing.proofs.walk.fast.fraction.Goals as goal

pub returns : goal.returns
returns c =
    let old = c.args.parsed.now in
    rw c.put_fraction.ensures (tree_read none c.args.input.now _ _ (fraction_tree c.args.point) old _ _
    (c.in_ok-found.ensures.reads old) (read_all _ _))
