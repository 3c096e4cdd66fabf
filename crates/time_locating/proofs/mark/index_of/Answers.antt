use Rattle.std.proofs.Common.{arith}
use Rattle.time_values.specs.Calendar.{greatest_year}
use Rattle.time_locating.proofs.MarkSteps.{mark-within}
use Rattle.time_locating.proofs.mark.index_of.Goals as goal

pub returns-clause-tree : goal.returns-clause-tree
returns-clause-tree c t name r h =
    let marks = rw c.in_ok-left.was at h in
    let within = mark-within t name c.args.input.now r _ marks in
    (_, marks, omega arith)
