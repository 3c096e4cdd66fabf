use Rattle.std.proofs.Common.{refl, arith}
use Rattle.programs_answers.proofs.OutputLemmas.{Consumes-end}
use Rattle.programs_answers.proofs.serving.read_all.Goals as goal

pub returns-in-Ok-eq0-clause-all : goal.returns-in-Ok-eq0-clause-all
returns-in-Ok-eq0-clause-all g c =
    let read = rw c.in-Ok-eq0.field-0-test at c.in-Ok-eq0.ensures.bytes in
    Consumes-end _ _ _ _ c.loop-turn.invariant.0 read.0 (read.1 refl (omega arith))
