use Rattle.std.proofs.Common.{refl, arith}
use Rattle.programs_answers.proofs.OutputLemmas.{joined, signed}
use Rattle.programs_answers.proofs.layout.lay_date_time.Goals as goal

pub returns : goal.returns
returns c =
    rw (c.copy_from_slice.ensures.after, c.copy_from_slice-2.ensures.after)
    (signed _ c.lay_date.result c.lay_time.result _ _ _ (joined c.lay_date.result c.lay_time.result _ _ 11 18 refl (omega arith) refl)
    c.lay_date.ensures c.lay_time.ensures)
