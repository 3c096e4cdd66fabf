use Rattle.std.proofs.Common.{ap, ◌∙◌, refl, arith}
use Rattle.programs_answers.specs.Output.{offset_text}
use Rattle.programs_answers.proofs.OutputLemmas.{joined, signed}
use Rattle.programs_answers.proofs.layout.lay_moment.Goals as goal

pub returns : goal.returns
returns c =
    rw (c.copy_from_slice.ensures.after, c.copy_from_slice-2.ensures.after)
    (signed _ c.lay_date_time.result c.lay_offset.result _ _ _ (joined c.lay_date_time.result c.lay_offset.result _ _ 30 9 refl (omega arith) refl)
    (rw (c.date.ensures, c.time.ensures) at c.lay_date_time.ensures) (c.lay_offset.ensures ∙ ap offset_text c.offset.ensures))
