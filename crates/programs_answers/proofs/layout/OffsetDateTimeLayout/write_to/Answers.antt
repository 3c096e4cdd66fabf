use Rattle.programs_answers.proofs.OutputLemmas.{Appends-then}
use Rattle.programs_answers.proofs.layout.OffsetDateTimeLayout.write_to.Goals as goal

pub returns-clause-bytes : goal.returns-clause-bytes
returns-clause-bytes g c =
    Appends-then _ _ _ _ _ _ _ (rw c.date.ensures at c.in_ok-write_year_front.ensures.bytes) c.write_all.ensures.bytes c.lay_moment.ensures
