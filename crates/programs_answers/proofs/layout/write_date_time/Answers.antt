use Rattle.programs_answers.proofs.OutputLemmas.{Appends-then}
use Rattle.programs_answers.proofs.layout.write_date_time.Goals as goal

pub returns-clause-bytes : goal.returns-clause-bytes
returns-clause-bytes g c = Appends-then _ _ _ _ _ _ _ c.in_ok-write_year_front.ensures.bytes c.write_all.ensures.bytes c.lay_date_time.ensures
