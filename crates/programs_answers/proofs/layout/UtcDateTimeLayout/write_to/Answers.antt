use Rattle.std.proofs.Common.{◌++◌, codes, ap}
use Rattle.programs_answers.proofs.OutputLemmas.{same_date_time, Appends-then}
use Rattle.programs_answers.proofs.layout.UtcDateTimeLayout.write_to.Goals as goal

pub returns-clause-bytes : goal.returns-clause-bytes
returns-clause-bytes g c =
    Appends-then _ _ _ _ _ _ _ c.in_ok-write_date_time.ensures.bytes c.write_all.ensures.bytes
    (ap (λ t. t ++ codes " +00:00:00") (same_date_time _ _ _ _ c.date.ensures c.time.ensures))
