use Rattle.std.proofs.Common.{refl}
use Rattle.std.specs.Prelude.{codes}
use Rattle.std.proofs.KnownBytes.{Appends-nil}
use Rattle.programs_answers.proofs.OutputLemmas.{Appends-then}
use Rattle.time_parse.proofs.place.write_index.Goals as goal

pub returns-in_default-clause-bytes : goal.returns-in_default-clause-bytes
returns-in_default-clause-bytes g c = rw c.in_default.is (Appends-nil _)

pub returns-clause-bytes : goal.returns-clause-bytes
returns-clause-bytes g c =
    rw c.in-Some.is
    (Appends-then _ _ _ _ (codes " at ") _ _ c.in_ok-write_all.ensures.bytes c.write_number.ensures.bytes refl)
