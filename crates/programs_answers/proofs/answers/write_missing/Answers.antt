use Rattle.std.proofs.Common.{◌++◌, refl}
use Rattle.std.specs.Prelude.{codes}
use Rattle.std.proofs.KnownBytes.{Appends-trans}
use Rattle.programs_answers.proofs.OutputLemmas.{Appends-then}
use Rattle.programs_answers.proofs.answers.write_missing.Goals as goal

pub returns-clause-bytes : goal.returns-clause-bytes
returns-clause-bytes g c =
    Appends-then _ _ _ _ (codes "error: the '" ++ c.args.name.now) _ _
    (Appends-trans _ _ _ _ _ c.in_ok-write_all.ensures.bytes (rw c.as_bytes.ensures.value at c.in_ok-write_all-2.ensures.bytes))
    c.write_all-3.ensures.bytes refl
