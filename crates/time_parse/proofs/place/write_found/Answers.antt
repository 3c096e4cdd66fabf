use Rattle.std.proofs.Common.{refl, ◌++◌}
use Rattle.std.specs.Fmt.{decimal}
use Rattle.std.specs.Prelude.{codes}
use Rattle.programs_answers.proofs.OutputLemmas.{Appends-then}
use Rattle.time_parse.proofs.place.write_found.Goals as goal

pub returns-clause-bytes : goal.returns-clause-bytes
returns-clause-bytes g c =
    Appends-then _ _ _ _ (codes " at " ++ decimal c.args.index) _ _ c.in_ok-write_index.ensures.bytes c.write_all.ensures.bytes refl
