use Rattle.time_components.specs.Tree.{v3_shape}
use Rattle.programs_answers.specs.Formats.{unix}
use Rattle.time_parse.proofs.PlaceLemmas.{Writes-tree}
use Rattle.time_parse.proofs.place.write_named_place.Goals as goal

pub returns-in-Unix-clause-bytes : goal.returns-in-Unix-clause-bytes
returns-in-Unix-clause-bytes g c =
    rw c.in-Unix.is
    (Writes-tree c.write_place-in-Unix.result (v3_shape c.unix.result.inner) unix c.args.target c.args.text.now _ _ c.unix.ensures
    c.write_place-in-Unix.ensures.bytes)
