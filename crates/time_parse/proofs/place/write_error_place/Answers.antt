use Rattle.std.proofs.Common.{[], refl}
use Rattle.std.proofs.KnownBytes.{Appends-nil}
use Rattle.time_parse.proofs.PlaceLemmas.{error_written}
use Rattle.time_parse.proofs.place.write_error_place.Goals as goal

pub returns-in-Some-clause-bytes : goal.returns-in-Some-clause-bytes
returns-in-Some-clause-bytes g c =
    rw c.in-Some.is
    (error_written c.write_index.result (g.F.Parsable.reads c.args.format.now) (g.F.Locate.locates c.args.format.now)
    (g.F.Locate.marks c.args.format.now) c.args.text.now _ c.locate_error.result _ _ c.locate_error.ensures c.write_index.ensures.bytes)

pub returns-in-None-clause-bytes : goal.returns-in-None-clause-bytes
returns-in-None-clause-bytes g c = rw c.in-None.is ([], refl, Appends-nil _)
