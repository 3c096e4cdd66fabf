use Rattle.std.proofs.Common.{append_assoc}
use Rattle.time_parse.proofs.PlaceLemmas.{place_written, unplaced_written}
use Rattle.time_parse.proofs.place.write_place.Goals as goal

pub returns-in_default-clause-bytes : goal.returns-in_default-clause-bytes
returns-in_default-clause-bytes g c =
    unplaced_written c.args.target (g.F.Parsable.path c.args.format.now) (g.F.Parsable.reads c.args.format.now)
    (g.F.Parsable.refuses c.args.format.now) (g.F.Locate.locates c.args.format.now) (g.F.Locate.marks c.args.format.now) c.args.text.now
    c.write_error_place.result _ _ _ c.in_default.ensures c.refusal.ensures
    c.write_error_place.ensures.bytes

pub returns-clause-bytes : goal.returns-clause-bytes
returns-clause-bytes g c =
    place_written c.args.target (g.F.Parsable.path c.args.format.now) (g.F.Parsable.reads c.args.format.now)
    (g.F.Parsable.refuses c.args.format.now) (g.F.Locate.locates c.args.format.now) (g.F.Locate.marks c.args.format.now) c.args.text.now
    c.write_expected.result c.in-Some.place _ _ _ _ c.in-Some.ensures
    c.in_ok-write_found.ensures.bytes c.write_expected.ensures.bytes (simp append_assoc)
