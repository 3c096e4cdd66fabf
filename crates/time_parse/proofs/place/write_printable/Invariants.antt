-- The bytes so far are written, and no write has failed.
use Rattle.std.proofs.Common.{◌≡◌, map, take}
use Rattle.std.specs.Io.KnownBytes.{Appends}
use Rattle.time_parse.specs.Request.{printable}
use Rattle.time_parse.proofs.place.write_printable.Given as goal

abbrev pub invariant-loop-byte : goal.invariant-loop-byte
invariant-loop-byte g l =
    Appends (g.W.Sink.contents l.initial.out) (g.W.Sink.contents l.out) (map printable (take l.byte-index l.bytes))
    × (g.W.Sink.faults l.out ≡ g.W.Sink.faults l.initial.out)
    × (g.W.Sink.through l.out ≡ g.W.Sink.through l.initial.out)
