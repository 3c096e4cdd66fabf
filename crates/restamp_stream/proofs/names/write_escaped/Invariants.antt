use Rattle.std.proofs.Common.{◌≡◌, List, ℕ, ◌++◌, length}
use Rattle.std.specs.Io.KnownBytes.{Appends}
use Rattle.restamp_stream.specs.Reports.{displayed_as}
use Rattle.restamp_stream.proofs.names.write_escaped.Given as goal

-- the bytes before the rest were displayed
abbrev pub invariant-loop-rest : goal.invariant-loop-rest
invariant-loop-rest g l =
    (front : List ℕ) × Appends (g.L.Sink.contents l.initial.log) (g.L.Sink.contents l.log) front
    × (front ++ displayed_as l.ascii l.rest ≡ displayed_as l.ascii l.name)
    × (g.L.Sink.faults l.log ≡ g.L.Sink.faults l.initial.log)

abbrev pub decreases-loop-rest : goal.decreases-loop-rest
decreases-loop-rest g l = length l.rest
