-- The files before the index were processed.
use Rattle.std.proofs.Common.{◌≡◌, take, map}
use Rattle.restamp_stream.specs.Causes.{faults_of}
use Rattle.restamp_stream.specs.Streams.{ProcessedFiles, state_of}
use Rattle.restamp_stream.proofs.stream.Stream.serve_files.Given as goal

abbrev pub invariant-loop-name : goal.invariant-loop-name
invariant-loop-name g l =
    ProcessedFiles (g.T.Rewriting.is_action l.rewriting) (g.T.Rewriting.is_reason l.rewriting) l.settings (g.O.Opening.bytes_of l.initial.opening)
    (g.O.Opening.faults l.initial.opening) (g.O.Opening.faults l.opening)
    (state_of g.W.Sink.contents g.L.Sink.contents l.initial.self) (state_of g.W.Sink.contents g.L.Sink.contents l.self)
    (map (λ name. name.now) (take l.name-index l.names))
    × (g.O.Opening.bytes_of l.opening ≡ g.O.Opening.bytes_of l.initial.opening)
    × (faults_of g.W.Sink.faults g.L.Sink.faults l.self ≡ faults_of g.W.Sink.faults g.L.Sink.faults l.initial.self)
