-- The bytes read were processed, and the output was written, except for the bytes in the block.
use Rattle.std.proofs.Common.{◌≡◌, []}
use Rattle.restamp_stream.specs.Causes.{faults_of}
use Rattle.restamp_stream.specs.Buffered.{job_at, HaveProgressed}
use Rattle.restamp_stream.specs.Streams.{Served, state_of}
use Rattle.restamp_stream.proofs.stream.Stream.serve_lines.Given as goal

abbrev pub invariant-loop-turn : goal.invariant-loop-turn
invariant-loop-turn g l =
    Served (job_at g.T.Rewriting.is_action g.T.Rewriting.is_reason l.file)
    (g.R.Source.remaining l.initial.input) (g.R.Source.remaining l.input)
    (state_of g.W.Sink.contents g.L.Sink.contents l.initial.self) (state_of g.W.Sink.contents g.L.Sink.contents l.self) l.rest l.block.items
    × (l.self.out.buffer.items ≡ [])
    × (faults_of g.W.Sink.faults g.L.Sink.faults l.self ≡ faults_of g.W.Sink.faults g.L.Sink.faults l.initial.self)
    × HaveProgressed l.turn (g.R.Source.faults l.initial.input) (g.R.Source.faults l.input) (g.R.Source.given l.input)
