-- All lines before the rest were processed, if buffered bytes count as written.
use Rattle.std.proofs.Common.{◌≡◌, length}
use Rattle.restamp_stream.specs.Causes.{faults_of}
use Rattle.restamp_stream.specs.Buffered.{Continues, buffered_state, job_at}
use Rattle.restamp_stream.specs.Streams.{EndsWith}
use Rattle.restamp_stream.specs.Reports.{Absent}
use Rattle.restamp_stream.proofs.stream.Stream.answer_lines.Given as goal

abbrev pub invariant-loop-line : goal.invariant-loop-line
invariant-loop-line g l =
    EndsWith l.bytes l.left
    × Continues (job_at g.T.Rewriting.is_action g.T.Rewriting.is_reason l.file)
    (buffered_state g.W.Sink.contents g.L.Sink.contents l.initial.self) (buffered_state g.W.Sink.contents g.L.Sink.contents l.self)
    Absent l.bytes Absent l.left
    × (faults_of g.W.Sink.faults g.L.Sink.faults l.self ≡ faults_of g.W.Sink.faults g.L.Sink.faults l.initial.self)

abbrev pub decreases-loop-line : goal.decreases-loop-line
decreases-loop-line g l = length l.left
