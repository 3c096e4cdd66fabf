-- The bytes that were written or buffered so far, with the answers to the remaining lines, are the answers to all. No write failed.
use Rattle.std.proofs.Common.{◌≡◌, ◌++◌, List, ℕ, length}
use Rattle.std.specs.Io.KnownBytes.{Appends, append_known}
use Rattle.byte_streams.specs.Lines.{line_texts}
use Rattle.programs_answers.specs.Output.{AreAnswers}
use Rattle.programs_answers.proofs.serving.answer_lines.Given as goal

abbrev pub invariant-loop-rest : goal.invariant-loop-rest
invariant-loop-rest g l =
    ((written : List ℕ)
    × Appends (g.W.Sink.contents l.initial.out.sink) (append_known (g.W.Sink.contents l.out.sink) l.out.buffer.items) written
    × ((others : List ℕ) → AreAnswers (g.A.LineHandler.is_answer l.handler) (line_texts l.rest) others
    → AreAnswers (g.A.LineHandler.is_answer l.handler) (line_texts l.initial.rest) (written ++ others)))
    × (g.W.Sink.faults l.out.sink ≡ g.W.Sink.faults l.initial.out.sink)
    × (g.W.Sink.through l.out.sink ≡ g.W.Sink.through l.initial.out.sink)

abbrev pub decreases-loop-rest : goal.decreases-loop-rest
decreases-loop-rest g l = length l.rest
