-- The source's remaining bytes before the loop are the text so far and those that remain. No read failed, and each returned at least a byte.
use Rattle.std.specs.Io.KnownBytes.{Consumes}
use Rattle.std.proofs.Common.{◌≡◌, ◌≤◌, length}
use Rattle.byte_streams.specs.Faults.{count_more}
use Rattle.programs_answers.proofs.serving.read_all.Given as goal

abbrev pub invariant-loop-turn : goal.invariant-loop-turn
invariant-loop-turn g l =
    Consumes (g.R.Source.remaining l.initial.input) (g.R.Source.remaining l.input) l.text.items
    × (length l.piece ≡ 65536)
    × (g.R.Source.faults l.input ≡ g.R.Source.faults l.initial.input)
    × (count_more (g.R.Source.given l.initial.input) l.turn ≤ g.R.Source.given l.input)
