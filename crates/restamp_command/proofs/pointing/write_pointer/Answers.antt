use Rattle.restamp_stream.proofs.LinesLemmas.{OnOk-map}
use Rattle.restamp_command.proofs.FormatLemmas.{Appends-pointer}
use Rattle.restamp_command.proofs.pointing.write_pointer.Goals as goal

pub returns-clause-written : goal.returns-clause-written
returns-clause-written g c =
    let shown = rw c.bytes_around.ensures at c.in_ok-write_printable.ensures.written in
    let blanks = rw c.saturating_sub.ensures at c.in_ok-write_blanks.ensures.written in
    OnOk-map c.write_all-3.result _ _ c.write_all-3.ensures.bytes
    (λ caret. Appends-pointer _ _ _ _ _ _ c.args.line.now c.args.column c.in_ok-write_all.ensures.bytes shown
    c.in_ok-write_all-2.ensures.bytes blanks caret)
