use Rattle.std.proofs.Common.{length, ap, ◌∙◌}
use Rattle.std.proofs.Math.Seq.{drop-length}
use Rattle.std.proofs.lemmas.List.{take_rest}
use Rattle.byte_streams.specs.Lines.{line_texts}
use Rattle.byte_streams.proofs.LinesLemmas.{line_texts-ended, line_texts-last}
use Rattle.byte_streams.proofs.lines.first_line.Goals as goal

pub returns-in-Some-clause-line : goal.returns-in-Some-clause-line
returns-in-Some-clause-line c = ap line_texts c.in-Some.ensures.0 ∙ line_texts-ended _ _ c.in-Some.ensures.1

pub returns-in-None-clause-line : goal.returns-in-None-clause-line
returns-in-None-clause-line c =
    let bytes = c.args.bytes.now in
    rw (take_rest bytes (length bytes), drop-length) (line_texts-last bytes c.requires c.in-None.ensures)
