use Rattle.programs_answers.proofs.OutputLemmas.{Writes_line_feed}
use Rattle.programs_answers.proofs.serving.add_line.Goals as goal

pub returns-clause-bytes : goal.returns-clause-bytes
returns-clause-bytes g c =
    Writes_line_feed c.write_all.result (g.A.LineHandler.is_answer c.args.handler.now c.args.line.now) _ _ _
    c.in_ok-write_answer.ensures.bytes c.write_all.ensures.bytes
