use Rattle.std.proofs.Common.{◌∙◌}
use Rattle.time_uses.proofs.ParsedBack.{parsed_back, written_text}
use Rattle.time_uses.proofs.parsed_back.Goals as goal

pub returns-clause-written : goal.returns-clause-written
returns-clause-written c none =
    let text = written_text _ _ c.text_3339.result c.in-Ok.text c.text_3339.ensures none c.in-Ok.is in
    c.ok.ensures.value ∙ parsed_back c.args.moment c.as_bytes.result.now c.parse.result c.law_read_back.ensures.text
    c.law_read_back.ensures.auto c.law_one_outcome.ensures.offset_date_time none (c.as_bytes.ensures ∙ text) c.parse.ensures
