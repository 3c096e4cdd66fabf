use Rattle.restamp_stream.specs.Streams.{job_of}
use Rattle.restamp_stream.proofs.LinesLemmas.{one_answer, one_result}
use Rattle.restamp_stream.proofs.laws.law_one_result.Goals as goal

pub returns : goal.returns
returns g c =
    let job = job_of (g.T.Rewriting.is_action c.args.rewriting.now) (g.T.Rewriting.is_reason c.args.rewriting.now) c.args.name.now c.args.settings in
    let actions = g.met.T.Rewriting.one_action c.args.rewriting.now in
    let reasons = g.met.T.Rewriting.one_reason c.args.rewriting.now in
    record { lines = one_answer job actions reasons; input = one_result job actions reasons }
