use Rattle.std.proofs.Common.{refl, sym, rules}
use Rattle.restamp_stream.proofs.ProcessedLemmas.{Processed-started}
use Rattle.restamp_stream.specs.Reports.{action_of}
use Rattle.restamp_stream.specs.Buffered.{buffered_state, job_at}
use Rattle.restamp_stream.proofs.stream.Stream.begin.Goals as goal

pub returns-clause-ok : goal.returns-clause-ok
returns-clause-ok g c = (
  action_of c.action-action.result c.action-action.new.text,
  sym (c.of.ensures c.action-action.new.text),
  Processed-started (job_at g.T.Rewriting.is_action g.T.Rewriting.is_reason c.args.file.now)
      (buffered_state g.W.Sink.contents g.L.Sink.contents c.args.self.now)
      (buffered_state g.W.Sink.contents g.L.Sink.contents c.put_front.new.self) c.args.front.now _ c.in_ok-report.ensures.reported.0 c.requires
      c.action-action.ensures.action (c.if-stops_at.ensures.goes_on c.action-action.new.text refl) (search rules) (search rules) (search rules) (search rules),
)
