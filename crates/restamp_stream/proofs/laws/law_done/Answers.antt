use Rattle.std.proofs.lemmas.Result.{on_ok_weaker}
use Rattle.restamp_stream.proofs.ProcessedLemmas.{ProcessedFiles-done, why_stopped}
use Rattle.restamp_stream.proofs.laws.law_done.Goals as goal

pub returns-clause-done : goal.returns-clause-done
returns-clause-done g c =
    on_ok_weaker c.serve_files.result
    (ProcessedFiles-done (g.T.Rewriting.is_action c.args.rewriting.now) (g.T.Rewriting.is_reason c.args.rewriting.now) c.args.settings
    (g.O.Opening.bytes_of c.args.opening.now) _ _ _ _ _) c.serve_files.ensures.ok

pub returns-clause-stopped : goal.returns-clause-stopped
returns-clause-stopped g c = why_stopped c.serve_files.result _ _ c.serve_files.ensures.unread c.serve_files.ensures.cause
