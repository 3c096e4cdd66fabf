use Rattle.std.proofs.Common.{◌≡◌, Err, refl, rules}
use Rattle.byte_streams.proofs.LinesLemmas.{lines_of-last}
use Rattle.restamp_stream.proofs.AnsweredLemmas.{append_known-nil}
use Rattle.restamp_stream.proofs.StoppedLemmas.{finished, finished-none, StoppedBy-map, Stopped-last}
use Rattle.restamp_stream.specs.Buffered.{job_at}
use Rattle.restamp_stream.proofs.stream.Stream.finish.Goals as goal

pub returns-then-is_empty-clause-ok : goal.returns-then-is_empty-clause-ok
returns-then-is_empty-clause-ok g c =
    finished-none (job_at g.T.Rewriting.is_action g.T.Rewriting.is_reason c.args.file.now) _ c.args.block.now.items (c.if-is_empty.ensures.empty refl)

pub returns-clause-ok : goal.returns-clause-ok
returns-clause-ok g c =
    finished (c.if-is_empty.ensures.some refl) c.requires.started c.as_slice.ensures.bytes c.in_ok-flush_all.ensures.written
    (rw (c.requires.none, append_known-nil) at c.in_ok-answered.ensures.ok.2)

pub returns-in_err-answered-clause-err : goal.returns-in_err-answered-clause-err
returns-in_err-answered-clause-err g c =
    let handed : c.from_residual-in_err-answered.result ≡ Err c.in_err-answered.field-0.0 = search rules in
    rw handed (StoppedBy-map _ (Stopped-last (lines_of-last c.args.block.now.items (c.if-is_empty.ensures.some refl) c.requires.started)
    c.as_slice.ensures.bytes c.as_slice.ensures.most c.in_ok-flush_all.ensures.written)
    (rw (c.requires.none, append_known-nil) at c.in_err-answered.ensures.err))
