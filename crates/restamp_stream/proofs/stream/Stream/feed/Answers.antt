use Rattle.restamp_stream.proofs.AnsweredLemmas.{Continues-settled, append_known-nil}
use Rattle.std.proofs.lemmas.Result.{on_ok_weaker, IfErr-weaker}
use Rattle.restamp_stream.proofs.StoppedLemmas.{StoppedBy-map, Stops-settled}
use Rattle.restamp_stream.proofs.stream.Stream.feed.Goals as goal

pub returns-clause-ok : goal.returns-clause-ok
returns-clause-ok g c =
    on_ok_weaker c.answer_block-answered.result (Continues-settled c.in_ok-flush_all.ensures.written)
    (rw (c.requires, append_known-nil) at c.answer_block-answered.ensures.ok)

pub returns-clause-err : goal.returns-clause-err
returns-clause-err g c =
    IfErr-weaker c.answer_block-answered.result _ _ (λ stop. StoppedBy-map stop (Stops-settled c.in_ok-flush_all.ensures.written))
    (rw (c.requires, append_known-nil) at c.answer_block-answered.ensures.err)
