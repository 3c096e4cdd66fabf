use Rattle.restamp_stream.specs.Streams.{job_of}
use Rattle.restamp_stream.proofs.ProcessedLemmas.{file_done}
use Rattle.restamp_stream.proofs.stream.Stream.serve_next.Goals as goal

pub returns-clause-ok : goal.returns-clause-ok
returns-clause-ok g c =
    file_done c.go_on-2.result c.serve-served.result (job_of _ _ c.args.name.now c.args.settings) _ _ _ _ _ _ _ _ _ _ _
    c.go_on-2.ensures.ok c.in-Ok.ensures.bytes c.in-Ok.ensures.started c.in-Ok.ensures.cause c.serve-served.ensures.all
    c.serve-served.ensures.unread c.serve-served.ensures.cut_off c.close.ensures.cut_off
