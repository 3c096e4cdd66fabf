use Rattle.restamp_stream.specs.Streams.{job_of}
use Rattle.restamp_stream.proofs.LinesLemmas.{kept_bytes}
use Rattle.byte_streams.proofs.LinesLemmas.{joined-lines_of}
use Rattle.restamp_stream.proofs.laws.law_kept.Goals as goal

pub returns : goal.returns
returns g c = record { lines = joined-lines_of; input = kept_bytes (job_of _ _ c.args.name.now c.args.settings) }
