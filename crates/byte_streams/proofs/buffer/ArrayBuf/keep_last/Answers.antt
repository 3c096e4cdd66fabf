use Rattle.std.proofs.Common.{ap, arith}
use Rattle.byte_streams.specs.Buffer.{Contents}
use Rattle.byte_streams.proofs.BufferLemmas.{kept_last}
use Rattle.byte_streams.proofs.buffer.ArrayBuf.keep_last.Goals as goal

pub returns : goal.returns
returns g c =
    kept_last c.self.inside.start c.self.inside.end c.args.n c.self.inside.array c.args.self.now.items
    (ap (λ (v : Contents). v.items) c.self.view_is) c.self.invariant.0 (omega arith) c.requires
