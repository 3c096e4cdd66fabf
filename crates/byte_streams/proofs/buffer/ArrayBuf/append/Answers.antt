use Rattle.std.proofs.Common.{◌+◌, ap, arith, length}
use Rattle.byte_streams.specs.Buffer.{Contents}
use Rattle.byte_streams.proofs.BufferLemmas.{appended, put_behind}
use Rattle.byte_streams.proofs.buffer.ArrayBuf.append.Goals as goal

pub returns-clause-items : goal.returns-clause-items
returns-clause-items g c =
    let inside = c.self.inside in
    appended inside.start inside.end (inside.end + length c.args.bytes.now) inside.array _ c.args.bytes.now c.args.self.now.items
    (ap (λ (v : Contents). v.items) c.self.view_is) c.self.invariant.0 (omega arith) (omega arith)
    (rw c.copy_from_slice.ensures.after (put_behind inside.end inside.array c.args.bytes.now _ (omega arith)))
