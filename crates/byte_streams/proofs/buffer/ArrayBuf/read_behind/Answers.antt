use Rattle.std.proofs.Common.{◌+◌, ap, arith, refl, take}
use Rattle.std.proofs.lemmas.List.{length-take-le}
use Rattle.byte_streams.specs.Buffer.{Contents}
use Rattle.byte_streams.proofs.BufferLemmas.{appended, filled, overwritten}
use Rattle.byte_streams.proofs.buffer.ArrayBuf.read_behind.Goals as goal

pub returns-in-Ok-clause-read : goal.returns-in-Ok-clause-read
returns-in-Ok-clause-read g c =
    let inside = c.self.inside in
    let n = c.in-Ok.n in
    let few = c.in-Ok.ensures.bound.0 in (
      take n c.read.new.buffer,
      appended inside.start inside.end (inside.end + n) inside.array _ (take n c.read.new.buffer) c.args.self.now.items
          (ap (λ (v : Contents). v.items) c.self.view_is) c.self.invariant.0 (omega arith) (omega arith)
          (filled inside.end n inside.array c.read.new.buffer _ (take inside.end inside.array) refl (omega arith) few),
      length-take-le _ _ few,
      c.in-Ok.ensures.bytes.0,
      λ none. c.in-Ok.ensures.bytes.1 none (omega (arith, c.requires, ap (λ (v : Contents). v.room) c.self.view_is)),
    )

pub returns-in-Err-clause-read : goal.returns-in-Err-clause-read
returns-in-Err-clause-read g c =
    let inside = c.self.inside in (
      c.in-Err.ensures.bytes,
      overwritten inside.start inside.end inside.array _ c.args.self.now.items (ap (λ (v : Contents). v.items) c.self.view_is)
          c.self.invariant.0 (omega arith),
    )
