use Rattle.std.proofs.Common.{ap, arith, take, drop}
use Rattle.std.proofs.lemmas.List.{take_rest, length-drop}
use Rattle.byte_streams.specs.Buffer.{Contents}
use Rattle.byte_streams.proofs.BufferLemmas.{appended, put_three}
use Rattle.byte_streams.proofs.buffered.fast.splice.Goals as goal

pub returns : goal.returns
returns c =
    let inside = c.buffer.inside in
    let bytes = c.args.bytes.now in
    let last = rw (take_rest bytes c.args.end, length-drop c.args.end bytes) at c.put_all.ensures in
    appended inside.start inside.end _ inside.array c.put_all.new.array _ c.args.buffer.now.items
    (ap (λ (v : Contents). v.items) c.buffer.view_is) c.buffer.invariant.0 (omega arith) (omega arith)
    (put_three inside.end _ _ _ inside.array c.put_first.new.array c.put_text.new.array c.put_all.new.array
    (take c.args.begin bytes) c.args.text.now (drop c.args.end bytes) c.put_first.ensures c.put_text.ensures last)
