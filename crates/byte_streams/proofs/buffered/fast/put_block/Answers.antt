use Rattle.std.proofs.Common.{take, arith, refl}
use Rattle.byte_streams.proofs.BufferLemmas.{filled}
use Rattle.byte_streams.proofs.buffered.fast.put_block.Goals as goal

pub returns : goal.returns
returns g c =
    rw c.copy_from_slice.ensures.after
    (filled c.args.at c.args.count c.args.array.now c.args.block _ (take c.args.at c.args.array.now) refl (omega arith) (omega arith))
