use Rattle.std.proofs.Common.{arith}
use Rattle.time_record.proofs.WalkSteps.{Resumes-counted, Resumes-leaf, HasItem-first, item_at, leaf_refused}
use Rattle.time_record.proofs.walk.read_leaves.Goals as goal

pub loop-next-preserved : goal.loop-next-preserved
loop-next-preserved g c =
    let item = item_at {f = g.I.Inspect.shape} {xs = c.args.items.now} {i = c.loop-next.next} (omega arith) c.index-items-next.is c.node-node.ensures in
    let reads = rw c.in-Some-Some.field-0-is at c.in-Some-Some.ensures.read in (
      Resumes-counted (omega arith) (Resumes-leaf c.loop-next.invariant.0 _ _ (HasItem-first item) c.in-Some-Some.ensures.leaf reads),
      omega arith,
      omega arith,
    )

pub returns-in-Some-None-clause-refused : goal.returns-in-Some-None-clause-refused
returns-in-Some-None-clause-refused g c =
    let item = item_at {f = g.I.Inspect.shape} {xs = c.args.items.now} {i = c.loop-next.next} (omega arith) c.index-items-next.is c.node-node.ensures in
    leaf_refused _ _ (HasItem-first item) c.in-Some-None.ensures.leaf (rw c.in-Some-None.field-0-is at c.in-Some-None.ensures.read) c.leaf_fault.ensures
