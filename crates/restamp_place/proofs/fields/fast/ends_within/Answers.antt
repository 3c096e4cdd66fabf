use Rattle.std.proofs.Common.{arith}
use Rattle.std.proofs.lemmas.List.{length-drop}
use Rattle.restamp_place.proofs.WordLemmas.{counts}
use Rattle.restamp_place.proofs.fields.fast.ends_within.Goals as goal

pub loop-k-preserved : goal.loop-k-preserved
loop-k-preserved c =
    let all = length-drop c.args.start c.args.line.now in
    counts c.args.line.now c.args.start c.loop-k.k c.loop-k.ends c.from-ends.result c.is_blank.result c.is_blank-in-loop-k.result (omega arith)
    c.loop-k.invariant.0 c.loop-k.invariant.1 c.is_blank.ensures c.is_blank-in-loop-k.ensures c.from-ends.ensures
