use Rattle.std.proofs.Common.{arith}
use Rattle.time_preparing.proofs.Rows.{fits_more, kept_more}
use Rattle.time_preparing.proofs.prepared.prepare.Goals as goal

pub loop-left-preserved : goal.loop-left-preserved
loop-left-preserved g c =
    let steps = c.args.steps.now in
    let kept = c.loop-left.kept.items in
    let left = c.loop-left.left.now in
    let all = kept_more steps kept left c.step-item.result c.loop-left.invariant.0 (omega arith) c.step-item.is in
    let fits = fits_more steps kept left c.loop-left.joined.items c.joined_at.result c.loop-left.invariant.0 c.loop-left.invariant.1
    c.loop-left.invariant.2 c.joined_at.ensures in (
      rw c.push.ensures.items all,
      rw c.push-in-len1-up.ensures.items fits,
      omega (arith, c.push.ensures.len, c.push-in-len1-up.ensures.len),
    )
