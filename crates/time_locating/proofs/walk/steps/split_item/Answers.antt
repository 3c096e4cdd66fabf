use Rattle.std.proofs.Common.{◌+◌, take, drop, subst, sym, length}
use Rattle.time_locating.specs.StepRows.{IsSplit}
use Rattle.time_locating.proofs.MissLemmas.{split_row}
use Rattle.time_locating.proofs.walk.steps.split_item.Goals as goal

pub returns : goal.returns
returns c =
    let steps = c.args.steps.now in
    let k = c.item_len.result in
    let row = split_row steps c.step-item.result k c.in-len1-up.len_at_least c.step-item.is c.item_len.ensures.len in
    subst (λ x. IsSplit steps c.split_at.result.0.now x) (sym c.split_at.ensures.back)
    (subst (λ x. IsSplit steps x (drop (1 + k) steps)) (sym c.split_at.ensures.front) row)
