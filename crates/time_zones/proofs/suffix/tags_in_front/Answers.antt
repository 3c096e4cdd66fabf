use Rattle.std.proofs.Common.{ap, sym, subst, ◌∙◌}
use Rattle.std.specs.Prelude.{option_map}
use Rattle.time_zones.proofs.SuffixTextLemmas.{TagsRead, more_tags, option_map-or}
use Rattle.time_zones.proofs.suffix.tags_in_front.Goals as goal

pub tags-preserved : goal.tags-preserved
tags-preserved c =
    let next = c.in-Some.ensures.some in
    let step = more_tags _ _ _ next.0 _ _ c.tags.invariant next.1 next.2 in
    let key = ap (option_map (λ k. k.now)) c.or-critical_key.ensures ∙ option_map-or c.tags.critical_key c.in-Some.key in
    subst (TagsRead c.args.text.now c.in-Some.after.now) (sym key) step
