use Rattle.std.proofs.Common.{ap, ◌∙◌}
use Rattle.std.specs.Prelude.{option_map}
use Rattle.time_zones.proofs.NameLemmas.{if_none}
use Rattle.time_zones.proofs.SuffixTextLemmas.{no_tag_unbracketed, no_tag_unkeyed, tag_found, key_if_critical, shorter_by_tag}
use Rattle.time_zones.proofs.suffix.tag_in_front.Goals as goal

pub returns-in_err-found-clause-none : goal.returns-in_err-found-clause-none
returns-in_err-found-clause-none c = if_none _ _ (no_tag_unbracketed _ c.in_err-found.ensures.none)

pub returns-in_err-key-clause-none : goal.returns-in_err-key-clause-none
returns-in_err-key-clause-none c = if_none _ _ (no_tag_unkeyed _ _ _ _ c.in_ok-found.ensures.some c.in_err-key.ensures.none)

pub returns-clause-some : goal.returns-clause-some
returns-clause-some c =
    let keyed = c.in_ok-key.ensures.some in (
      record { is_critical = c.in_ok-found.found.is_critical; key = c.in_ok-key.key.now; values = keyed.0 },
      tag_found _ _ _ _ _ _ c.in_ok-found.ensures.some keyed.1,
      ap (option_map (λ k. k.now)) c.then_some.ensures ∙ key_if_critical c.in_ok-found.found.is_critical c.in_ok-key.key,
    )

pub returns-clause-shorter : goal.returns-clause-shorter
returns-clause-shorter c =
    let keyed = c.in_ok-key.ensures.some in
    shorter_by_tag _ _ _ (tag_found _ _ _ _ _ _ c.in_ok-found.ensures.some keyed.1)
