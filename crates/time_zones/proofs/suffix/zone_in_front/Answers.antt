use Rattle.time_zones.proofs.NameLemmas.{if_none}
use Rattle.time_zones.proofs.SuffixTextLemmas.{no_zone_unbracketed, no_zone_untold, zone_found}
use Rattle.time_zones.proofs.suffix.zone_in_front.Goals as goal

pub returns-in_err-found-clause-none : goal.returns-in_err-found-clause-none
returns-in_err-found-clause-none c = if_none _ _ (no_zone_unbracketed _ c.in_err-found.ensures.none)

pub returns-in_err-zone-clause-none : goal.returns-in_err-zone-clause-none
returns-in_err-zone-clause-none c = if_none _ _ (no_zone_untold _ _ _ _ c.in_ok-found.ensures.some c.in_err-zone.ensures.none)

pub returns-clause-some : goal.returns-clause-some
returns-clause-some c = zone_found _ _ _ _ c.in_ok-found.ensures.some c.in_ok-zone.ensures.some
