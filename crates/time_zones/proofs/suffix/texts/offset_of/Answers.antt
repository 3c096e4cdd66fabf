use Rattle.time_zones.proofs.NameLemmas.{if_none, no_offset}
use Rattle.time_zones.proofs.suffix.texts.offset_of.Goals as goal

pub returns-in_err-seconds-clause-none : goal.returns-in_err-seconds-clause-none
returns-in_err-seconds-clause-none c =
    if_none _ _ (no_offset _ _ 43 c.in-Some.ensures.some c.in_err-seconds.ensures.none)

pub returns-in_err-seconds-2-clause-none : goal.returns-in_err-seconds-2-clause-none
returns-in_err-seconds-2-clause-none c =
    if_none _ _ (no_offset _ _ 45 c.in_ok-time.ensures.some c.in_err-seconds-2.ensures.none)
