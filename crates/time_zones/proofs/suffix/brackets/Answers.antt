use Rattle.time_zones.proofs.NameLemmas.{if_none, brackets_found, no_brackets}
use Rattle.time_zones.proofs.suffix.brackets.Goals as goal

pub returns-in_err-rest-clause-none : goal.returns-in_err-rest-clause-none
returns-in_err-rest-clause-none c =
    if_none _ _ (no_brackets _ _ _ _ _ _ c.in_ok-after.ensures.some c.flag-is_critical.ensures.whole c.flag-is_critical.ensures.none
    c.bracket_len.ensures.count c.split_at.ensures.back c.in_err-rest.ensures.none)

pub returns-clause-some : goal.returns-clause-some
returns-clause-some c =
    brackets_found _ _ _ _ _ _ _ _ c.in_ok-after.ensures.some c.flag-is_critical.ensures.whole c.bracket_len.ensures.count
    c.split_at.ensures.front c.split_at.ensures.back c.in_ok-rest.ensures.some
