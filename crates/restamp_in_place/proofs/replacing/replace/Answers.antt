use Rattle.restamp_in_place.proofs.ReplaceLemmas.{replaces-nothing, replaces-unmade, replaces-all}
use Rattle.restamp_in_place.proofs.replacing.replace.Goals as goal

pub returns-in-Err : goal.returns-in-Err
returns-in-Err g c = replaces-nothing _ _ _ _ _

pub returns-in-Err-create_beside : goal.returns-in-Err-create_beside
returns-in-Err-create_beside g c = replaces-unmade _ _ _ _ _ _ _ _ c.in-Ok.ensures c.in-Err-create_beside.ensures.failed

pub returns : goal.returns
returns g c =
    replaces-all _ _ _ _ _ _ _ _ _ _ c.in-Ok.ensures (rw (← c.as_str.ensures.value) at c.in-Ok-create_beside.ensures.made)
    c.in-Ok-create_beside.ensures.empty c.make-maker.ensures c.finish-ended.ensures.how c.finish-ended.ensures.ends
