use Rattle.time_zones.proofs.FolderLemmas.{left_as_it_is}
use Rattle.time_zones.proofs.laws.law_left_as_it_is.Goals as goal

pub returns : goal.returns
returns c = λ told. λ has.
    left_as_it_is c.args.zone.now c.args.moment c.checked_to_zone.result (c.checked_to_zone.ensures.told.1 told)
    c.checked_to_zone.ensures.instant c.checked_to_zone.ensures.offset has
