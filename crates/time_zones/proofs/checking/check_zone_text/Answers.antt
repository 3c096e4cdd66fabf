use Rattle.time_zones.proofs.FolderLemmas.{goes_with_found}
use Rattle.time_zones.proofs.checking.check_zone_text.Goals as goal

pub returns-in-Some : goal.returns-in-Some
returns-in-Some c =
    rw (c.in-Name.is, c.if-has_local_offset.true) (goes_with_found _ c.args.moment c.in-Some.zone _ c.in-Some.ensures c.check_zone.ensures)
