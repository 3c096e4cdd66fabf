use Rattle.time_zones.proofs.FolderLemmas.{no_zone_of_no_text}
use Rattle.time_zones.proofs.zones.Zones.get.Goals as goal

pub returns-in_default : goal.returns-in_default
returns-in_default c = no_zone_of_no_text c.args.self.now c.args.name.now c.in_default.ensures.cases.0
