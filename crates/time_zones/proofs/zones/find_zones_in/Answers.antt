use Rattle.std.proofs.Common.{rules}
use Rattle.time_zones.proofs.FolderLemmas.{utc_alone, more_zones}
use Rattle.time_zones.proofs.zones.find_zones_in.Goals as goal

pub loop-name-init : goal.loop-name-init
loop-name-init g c = utc_alone _ c.args.folder.now c.new-zones.result c.insert.new.self c.new-zones.ensures c.in_ok-insert.ensures.ok

pub loop-name-preserved : goal.loop-name-preserved
loop-name-preserved g c =
    more_zones (λ name. name.now) _ c.args.folder.now c.args.names.now c.loop-name.name-index _ c.loop-name.zones c.add.new.zones
    c.loop-name.invariant (search rules) c.in_ok-add.ensures.ok
