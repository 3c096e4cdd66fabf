use Rattle.std.proofs.Common.{take, map}
use Rattle.time_zones.specs.Finding.{AreZonesOf}
use Rattle.time_zones.proofs.zones.find_zones_in.Given as goal

abbrev pub invariant-loop-name : goal.invariant-loop-name
invariant-loop-name g l =
    AreZonesOf (g.F.ZoneFiles.gives l.files) l.folder (map (λ name. name.now) (take l.name-index l.names)) l.zones
