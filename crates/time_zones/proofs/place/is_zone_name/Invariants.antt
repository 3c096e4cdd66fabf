use Rattle.std.proofs.Common.{length}
use denote.Text.{Utf8}
use denote.Shadow.{shadow}
use Rattle.time_zones.specs.Finding.{IsZoneName}
use Rattle.time_zones.proofs.place.is_zone_name.Given as goal

abbrev pub invariant-parts : goal.invariant-parts
invariant-parts l =
    shadow (Utf8 l.rest) × ((IsZoneName l.rest → IsZoneName l.name) × (IsZoneName l.name → IsZoneName l.rest))

abbrev pub decreases-parts : goal.decreases-parts
decreases-parts l = length l.rest
