-- The zones that options name.
use Rattle.std.specs.Prelude.{◌≡◌, ◌≢◌, ◌↔◌, ℕ, List, codes, false, MatchBool, Option, None, Some, MatchOption, option_map, Result, Ok, Err}
use Rattle.std.specs.Str.{bytes_eq}
use Rattle.time_values.specs.Offsets.{IsUtc}
use Rattle.time_values.specs.declared.utc_offset.UtcOffset.{UtcOffset}
use Rattle.time_zones.specs.Finding.{IsZoneOf, name_of, IsZoneName}
use Rattle.time_zones.specs.Suffix as Suffix
use Rattle.time_zones.specs.declared.finding.NamedZone.{NamedZone}
use Rattle.time_zones.specs.declared.finding.NamedZone.TheVariants.{Utc}
use Rattle.time_zones.specs.declared.zone_fault.ZoneFault.{ZoneFault}
use Rattle.time_zones.specs.declared.zone_fault.ZoneFault.TheVariants.{NotAName}
use Rattle.restamp_formats.specs.declared.clock.Clock.{Clock}
use Rattle.restamp_formats.specs.declared.clock.Clock.TheVariants as on
use Rattle.restamp_formats.specs.declared.local.Clocks.{Clocks}
use Rattle.restamp_formats.specs.declared.local.Fold.{Fold}
use Rattle.restamp_formats.specs.declared.reading.Defaults.{Defaults}
use Rattle.restamp_command.specs.Values.{IsOffsetText}
use Rattle.restamp_command.specs.declared.zone.OwnedDefaults.{OwnedDefaults}
use Rattle.restamp_command.specs.declared.zone.Local.{Local}
use Rattle.restamp_command.specs.declared.zone.Local.TheVariants as local
use Rattle.restamp_command.specs.declared.zone.Zone.{Zone}
use Rattle.restamp_command.specs.declared.zone.Zone.TheVariants as kind

-- The possible results for a zone's name. `UTC` is found. Except for `local`, the error is `NotAName` if and only if
-- the text can't be a name. Any other result is possible, since no contract describes the system's files.
abbrev pub IsZoneResult : List ℕ → Result NamedZone ZoneFault → Type 0
IsZoneResult name result =
    (name ≡ codes "UTC" → result ≡ Ok Utc)
    × (name ≢ codes "local" → ((result ≡ Err NotAName) ↔ ((name ≢ codes "UTC") × (¬ IsZoneName name))))

-- The zone is a named one, and a possible result for that name.
abbrev pub IsNamedBy : List ℕ → Zone → Type 0
IsNamedBy name (kind.Named named) = IsZoneResult name (Ok named)
IsNamedBy name zone = ⊥

-- The zone is the fixed offset UTC.
abbrev pub IsUtcZone : Zone → Type 0
IsUtcZone (kind.Fixed offset) = IsUtc offset
IsUtcZone zone = ⊥

-- The zone of a text: `keep`, `utc`, an offset such as `+05:30`, or the name of a zone.
abbrev pub IsZone : List ℕ → Zone → Type 0
IsZone text zone =
    MatchBool (bytes_eq text (codes "keep")) (zone ≡ kind.Keep)
    (MatchBool (bytes_eq text (codes "utc")) (IsUtcZone zone)
    ((offset : Option UtcOffset) × IsOffsetText text offset
    × MatchOption offset (IsNamedBy text zone) (λ o. zone ≡ kind.Fixed o)))

-- The text is not `keep`, `utc` or an offset, and that error is a possible result for it as a zone's name.
abbrev pub IsNoZone : List ℕ → ZoneFault → Type 0
IsNoZone text why =
    (bytes_eq text (codes "keep") ≡ false) × (bytes_eq text (codes "utc") ≡ false)
    × IsOffsetText text None × IsZoneResult text (Err why)

-- the zone in a suffix, by its offset or its name; `None` for `Keep`, a POSIX rule, and a table without a name
abbrev pub suffix_zone : Zone → Option Suffix.Zone
suffix_zone kind.Keep = None
suffix_zone (kind.Fixed offset) = Some (Suffix.at_offset offset)
suffix_zone (kind.Named named) = option_map Suffix.named (name_of named)

-- The zone has that suffix: in brackets its name, if RFC 9557 allows it, or its offset of whole minutes below 24 hours.
abbrev pub IsSuffixOf : Zone → List ℕ → Type 0
IsSuffixOf zone bytes =
    (z : Suffix.Zone) × (text : List ℕ) × (suffix_zone zone ≡ Some z) × Suffix.IsZoneText text z
    × (bytes ≡ Suffix.bracketed false text)

-- The zone has no suffix: it is `Keep`, a named zone without a name that RFC 9557 allows, or an offset that isn't of
-- whole minutes or is of 24 hours or more.
abbrev pub HasNoSuffix : Zone → Type 0
HasNoSuffix zone = (bytes : List ℕ) → IsSuffixOf zone bytes → ⊥

-- the clock converts moments to that named zone
abbrev pub IsClockIn : NamedZone → Clock → Type 0
IsClockIn named (on.Zone zone) = IsZoneOf named zone
IsClockIn named clock = ⊥

-- the clock converts moments to that zone; for `Keep` it leaves them at their own offset
abbrev pub IsClockOf : Zone → Clock → Type 0
IsClockOf kind.Keep clock = clock ≡ on.Own
IsClockOf (kind.Fixed offset) clock = clock ≡ on.Fixed offset
IsClockOf (kind.Named named) clock = IsClockIn named clock

-- the zone for local times is that named zone, with that choice for ambiguous local times
abbrev pub AreClocksIn : NamedZone → Fold → Option Clocks → Type 0
AreClocksIn named fold None = ⊥
AreClocksIn named fold (Some clocks) = IsZoneOf named clocks.zone × (clocks.fold ≡ fold)

-- the defaults have that offset and no zone for local times, or that zone and no offset
abbrev pub IsOfLocal : Local → Defaults → Type 0
IsOfLocal (local.Offset offset) d = (d.offset ≡ Some offset) × (d.clocks ≡ None)
IsOfLocal (local.Zone named name fold) d = (d.offset ≡ None) × AreClocksIn named fold d.clocks

-- The defaults have the given year, the given offset or zone for local times, and the given latest moment.
abbrev pub AreDefaultsOf : OwnedDefaults → Defaults → Type 0
AreDefaultsOf given d = (d.year ≡ given.year) × IsOfLocal given.local d × (d.latest ≡ given.latest)

-- the name that reports give the default zone: `its zone` if the default is an offset
abbrev pub zone_name : Local → List ℕ
zone_name (local.Offset offset) = codes "its zone"
zone_name (local.Zone named name fold) = name.now
