-- Finding a zone in files, for any results of reading a file.
use Rattle.std.specs.Prelude.{◌≡◌, ◌≢◌, ◌⊎◌, ℕ, ◌==◌, Bool, false, List, [], ◌∷◌, All, Option, Some, None, codes, MatchBool, ◌++◌, Result, Ok, Err, string_bytes, ℤ, pos, Contains}
use Rattle.std.specs.List.{slice_split}
use Rattle.std.specs.BTreeMap.{get_by_text}
use Rattle.jiff_tz.specs.PosixReader.{read_whole}
use Rattle.jiff_tz.specs.PosixText.{TzText, tz_view}
use Rattle.jiff_core.specs.declared.error.Error.TheVariants.{Tzif as TzifError}
use Rattle.jiff_tz.specs.Tzif.{tzif_view, tzif_name, RuleAgrees, IsParseFailure}
use Rattle.jiff_tz.specs.TzifReader.{read_tzif}
use Rattle.jiff_tz.specs.declared.timezone.TimeZone.{TimeZone}
use Rattle.jiff_tz.specs.declared.timezone.TimeZone.TheVariants as Zone
use Rattle.jiff_tz.specs.declared.tzif.Tzif.{Tzif as Table}
use Rattle.jiff_tz.specs.PosixRule as Posix
use Rattle.jiff_tz.specs.Tzif as Tzif
use Rattle.time_zones.specs.declared.place.Place.{Place}
use Rattle.time_zones.specs.declared.place.Place.TheVariants.{Utc as PlaceUtc, Rule as PlaceRule, InFolder, AtPath}
use Rattle.time_zones.specs.declared.files.ReadFault.{ReadFault}
use Rattle.time_zones.specs.declared.files.ReadFault.TheVariants as Read
use Rattle.time_zones.specs.declared.finding.NamedZone.{NamedZone}
use Rattle.time_zones.specs.declared.finding.NamedZone.TheVariants as Named
use Rattle.time_zones.specs.declared.zone_fault.ZoneFault.{ZoneFault}
use Rattle.time_zones.specs.declared.zone_fault.ZoneFault.TheVariants as Fault
use Rattle.time_zones.specs.declared.finding.NamedZone.TheVariants.{Utc, Rule, Table as NamedTable}
use Rattle.time_zones.specs.declared.zones.Zones.{Zones}

-- ---- The places that the name of a zone and the variable TZ specify

-- the text is valid as a part of a name: neither empty nor "." nor ".."
abbrev pub IsPart : List ℕ → Type 0
IsPart part = (part ≢ []) × (part ≢ codes ".") × (part ≢ codes "..")

-- the text is valid as a name in the folder of zones: one or more valid parts with slashes between them
abbrev pub IsZoneName : List ℕ → Type 0
IsZoneName name = All IsPart (slice_split (λ b. b == 47) name)

-- the place of a name: UTC for `UTC`, or else the file of that name in the folder; none if a part of it is invalid
abbrev pub IsPlaceOfName : List ℕ → Option Place → Type 0
IsPlaceOfName name None = (name ≢ codes "UTC") × (¬ (IsZoneName name))
IsPlaceOfName name (Some PlaceUtc) = name ≡ codes "UTC"
IsPlaceOfName name (Some (PlaceRule rule)) = ⊥
IsPlaceOfName name (Some (InFolder below)) = (below.now ≡ name) × (name ≢ codes "UTC") × IsZoneName name
IsPlaceOfName name (Some (AtPath path)) = ⊥

-- the place is the file at that path
abbrev pub IsFileAt : List ℕ → Option Place → Type 0
IsFileAt path None = ⊥
IsFileAt path (Some PlaceUtc) = ⊥
IsFileAt path (Some (PlaceRule rule)) = ⊥
IsFileAt path (Some (InFolder below)) = ⊥
IsFileAt path (Some (AtPath at)) = at.now ≡ path

-- whether the text begins with a slash; false for the empty text
abbrev pub is_absolute : List ℕ → Bool
is_absolute [] = false
is_absolute (c ∷ rest) = c == 47

-- the place is the file at the path `text` if it begins with a slash, and else the place of the name `text`
abbrev pub IsPlaceOfPath : List ℕ → Option Place → Type 0
IsPlaceOfPath text place = MatchBool (is_absolute text) (IsFileAt text place) (IsPlaceOfName text place)

-- the place is the POSIX rule with that text
abbrev pub IsRule : TzText → Option Place → Type 0
IsRule text None = ⊥
IsRule text (Some PlaceUtc) = ⊥
IsRule text (Some (PlaceRule rule)) = tz_view rule ≡ text
IsRule text (Some (InFolder below)) = ⊥
IsRule text (Some (AtPath at)) = ⊥

-- the place is that rule, the one that the text parses as; without a rule it is that of the text as a path or a name
abbrev pub IsRuleOrPath : Option TzText → List ℕ → Option Place → Type 0
IsRuleOrPath (Some rule) text place = IsRule rule place
IsRuleOrPath None text place = IsPlaceOfPath text place

-- the place that a value of TZ specifies: UTC if it is empty, a path or a name after a colon, and else a rule, a path
-- or a name
abbrev pub IsPlaceOfSetting : List ℕ → Option Place → Type 0
IsPlaceOfSetting [] place = place ≡ Some PlaceUtc
IsPlaceOfSetting (c ∷ rest) place =
    MatchBool (c == 58) (IsPlaceOfPath rest place) (IsRuleOrPath (read_whole (c ∷ rest)) (c ∷ rest) place)

-- the place of the system's zone: the one that TZ specifies, or /etc/localtime if TZ isn't set
abbrev pub IsLocal : Option (List ℕ) → Option Place → Type 0
IsLocal None place = IsFileAt (codes "/etc/localtime") place
IsLocal (Some setting) place = IsPlaceOfSetting setting place

-- the place that a name specifies: that of the system's zone for `local`, by the value of TZ if TZ is set
abbrev pub IsRequestedPlace : Option (List ℕ) → List ℕ → Option Place → Type 0
IsRequestedPlace setting name place =
    ((name ≡ codes "local") × IsLocal setting place) ⊎ ((name ≢ codes "local") × IsPlaceOfName name place)

-- the possible results of reading the file at a path
abbrev pub Giving : Type 1
Giving = List ℕ → Result (List ℕ) ReadFault → Type 0

-- the `TimeZone` has the data of the named zone: UTC, the rule, or the table
abbrev pub IsZoneOf : NamedZone → TimeZone → Type 0
IsZoneOf Named.Utc zone = zone ≡ Zone.UTC
IsZoneOf (Named.Rule rule) zone = zone ≡ Zone.Posix rule
IsZoneOf (Named.Table table) Zone.UTC = ⊥
IsZoneOf (Named.Table table) Zone.Unknown = ⊥
IsZoneOf (Named.Table table) (Zone.Fixed offset) = ⊥
IsZoneOf (Named.Table table) (Zone.Posix rule) = ⊥
IsZoneOf (Named.Table table) (Zone.Tzif z) = z.now ≡ table

-- the name of a zone: UTC, or the name of its table; none for a rule, and for a table without a name
abbrev pub name_of : NamedZone → Option (List ℕ)
name_of Named.Utc = Some (codes "UTC")
name_of (Named.Rule rule) = None
name_of (Named.Table table) = tzif_name table

-- reading the path may give bytes that parse as this table; its rule, if it has one, agrees with its last row; and its
-- name is that name, or the table has no name if that is none
pub record HasTable (Gives : Giving) (path : List ℕ) (name : Option (List ℕ)) (table : Table) : Type 0 where
  pub bytes : List ℕ
  pub given : Gives path (Ok bytes)
  pub read : read_tzif bytes ≡ Ok (tzif_view table)
  pub agrees : RuleAgrees table
  pub named : tzif_name table ≡ name

-- the possible results of reading the file at a path as a table with that name, or without a name if that is none;
-- OutOfMemory is always possible
abbrev pub ReadsTo : Giving → List ℕ → Option (List ℕ) → Result NamedZone ZoneFault → Type 0
ReadsTo Gives path name (Ok Named.Utc) = ⊥
ReadsTo Gives path name (Ok (Named.Rule rule)) = ⊥
ReadsTo Gives path name (Ok (Named.Table table)) = HasTable Gives path name table
ReadsTo Gives path name (Err Fault.NotAName) = ⊥
ReadsTo Gives path name (Err Fault.NotText) = ⊥
ReadsTo Gives path name (Err (Fault.Unknown at)) = (string_bytes at ≡ path) × Gives path (Err Read.Missing)
ReadsTo Gives path name (Err Fault.Folder) = Gives path (Err Read.Folder)
ReadsTo Gives path name (Err (Fault.Unreadable kind)) = Gives path (Err (Read.Unreadable kind))
ReadsTo Gives path name (Err (Fault.Malformed fault)) =
    (bytes : List ℕ) × Gives path (Ok bytes) × IsParseFailure (TzifError fault) bytes
ReadsTo Gives path name (Err Fault.OutOfMemory) = Unit {0}

-- the possible results of finding the zone of a place, which reads at most one file; without a place, NotAName
abbrev pub IsFoundAt : Giving → List ℕ → Option Place → Result NamedZone ZoneFault → Type 0
IsFoundAt Gives folder None r = r ≡ Err Fault.NotAName
IsFoundAt Gives folder (Some Place.Utc) r = r ≡ Ok Named.Utc
IsFoundAt Gives folder (Some (Place.Rule rule)) r = r ≡ Ok (Named.Rule rule)
IsFoundAt Gives folder (Some (Place.InFolder below)) r = ReadsTo Gives (folder ++ 47 ∷ below.now) (Some below.now) r
IsFoundAt Gives folder (Some (Place.AtPath path)) r = ReadsTo Gives path.now None r

-- the possible results of finding the zone of a name, by the path of the folder of zones and the value of TZ, which is
-- none if TZ isn't set
abbrev pub IsFound : Giving → List ℕ → Option (List ℕ) → List ℕ → Result NamedZone ZoneFault → Type 0
IsFound Gives folder setting name r =
    (place : Option Place) × IsRequestedPlace setting name place × IsFoundAt Gives folder place r

-- the errors of reading an environment variable: it isn't UTF-8, or memory runs out
abbrev pub IsVariableFault : ZoneFault → Type 0
IsVariableFault fault = (fault ≡ Fault.NotText) ⊎ (fault ≡ Fault.OutOfMemory)

-- ---- Zones by their names

-- the zone of that name, if there is one
abbrev pub zone_named : Zones → List ℕ → Option NamedZone
zone_named zones name = get_by_text zones.zones name

-- the name has equal zones in both, or none in both
abbrev pub SameNamed : Zones → Zones → List ℕ → Type 0
SameNamed old new name = zone_named new name ≡ zone_named old name

-- in `new` the name has that zone, and each other name has the zone that it has in `old`, or none
pub record IsInserted (old new : Zones) (name : List ℕ) (zone : NamedZone) : Type 0 where
  pub found : zone_named new name ≡ Some zone
  pub others : (other : List ℕ) → other ≢ name → SameNamed old new other

-- the possible results of finding the zone of a name in the folder
abbrev pub IsFoundIn : Giving → List ℕ → List ℕ → Result NamedZone ZoneFault → Type 0
IsFoundIn Gives folder name r = (place : Option Place) × IsPlaceOfName name place × IsFoundAt Gives folder place r

-- finding the zone of the name in the folder may return an error other than OutOfMemory
abbrev pub IsOfNone : Giving → List ℕ → List ℕ → Type 0
IsOfNone Gives folder name = (fault : ZoneFault) × (fault ≢ Fault.OutOfMemory) × IsFoundIn Gives folder name (Err fault)

-- in `new` the name has a zone that is found and other names are unchanged; or none is found and all are unchanged
abbrev pub AddsFound : Giving → List ℕ → List ℕ → Zones → Zones → Type 0
AddsFound Gives folder name old new =
    ((zone : NamedZone) × IsFoundIn Gives folder name (Ok zone) × IsInserted old new name zone)
    ⊎ (IsOfNone Gives folder name × ((other : List ℕ) → SameNamed old new other))

-- the map has UTC, and no zone of another name than UTC and these; each may be found by its name in the folder; for
-- each of these names without a zone in the map, finding it may return an error other than OutOfMemory
pub record AreZonesOf (Gives : Giving) (folder : List ℕ) (names : List (List ℕ)) (zones : Zones) : Type 0 where
  pub utc : zone_named zones (codes "UTC") ≡ Some Utc
  pub found : (name : List ℕ) (zone : NamedZone) → zone_named zones name ≡ Some zone
      → Contains (codes "UTC" ∷ names) name × IsFoundIn Gives folder name (Ok zone)
  pub left_out : All (λ name. zone_named zones name ≡ None → IsOfNone Gives folder name) names

-- why no zones are found: TZDIR isn't UTF-8, the folder is missing or unreadable, or memory runs out
abbrev pub IsFolderFault : ZoneFault → Type 0
IsFolderFault Fault.NotAName = ⊥
IsFolderFault Fault.NotText = Unit {0}
IsFolderFault (Fault.Unknown path) = Unit {0}
IsFolderFault Fault.Folder = ⊥
IsFolderFault (Fault.Unreadable kind) = Unit {0}
IsFolderFault (Fault.Malformed fault) = ⊥
IsFolderFault Fault.OutOfMemory = Unit {0}

-- both are none, or the second is the `TimeZone` of the first
abbrev pub IsZoneIfAny : Option NamedZone → Option TimeZone → Type 0
IsZoneIfAny None None = Unit {0}
IsZoneIfAny None (Some zone) = ⊥
IsZoneIfAny (Some found) None = ⊥
IsZoneIfAny (Some found) (Some zone) = IsZoneOf found zone

-- the offset of the zone in seconds, above 0 ahead of UTC and below 0 behind it, at the instant n, which is in
-- nanoseconds since 1970-01-01T00:00:00Z
unfoldable pub offset_in : NamedZone → ℤ → ℤ
offset_in Utc n = pos 0
offset_in (Rule rule) n = (Posix.offset_at rule n).seconds
offset_in (NamedTable table) n = (Tzif.offset_at table n).seconds
