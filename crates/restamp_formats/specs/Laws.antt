-- Laws of formats.
use Rattle.time_values.specs.Calendar.{greatest_year}
use Rattle.std.specs.Prelude.{◌≡◌, ◌++◌, ◌⊎◌, ◌∷◌}
use Rattle.time_zones.specs.{Suffix.at_offset, Finding.SameNamed}
use Rattle.time_parsing.specs.Written.{kept, written}
use Rattle.time_values.specs.Offsets as Offsets
use Rattle.time_values.specs.Times as Times
use Rattle.restamp_formats.specs.Common.{ℕ, pos, codes, false, List, length, Option, Some, Result, Ok, IsOkAnd, [], offset_of, offset_time, Items, OffsetDateTime, UtcOffset, AgreesWith, IsNameIn, IsSuffix, IsZoneText, Tag, Zone, ZoneTag, bracketed, critical_key, named, zone_named, IsZoneIfAny, Zones, FractionDigits, Tree, steps_shape, Step, shape, Description, Record, empty, IsMoment, Clock, Form, Writing, Defaults, Reading, MOST_STEPS, Match, Named}
use Rattle.restamp_formats.specs.Naming.{format_name_of, common_text, meaning_of, Means, MeansWriting}
use Rattle.restamp_formats.specs.ComponentValues.{pieces, AllStop, DeterminesMoment, ReadsTree, with_values_of, HasAll, SignDetermines}
use Rattle.restamp_formats.specs.{Zoned.IsConverted, Zoned.has_local_offset, Form.IsWritten, Reading.ParsesAs, Reading.completed, Reading.IsCompleted, Reading.said, Reason.Reason}

-- All of the nine digits of the moment's fraction after the first k are 0.
abbrev pub HasDigits : ℕ → OffsetDateTime → Type 0
HasDigits k v = kept k (Times.nanosecond (offset_time v)) ≡ Times.nanosecond (offset_time v)

-- `Auto` omits only zeros at the end of the fraction.
abbrev pub AutoHasAll : Type 0
AutoHasAll = (v : OffsetDateTime) → HasDigits (written FractionDigits.Auto v) v

-- The format parses all of the moment from the text that the output format writes of it. A named format is the same
-- one, and the text has each nonzero digit of the fraction; a description has the same tree, and its text determines
-- the moment. Never if the output format is a `Count`.
abbrev pub ReadsAll : Reading → Defaults → Writing → FractionDigits → OffsetDateTime → Type 0
ReadsAll format defaults (Writing.Named Named.Rfc3339) digits v =
    (format ≡ Reading.Rfc3339) × HasDigits (written digits v) v
ReadsAll format defaults (Writing.Named Named.Rfc2822) digits v = (format ≡ Reading.Rfc2822) × HasDigits 0 v
ReadsAll format defaults (Writing.Named Named.Iso8601) digits v = format ≡ Reading.Iso8601
ReadsAll format defaults (Writing.Named (Named.Count unit)) digits v = ⊥
ReadsAll format defaults (Writing.Described d) digits v = ReadsTree format defaults (shape d) v

-- The text is that of the moment in a form, and the format parses all of the moment, converted to the clock of the
-- form, from it.
abbrev pub IsReadable : Reading → Defaults → Form → OffsetDateTime → List ℕ → Type 0
IsReadable format defaults form v bytes =
    ((w : OffsetDateTime) × IsConverted form.clock v (Some w)
    × ReadsAll format defaults form.writing.now form.digits w)
    × ((text : Items) × IsWritten form v (Ok text) × (bytes ≡ text.items))

-- A text of `IsReadable` parses as its moment, converted to the clock of its form, and the match has all its bytes.
abbrev pub ReadsRewrittenBack : Type 0
ReadsRewrittenBack =
    (format : Reading) (defaults : Defaults) (form : Form) (v : OffsetDateTime) (bytes : List ℕ)
    (read : Result Match Reason)
    → IsReadable format defaults form v bytes → ParsesAs format false bytes defaults read
    → IsOkAnd read
    (λ said. IsConverted form.clock v (Some said.moment) × (said.start ≡ 0) × (said.length ≡ length bytes))

-- If RFC 3339 matches a whole text, and the suffix after it agrees with the moment, RFC 9557 matches both together as
-- that moment with all their bytes.
abbrev pub ReadsSuffixedBack : Type 0
ReadsSuffixedBack =
    (zones : Zones) (defaults : Defaults) (v : OffsetDateTime) (text behind : List ℕ) (zone : Option ZoneTag)
    (tags : List Tag) (read : Result Match Reason)
    → ParsesAs Reading.Rfc3339 false text defaults (Ok (said v (length text)))
    → IsSuffix behind zone tags → AgreesWith zones (has_local_offset text) v zone (critical_key tags) (Ok tt)
    → ParsesAs (Reading.Zoned zones) false (text ++ behind) defaults read
    → read ≡ Ok (said v (length (text ++ behind)))

-- The zone is the one that the clock converts moments to: its fixed offset, or a name that its time zone has in the
-- table. Never for the moment's own offset.
abbrev pub IsZoneOfClock : Zones → Clock → Zone → Type 0
IsZoneOfClock zones Clock.Own z = ⊥
IsZoneOfClock zones (Clock.Fixed o) (at_offset p) = p ≡ o
IsZoneOfClock zones (Clock.Fixed o) (named name) = ⊥
IsZoneOfClock zones (Clock.Zone zone) (at_offset p) = ⊥
IsZoneOfClock zones (Clock.Zone zone) (named name) = IsZoneIfAny (zone_named zones name) (Some zone)

-- The text is that of the moment by RFC 3339 in a form, with each nonzero digit of the fraction, and `name` is the text
-- of the zone or the offset that the moment is converted to.
pub record HasZone (zones : Zones) (defaults : Defaults) (form : Form) (v : OffsetDateTime)
    (text name : List ℕ) : Type 0 where
  pub zone : Zone
  pub readable : IsReadable Reading.Rfc3339 defaults form v text
  pub of_clock : IsZoneOfClock zones form.clock zone
  pub told : IsZoneText name zone

-- A text of `HasZone`, followed by its `name` in brackets, parses by RFC 9557 as its moment, converted to the clock of
-- the form, with all its bytes.
abbrev pub ReadsZonedBack : Type 0
ReadsZonedBack =
    (zones : Zones) (defaults : Defaults) (form : Form) (v : OffsetDateTime) (text name : List ℕ)
    (read : Result Match Reason)
    → HasZone zones defaults form v text name
    → ParsesAs (Reading.Zoned zones) false (text ++ bracketed false name) defaults read
    → IsOkAnd read (λ said. IsConverted form.clock v (Some said.moment) × (said.start ≡ 0)
    × (said.length ≡ length (text ++ bracketed false name)))

-- If a text of `HasZone`, followed by its `name` in brackets, parses by RFC 9557 as a moment, that moment has the same
-- text in the form, without the brackets.
abbrev pub WritesZonedSame : Type 0
WritesZonedSame =
    (zones : Zones) (defaults : Defaults) (form : Form) (v : OffsetDateTime) (text name : List ℕ) (said : Match)
    (again : Result Items Reason)
    → HasZone zones defaults form v text name
    → ParsesAs (Reading.Zoned zones) false (text ++ bracketed false name) defaults (Ok said)
    → IsWritten form said.moment again → IsOkAnd again (λ written. written.items ≡ text)

-- If a text of `IsReadable` parses as a moment, that moment has the same text in the form.
abbrev pub WritesSameText : Type 0
WritesSameText =
    (format : Reading) (defaults : Defaults) (form : Form) (v : OffsetDateTime) (bytes : List ℕ) (said : Match)
    (again : Result Items Reason)
    → IsReadable format defaults form v bytes → ParsesAs format false bytes defaults (Ok said)
    → IsWritten form said.moment again → IsOkAnd again (λ text. text.items ≡ bytes)

-- A tree determines a moment with the defaults, if each component's text is parsed whole, and `with_values_of` gives a
-- record of its components' values that, completed by the defaults, has the date, the time and the offset of the
-- moment, and no count from 1970.
abbrev pub AllValuesDetermine : Type 0
AllValuesDetermine =
    (v : OffsetDateTime) (tree : Tree) (defaults : Defaults) (after : Record)
    → AllStop v (pieces tree) → with_values_of v (pieces tree) empty ≡ Some after
    → HasAll (completed defaults after) v → DeterminesMoment tree defaults v

-- A record that resolves to a moment without defaults resolves to the same moment with any defaults.
abbrev pub KeepsMoment : Type 0
KeepsMoment =
    (defaults : Defaults) (r : Record) (v : OffsetDateTime) → IsMoment greatest_year r (Ok v)
    → IsCompleted defaults r (Ok v)

-- The minutes and the seconds of each offset are their magnitudes with the sign of the offset.
abbrev pub SignsDetermine : Type 0
SignsDetermine = (o : UtcOffset) → SignDetermines o

-- If a text names both a format to parse by and a description to write by, the format is `Described`, with the tree of
-- that description.
abbrev pub OneTree : Type 0
OneTree =
    (text : List ℕ) (format : Reading) (d : Description MOST_STEPS)
    → Means (format_name_of text) (meaning_of format) → MeansWriting text (Writing.Described d)
    → (e : List Step) × (format ≡ Reading.Described e) × (steps_shape e ≡ shape d)

-- If a moment has no fraction and its offset no seconds, its text by the description of the format `common` determines
-- it by that format, whatever the defaults.
abbrev pub CommonReadsBack : Type 0
CommonReadsBack =
    (v : OffsetDateTime) (format : Reading) (defaults : Defaults) (d : Description MOST_STEPS)
    → Means (format_name_of (codes "common")) (meaning_of format) → MeansWriting common_text (Writing.Described d)
    → Times.nanosecond (offset_time v) ≡ 0 → Offsets.seconds (offset_of v) ≡ pos 0
    → ReadsTree format defaults (shape d) v

-- ---- Formats with tables of zones that differ only in names that aren't in some bytes

-- each name that the bytes have in brackets, directly after a byte with which a timestamp may end, has the same zone in
-- both tables, or none in either
abbrev pub SameZones : List ℕ → Zones → Zones → Type 0
SameZones bytes zones other = (name : List ℕ) → IsNameIn bytes name → SameNamed zones other name

-- the formats are equal, or both are RFC 9557, with tables of zones that agree on the names in the bytes
abbrev pub AreEquivalent : List ℕ → Reading → Reading → Type 0
AreEquivalent bytes format other =
    (format ≡ other)
    ⊎ ((zones same : Zones) × (format ≡ Reading.Zoned zones) × (other ≡ Reading.Zoned same)
    × SameZones bytes zones same)

-- equally many formats, which in pairs are equal, or RFC 9557 with tables that agree on the names in the bytes
abbrev pub AllEquivalent : List ℕ → List Reading → List Reading → Type 0
AllEquivalent bytes [] [] = Unit {0}
AllEquivalent bytes [] (other ∷ others) = ⊥
AllEquivalent bytes (format ∷ formats) [] = ⊥
AllEquivalent bytes (format ∷ formats) (other ∷ others) = AreEquivalent bytes format other
    × AllEquivalent bytes formats others
