-- The suffix that RFC 9557, section 4.1, appends to a timestamp of RFC 3339: its grammar, whose rules the comments
-- name, and the check of a suffix against a moment.
use Rattle.std.specs.Prelude.{◌≡◌, ◌≢◌, ◌⊎◌, ℕ, ◌+◌, ◌*◌, ◌/◌, ◌%◌, ◌<◌, ◌≤◌, Bool, true, false, ◌||◌, ◌==◌, IsTrue, List, [], ◌∷◌, ◌++◌, length, take, All, Option, Some, None, if◌then◌else◌, codes, pos, neg_ℤ, option_map, ℤ, MatchBool, MatchOption, Result, Ok, Err}
use Rattle.std.specs.Char.{is_ascii_alphabetic, is_ascii_alphanumeric, is_ascii_digit, is_ascii_lowercase}
use Rattle.std.specs.List.{AllPass, slice_split}
use Rattle.std.specs.Ordering.{int_eq}
use Rattle.time_values.specs.Offsets.{offset_seconds}
use Rattle.time_values.specs.declared.utc_offset.UtcOffset.{UtcOffset}
use Rattle.time_values.specs.Moments.{offset_of, offset_instant}
use Rattle.time_values.specs.Calendar.{greatest_year}
use Rattle.time_values.specs.declared.offset_date_time.OffsetDateTime.{OffsetDateTime}
use Rattle.time_zones.specs.Finding.{IsZoneName, zone_named, offset_in}
use Rattle.time_zones.specs.declared.suffix.Suffixed.{Suffixed}
use Rattle.time_zones.specs.declared.suffix.ZoneText.{ZoneText}
use Rattle.time_zones.specs.declared.suffix.ZoneText.TheVariants.{Name, Offset}
use Rattle.time_zones.specs.declared.suffix.ZoneTag as declared
use Rattle.time_zones.specs.Zones.{IsInZoneRange}
use Rattle.time_zones.specs.declared.checking.SuffixFault.{SuffixFault}
use Rattle.time_zones.specs.declared.checking.SuffixFault.TheVariants.{CriticalKey, UnknownZone, OtherOffset, OutsideZoneRange}
use Rattle.time_zones.specs.declared.finding.NamedZone.{NamedZone}
use Rattle.time_zones.specs.declared.zones.Zones.{Zones}

-- time-zone-initial: an ASCII letter, a dot or an underscore
abbrev pub is_zone_initial : ℕ → Bool
is_zone_initial b = is_ascii_alphabetic b || b == 46 || b == 95

-- time-zone-char: a time-zone-initial, a digit, a dash or a plus
abbrev pub is_zone_char : ℕ → Bool
is_zone_char b = is_zone_initial b || is_ascii_digit b || b == 45 || b == 43

-- key-initial: a lowercase ASCII letter or an underscore
abbrev pub is_key_initial : ℕ → Bool
is_key_initial b = is_ascii_lowercase b || b == 95

-- key-char: a key-initial, a digit or a dash
abbrev pub is_key_char : ℕ → Bool
is_key_char b = is_key_initial b || is_ascii_digit b || b == 45

-- a first byte of one kind, and then any number of bytes of the other kind
abbrev pub IsWord : (ℕ → Bool) → (ℕ → Bool) → List ℕ → Type 0
IsWord initial char [] = ⊥
IsWord initial char (b ∷ rest) = IsTrue (initial b) × AllPass char rest

-- time-zone-part, which is neither "." nor ".."
abbrev pub IsTimeZonePart : List ℕ → Type 0
IsTimeZonePart part = IsWord is_zone_initial is_zone_char part × (part ≢ codes ".") × (part ≢ codes "..")

-- time-zone-name: one or more parts with slashes between them
abbrev pub IsTimeZoneName : List ℕ → Type 0
IsTimeZoneName name = All IsTimeZonePart (slice_split (λ b. b == 47) name)

-- a number below 100 in two ASCII digits, the tens first
abbrev pub two_digits : ℕ → List ℕ
two_digits n = (48 + n / 10) ∷ (48 + n % 10) ∷ []

-- time-hour ":" time-minute, from 00:00 to 23:59, and their sum in seconds
pub record IsHourMinute (text : List ℕ) (seconds : ℕ) : Type 0 where
  pub hour : ℕ
  pub minute : ℕ
  pub hour_in : hour < 24
  pub minute_in : minute < 60
  pub whole : text ≡ two_digits hour ++ 58 ∷ two_digits minute
  pub are_seconds : seconds ≡ hour * 3600 + minute * 60

-- time-numoffset, with its offset: ahead of UTC after a plus, behind it after a minus
pub record IsNumOffset (text : List ℕ) (o : UtcOffset) : Type 0 where
  pub time : List ℕ
  pub seconds : ℕ
  pub is_time : IsHourMinute time seconds
  pub signed : ((text ≡ 43 ∷ time) × (offset_seconds o ≡ pos seconds))
      ⊎ ((text ≡ 45 ∷ time) × (offset_seconds o ≡ neg_ℤ (pos seconds)))

-- a zone by its name, or by an offset
pub data Zone : Type 0 where
  named : List ℕ → Zone
  at_offset : UtcOffset → Zone

-- time-zone-name / time-numoffset: by the grammar, the text is the zone's name, or its offset
abbrev pub IsZoneText : List ℕ → Zone → Type 0
IsZoneText text (named name) = (text ≡ name) × IsTimeZoneName name
IsZoneText text (at_offset o) = IsNumOffset text o

-- suffix-key: a key-initial, and then any number of key-chars
abbrev pub IsSuffixKey : List ℕ → Type 0
IsSuffixKey key = IsWord is_key_initial is_key_char key

-- suffix-value: one or more ASCII letters and digits
abbrev pub IsSuffixValue : List ℕ → Type 0
IsSuffixValue value = (value ≢ []) × AllPass is_ascii_alphanumeric value

-- suffix-values: one or more values with dashes between them
abbrev pub AreSuffixValues : List ℕ → Type 0
AreSuffixValues text = All IsSuffixValue (slice_split (λ b. b == 45) text)

-- the contents of the brackets: the text, after the critical-flag "!" if the first argument is true
abbrev pub flagged : Bool → List ℕ → List ℕ
flagged false text = text
flagged true text = 33 ∷ text

-- "[", the critical-flag "!" if is_critical, the text, and "]"
abbrev pub bracketed : Bool → List ℕ → List ℕ
bracketed is_critical text = 91 ∷ flagged is_critical text ++ 93 ∷ []

-- a key with its values, and whether it is critical
pub record Tag : Type 0 where
  pub is_critical : Bool
  pub key : List ℕ
  pub values : List ℕ

-- a zone, and whether it is critical
pub record ZoneTag : Type 0 where
  pub is_critical : Bool
  pub zone : Zone

-- time-zone: "[" critical-flag (time-zone-name / time-numoffset) "]"
pub record IsZoneTag (text : List ℕ) (z : ZoneTag) : Type 0 where
  pub inside : List ℕ
  pub whole : text ≡ bracketed z.is_critical inside
  pub is_zone : IsZoneText inside z.zone

-- [time-zone]: the text of a zone in brackets, or the empty text without a zone
abbrev pub IsZoneTagIfAny : List ℕ → Option ZoneTag → Type 0
IsZoneTagIfAny text None = text ≡ []
IsZoneTagIfAny text (Some z) = IsZoneTag text z

-- suffix-tag: "[" critical-flag suffix-key "=" suffix-values "]"
abbrev pub tag_text : Tag → List ℕ
tag_text t = bracketed t.is_critical (t.key ++ 61 ∷ t.values)

-- the key and the values of the tag follow the grammar
abbrev pub IsSuffixTag : Tag → Type 0
IsSuffixTag t = IsSuffixKey t.key × AreSuffixValues t.values

-- *suffix-tag: the texts of the tags, one after the other
abbrev pub tags_text : List Tag → List ℕ
tags_text [] = []
tags_text (t ∷ ts) = tag_text t ++ tags_text ts

-- suffix: the text is a suffix of RFC 9557 with that zone, or without one, and with these tags
pub record IsSuffix (text : List ℕ) (zone : Option ZoneTag) (tags : List Tag) : Type 0 where
  pub front : List ℕ
  pub whole : text ≡ front ++ tags_text tags
  pub is_zone : IsZoneTagIfAny front zone
  pub are_tags : All IsSuffixTag tags

-- the key of the first critical tag, or none if no tag is critical
abbrev pub critical_key : List Tag → Option (List ℕ)
critical_key [] = None
critical_key (t ∷ ts) = if t.is_critical then Some t.key else critical_key ts

-- no prefix of the text that is longer than len is a suffix
abbrev pub IsLongest : List ℕ → ℕ → Type 0
IsLongest text len = (n : ℕ) (zone : Option ZoneTag) (tags : List Tag) → n ≤ length text
    → IsSuffix (take n text) zone tags → n ≤ len

-- the text of a zone in brackets, which `write_suffix` returns, is a suffix with that zone and no tags
abbrev pub WrittenIsSuffix : Type 0
WrittenIsSuffix = (text : List ℕ) (z : Zone) → IsZoneText text z
    → IsSuffix (bracketed false text) (Some (record { is_critical = false; zone = z })) []

-- if a text is a suffix in two ways, their zones are equal or both have none, and their lists of tags are equal
abbrev pub OneSuffix : Type 0
OneSuffix = (text : List ℕ) (zone zone' : Option ZoneTag) (tags tags' : List Tag) → IsSuffix text zone tags
    → IsSuffix text zone' tags' → (zone ≡ zone') × (tags ≡ tags')

-- each zone name that a suffix can have is valid as a name in the folder of zones
abbrev pub NamesInFolder : Type 0
NamesInFolder = (name : List ℕ) → IsTimeZoneName name → IsZoneName name

-- the first text is a part of the second
pub record IsSubstring (part bytes : List ℕ) : Type 0 where
  pub before : List ℕ
  pub after : List ℕ
  pub whole : bytes ≡ before ++ (part ++ after)

-- whether a timestamp of RFC 3339 may end with the byte: a digit, Z or z
abbrev pub is_time_end : ℕ → Bool
is_time_end b = is_ascii_digit b || b == 90 || b == 122

-- the text contains a zone's name in brackets, directly after a byte with which a timestamp may end
pub record IsNameIn (text name : List ℕ) : Type 0 where
  pub end : ℕ
  pub is_critical : Bool
  pub is_end : IsTrue (is_time_end end)
  pub is_name : IsTimeZoneName name
  pub stands : IsSubstring (end ∷ bracketed is_critical name) text

-- ---- Suffixes that were read, as contracts view them

-- the zone of a suffix that was read, as a `Zone` of this file
abbrev pub zone_of : ZoneText → Zone
zone_of (Name name) = named name.now
zone_of (Offset o) = at_offset o

-- the zone of a suffix that was read and its critical flag, as a `ZoneTag` of this file
abbrev pub zone_tag_of : declared.ZoneTag → ZoneTag
zone_tag_of z = record {
  is_critical = z.is_critical;
  zone = zone_of z.zone;
}

-- the text is a suffix with that zone, and with tags whose first critical key is that one
abbrev pub ParsesSuffix : List ℕ → Suffixed → Type 0
ParsesSuffix text s = (tags : List Tag) × IsSuffix text (option_map zone_tag_of s.zone) tags
    × (option_map (λ key. key.now) s.critical_key ≡ critical_key tags)

-- ---- Which suffixes agree with a moment, by RFC 9557, sections 3.3, 3.4 and 4.1.

-- success, or why a suffix doesn't agree with a moment
abbrev pub Checked : Type 0
Checked = Result (Unit {0}) SuffixFault

-- success if the moment's offset equals the zone's, both in seconds, and else OtherOffset
abbrev pub compared : ℤ → ℤ → Checked
compared own zone = if int_eq own zone then Ok tt else Err OtherOffset

-- the result of comparing a moment's offset with that of a zone at its instant, or OutsideZoneRange if the moment is
-- outside the range of zones; `zone` maps each instant to the zone's offset in seconds
abbrev pub HasItsOffset : OffsetDateTime → (ℤ → ℤ) → Checked → Type 0
HasItsOffset m zone result =
    ((¬ (IsInZoneRange m)) × (result ≡ Err OutsideZoneRange))
    ⊎ (IsInZoneRange m × (result ≡ compared (offset_seconds (offset_of m)) (zone (offset_instant greatest_year m))))

-- the result of checking a moment against a named zone: that of comparing offsets if `tells`, whether the moment's text
-- specified a local offset; and else success
abbrev pub AgreesWithNamed : Bool → OffsetDateTime → NamedZone → Checked → Type 0
AgreesWithNamed tells m zone result = MatchBool tells (HasItsOffset m (offset_in zone) result) (result ≡ Ok tt)

-- the result of checking a moment against the zone of a suffix: UnknownZone for a name without a zone, and else that of
-- comparing offsets if `tells`, whether the moment's text specified a local offset, or success if not
abbrev pub AgreesWithZone : Zones → Bool → OffsetDateTime → Zone → Checked → Type 0
AgreesWithZone zones tells m (named name) result =
    MatchOption (zone_named zones name) (result ≡ Err UnknownZone) (λ zone. AgreesWithNamed tells m zone result)
AgreesWithZone zones tells m (at_offset o) result =
    MatchBool tells (result ≡ compared (offset_seconds (offset_of m)) (offset_seconds o)) (result ≡ Ok tt)

-- The result of checking a moment against a suffix that has that zone and that critical key. No key is known here, so
-- each critical key is an error. With neither a critical key nor a zone it is success. Offsets are compared only if
-- `tells`, whether the moment's text specified a local offset.
abbrev pub AgreesWith : Zones → Bool → OffsetDateTime → Option ZoneTag → Option (List ℕ) → Checked → Type 0
AgreesWith zones tells m z (Some key) result = result ≡ Err CriticalKey
AgreesWith zones tells m None None result = result ≡ Ok tt
AgreesWith zones tells m (Some z) None result = AgreesWithZone zones tells m z.zone result

-- two results of checking a suffix against a moment, with equal arguments, are equal
abbrev pub OneCheck : Type 0
OneCheck =
    (zones : Zones) (tells : Bool) (m : OffsetDateTime) (zone : Option ZoneTag) (key : Option (List ℕ))
    (result other : Checked)
    → AgreesWith zones tells m zone key result → AgreesWith zones tells m zone key other → result ≡ other
