-- The suffix that RFC 9557, section 4.1, adds to RFC 3339.
use Rattle.time_values.specs.Calendar.{greatest_year}
use Rattle.std.specs.Prelude.{◌≡◌, ◌+◌, ◌≤◌, ◌&&◌, ◌||◌}
use Rattle.std.specs.List.{ends_with}
use Rattle.time_zones.specs.{Zones.IsAnswer, declared.clocks.NotOne.NotOne}
use Rattle.jiff_tz.specs.Zone as Zone
use Rattle.restamp_formats.specs.Common.{ℕ, nat_eq, nat_lt, Bool, not, MatchBool, List, length, take, drop, codes, Option, Result, Ok, Err, Some, MatchOption, IsTimestampNanos, TimeZone, trailing, local_time_at, offset_instant, offset_of, offset_date, offset_time, IsInstant, offset_seconds, OffsetDateTime, UtcOffset, PlainDateTime, Checked, AgreesWith, IsLongest, IsSuffix, Tag, ZoneTag, critical_key, Zones, Match, Clock, Clocks, TwoOffsets}
use Rattle.restamp_formats.specs.Reason.{Reason, suffix, unread, out_of_range, outside_zone_range, nonexistent, ambiguous_offsets, parts_of}
use Rattle.restamp_formats.specs.declared.local.Fold.{Fold}

-- a suffix: its length in bytes, its zone if it has one, and its tags
pub record Suffix : Type 0 where
  pub len : ℕ
  pub zone : Option ZoneTag
  pub tags : List Tag

-- the longest suffix at the start of some bytes, which may be empty
pub record IsLongestSuffix (bytes : List ℕ) (s : Suffix) : Type 0 where
  pub within : s.len ≤ length bytes
  pub is_suffix : IsSuffix (take s.len bytes) s.zone s.tags
  pub longest : IsLongest bytes s.len

-- A text of RFC 3339 has a local offset. Z, z and -00:00 leave the local offset unknown: the result is false.
abbrev pub has_local_offset : List ℕ → Bool
has_local_offset front =
    not (ends_with nat_eq front (codes "Z") || ends_with nat_eq front (codes "z")
    || ends_with nat_eq front (codes "-00:00"))

-- a match that starts at byte 0, extended by that many bytes of a suffix
abbrev pub extended : Match → ℕ → Match
extended front len = record { moment = front.moment; start = 0; length = front.length + len }

-- a match, or the error of its suffix as the reason `suffix`
abbrev pub checked : Match → Checked → Result Match Reason
checked said (Ok u) = Ok said
checked said (Err fault) = Err (suffix fault)

-- the match of a prefix, extended by the suffix after it; or the error, if the suffix doesn't agree with the moment
abbrev pub IsChecked : Zones → List ℕ → Match → Suffix → Result Match Reason → Type 0
IsChecked zones text front s result =
    (answer : Checked)
    × AgreesWith zones (has_local_offset (take front.length text)) front.moment s.zone (critical_key s.tags) answer
    × (result ≡ checked (extended front s.len) answer)

-- the text has bytes from index `end` on that aren't allowed; false if `is_prefix` is true
abbrev pub has_tail : Bool → List ℕ → ℕ → Bool
has_tail is_prefix text end = not is_prefix && nat_lt end (length text)

-- The match of a prefix, extended by the longest suffix after it, which may be empty; or an error, if that suffix
-- doesn't agree with the moment. Unless `is_prefix` is true, further bytes are an error.
abbrev pub IsSuffixed : Zones → Bool → List ℕ → Match → Result Match Reason → Type 0
IsSuffixed zones is_prefix text front result =
    (s : Suffix) × IsLongestSuffix (drop front.length text) s
    × MatchBool (has_tail is_prefix text (front.length + s.len)) (result ≡ Err (unread trailing))
    (IsChecked zones text front s result)

-- ---- The clock that a moment is converted to.

-- The moment at the offset; `None` if its year there is outside -999999 to 999999.
abbrev pub IsConvertedTo : UtcOffset → OffsetDateTime → Option OffsetDateTime → Type 0
IsConvertedTo offset v result =
    MatchOption result (¬ IsInstant greatest_year (local_time_at (offset_instant greatest_year v) offset))
    (λ w. (offset_instant greatest_year w ≡ offset_instant greatest_year v) × (offset_of w ≡ offset))

-- The moment at the offset that a zone has then; `None` if it is before -9999-01-02T01:59:59Z or after
-- 9999-12-30T22:00:00.999999999Z.
abbrev pub IsConvertedIn : TimeZone → OffsetDateTime → Option OffsetDateTime → Type 0
IsConvertedIn zone v result =
    MatchOption result (¬ IsTimestampNanos (offset_instant greatest_year v))
    (λ w. (offset_instant greatest_year w ≡ offset_instant greatest_year v)
    × IsTimestampNanos (offset_instant greatest_year v)
    × (offset_seconds (offset_of w) ≡ Zone.offset_at zone (offset_instant greatest_year v)))

-- The moment converted to a clock; `None` if it can't be. `Own` leaves it unchanged.
abbrev pub IsConverted : Clock → OffsetDateTime → Option OffsetDateTime → Type 0
IsConverted Clock.Own v result = result ≡ Some v
IsConverted (Clock.Fixed offset) v result = IsConvertedTo offset v result
IsConverted (Clock.Zone zone) v result = IsConvertedIn zone v result

-- why a moment can't be converted to the clock: `outside_zone_range` for a zone, otherwise `out_of_range`
abbrev pub conversion_error : Clock → Reason
conversion_error (Clock.Zone zone) = outside_zone_range
conversion_error clock = out_of_range

-- ---- The moment that a zone has for a local date and time

-- the local date and time of a moment at its own offset
abbrev pub clock_of : OffsetDateTime → PlainDateTime
clock_of v = record { date = offset_date v; time = offset_time v }

-- the offsets of two moments, each as whether it is behind UTC and its size in seconds
abbrev pub offsets : OffsetDateTime → OffsetDateTime → TwoOffsets
offsets earlier later = record {
  earlier = parts_of (offset_seconds (offset_of earlier));
  later = parts_of (offset_seconds (offset_of later));
}

-- the moment that an ambiguous local time means; for `Refuse` the reason `ambiguous_offsets`
abbrev pub of_two : Fold → OffsetDateTime → OffsetDateTime → Result OffsetDateTime Reason
of_two Fold.Refuse earlier later = Err (ambiguous_offsets (offsets earlier later))
of_two Fold.Earlier earlier later = Ok earlier
of_two Fold.Later earlier later = Ok later

-- the only moment that a zone has for a local time, or the one that `fold` chooses; or the reason why there is none
abbrev pub moment_by : Fold → Result OffsetDateTime NotOne → Result OffsetDateTime Reason
moment_by fold (Ok m) = Ok m
moment_by fold (Err NotOne.Gap) = Err nonexistent
moment_by fold (Err (NotOne.Fold earlier later)) = of_two fold earlier later
moment_by fold (Err NotOne.OutsideZoneRange) = Err outside_zone_range

-- The moment that has, in the zone, the local date and time of a moment, chosen by `fold` if that is ambiguous; or the
-- reason `nonexistent`, `ambiguous_offsets` or `outside_zone_range`.
abbrev pub IsMomentWhen : Clocks → OffsetDateTime → Result OffsetDateTime Reason → Type 0
IsMomentWhen clocks v result =
    (answer : Result OffsetDateTime NotOne) × IsAnswer clocks.zone (clock_of v) answer
    × (result ≡ moment_by clocks.fold answer)
