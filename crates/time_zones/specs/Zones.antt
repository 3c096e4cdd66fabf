-- The local times of time zones, in terms of the kit's definitions. The range of zones are the instants of
-- `IsTimestampNanos`, from -9999-01-02T01:59:59Z to 9999-12-30T22:00:00.999999999Z.
use Rattle.std.specs.Prelude.{◌≡◌, ◌⊎◌, ℤ, ◌+ℤ◌, ◌-ℤ◌, ◌<ℤ◌, None, Result, Ok, Err, ℕ, List, ◌++◌, Option, Some, codes, string_bytes}
use Rattle.jiff_core.specs.Calendar.{IsBetween}
use Rattle.jiff_core.specs.Timestamp.{IsTimestampNanos, IsOffsetSeconds, nanos_of_seconds}
use Rattle.jiff_tz.specs.Tzif.{tzif_view}
use Rattle.jiff_tz.specs.Zone as Zone
use Rattle.jiff_tz.specs.declared.timezone.TimeZone.{TimeZone}
use Rattle.jiff_tz.specs.declared.timezone.TimeZone.TheVariants.{UTC, Unknown, Fixed, Posix, Tzif}
use Rattle.time_values.specs.Moments.{plain_date, plain_time, plain_instant, offset_date, offset_time, offset_of, offset_instant}
use Rattle.time_values.specs.Offsets.{offset_seconds}
use Rattle.time_values.specs.Calendar.{greatest_year}
use Rattle.time_values.specs.declared.offset_date_time.OffsetDateTime.{OffsetDateTime}
use Rattle.time_values.specs.declared.plain_date_time.PlainDateTime.{PlainDateTime}
use Rattle.time_zones.specs.declared.clocks.NotOne.{NotOne}
use Rattle.time_zones.specs.declared.clocks.NotOne.TheVariants.{Gap, Fold, OutsideZoneRange}
use Rattle.time_zones.specs.declared.checking.SuffixFault.{SuffixFault}
use Rattle.time_zones.specs.declared.checking.SuffixFault.TheVariants as Suffix
use Rattle.time_zones.specs.declared.zone_fault.ZoneFault.{ZoneFault}
use Rattle.time_zones.specs.declared.zone_fault.ZoneFault.TheVariants as Fault

-- the moment is in the range of zones
abbrev pub IsInZoneRange : OffsetDateTime → Type 0
IsInZoneRange m = IsTimestampNanos (offset_instant greatest_year m)

-- the moment's offset equals, in seconds, the offset of the zone at that instant
abbrev pub HasZoneOffset : TimeZone → OffsetDateTime → Type 0
HasZoneOffset zone m = offset_seconds (offset_of m) ≡ Zone.offset_at zone (offset_instant greatest_year m)

-- at the instant n, in the range of zones, clocks of the zone show the local time `reading`; both are in nanoseconds
abbrev pub Shows : TimeZone → ℤ → ℤ → Type 0
Shows zone reading n = IsTimestampNanos n × (n +ℤ nanos_of_seconds (Zone.offset_at zone n) ≡ reading)

-- a moment with that date and time, at an offset of s seconds
pub record HasClock (clock : PlainDateTime) (s : ℤ) (m : OffsetDateTime) : Type 0 where
  pub date : offset_date m ≡ plain_date clock
  pub time : offset_time m ≡ plain_time clock
  pub offset : offset_seconds (offset_of m) ≡ s
  pub instant : offset_instant greatest_year m ≡ plain_instant greatest_year clock -ℤ nanos_of_seconds s

-- the moment has the date and time, is in the range of zones, and has the zone's offset then
abbrev pub HasLocalTime : TimeZone → PlainDateTime → OffsetDateTime → Type 0
HasLocalTime zone clock m =
    (offset_date m ≡ plain_date clock) × (offset_time m ≡ plain_time clock) × HasZoneOffset zone m × IsInZoneRange m

-- P is true of each instant in the range of zones at which clocks of the zone show the date and time
abbrev pub AtEach : TimeZone → PlainDateTime → (ℤ → Type 0) → Type 0
AtEach zone clock P = (n : ℤ) → Shows zone (plain_instant greatest_year clock) n → P n

-- the date and time, read at each offset from -25:59:59 to +25:59:59, is in the range of zones
abbrev pub IsInZoneRangeAtEachOffset : PlainDateTime → Type 0
IsInZoneRangeAtEachOffset clock =
    (s : ℤ) → IsOffsetSeconds s → IsTimestampNanos (plain_instant greatest_year clock -ℤ nanos_of_seconds s)

-- the moment is the only one in the range of zones at which clocks of the zone show the date and time
abbrev pub IsOnlyMoment : TimeZone → PlainDateTime → OffsetDateTime → Type 0
IsOnlyMoment zone clock m = HasLocalTime zone clock m × AtEach zone clock (λ n. n ≡ offset_instant greatest_year m)

-- clocks of the zone never show the date and time in the range of zones
abbrev pub IsNonexistent : TimeZone → PlainDateTime → Type 0
IsNonexistent zone clock = AtEach zone clock (λ n. ⊥)

-- two different moments: the first and last in the range of zones at which clocks of the zone show the date and time
abbrev pub AreFirstAndLast : TimeZone → PlainDateTime → OffsetDateTime → OffsetDateTime → Type 0
AreFirstAndLast zone clock first last =
    HasLocalTime zone clock first × HasLocalTime zone clock last
    × (offset_instant greatest_year first <ℤ offset_instant greatest_year last)
    × AtEach zone clock (IsBetween (offset_instant greatest_year first) (offset_instant greatest_year last))

-- Why a date and time isn't one moment of the zone in the range of zones. For `Fold` its first and last moment differ.
-- Else it has none there. For `Gap` it is in that range at each offset; for `OutsideZoneRange` at some offset it isn't.
abbrev pub IsNotOne : TimeZone → PlainDateTime → NotOne → Type 0
IsNotOne zone clock Gap = IsNonexistent zone clock × IsInZoneRangeAtEachOffset clock
IsNotOne zone clock (Fold earlier later) = AreFirstAndLast zone clock earlier later
IsNotOne zone clock OutsideZoneRange = IsNonexistent zone clock × (¬ (IsInZoneRangeAtEachOffset clock))

-- the zone is anything but a table with a rule after it
abbrev pub HasOneSource : TimeZone → Type 0
HasOneSource UTC = Unit {0}
HasOneSource Unknown = Unit {0}
HasOneSource (Fixed offset) = Unit {0}
HasOneSource (Posix rule) = Unit {0}
HasOneSource (Tzif table) = (tzif_view table.now).rule ≡ None

-- no moment in the range of zones but the two of the fold has the date and time in the zone; true of the other errors
abbrev pub HasNoThird : TimeZone → PlainDateTime → NotOne → Type 0
HasNoThird zone clock Gap = Unit {0}
HasNoThird zone clock (Fold earlier later) =
    AtEach zone clock (λ n. (n ≡ offset_instant greatest_year earlier) ⊎ (n ≡ offset_instant greatest_year later))
HasNoThird zone clock OutsideZoneRange = Unit {0}

-- the result is the only moment of the date and time in the zone, or why there isn't exactly one
abbrev pub IsAnswer : TimeZone → PlainDateTime → Result OffsetDateTime NotOne → Type 0
IsAnswer zone clock (Ok m) = IsOnlyMoment zone clock m
IsAnswer zone clock (Err why) = IsNotOne zone clock why

-- the result is a moment at m's instant, or a fold in which that instant is from the first to the last, inclusive
abbrev pub RoundTrips : OffsetDateTime → Result OffsetDateTime NotOne → Type 0
RoundTrips m (Ok back) = offset_instant greatest_year back ≡ offset_instant greatest_year m
RoundTrips m (Err Gap) = ⊥
RoundTrips m (Err (Fold earlier later)) =
    IsBetween (offset_instant greatest_year earlier) (offset_instant greatest_year later)
    (offset_instant greatest_year m)
RoundTrips m (Err OutsideZoneRange) = ⊥

-- ---- Printed messages of errors

-- the message for a date and time that isn't one moment
abbrev pub not_one_text : NotOne → List ℕ
not_one_text Gap = codes "clocks of the time zone leave out this date and time"
not_one_text (Fold earlier later) = codes "clocks of the time zone show this date and time more than once"
not_one_text OutsideZoneRange = codes "the date and time are outside the range of time zones"

-- the message for a suffix that doesn't agree with its moment
abbrev pub suffix_fault_text : SuffixFault → List ℕ
suffix_fault_text Suffix.CriticalKey = codes "a key of its suffix is critical, and not known"
suffix_fault_text Suffix.UnknownZone = codes "there is no time zone of the name in its suffix"
suffix_fault_text Suffix.OtherOffset = codes "the time zone in its suffix has another offset then"
suffix_fault_text Suffix.OutsideZoneRange = codes "the time is outside the range of time zones"

-- the message for a zone that wasn't found; none if it isn't specified, since it contains a message of a library
abbrev pub fault_text : ZoneFault → Option (List ℕ)
fault_text Fault.NotAName = Some (codes "a part of the name of a time zone is empty, `.` or `..`")
fault_text Fault.NotText = Some (codes "the variable `TZ` or `TZDIR` is not UTF-8")
fault_text (Fault.Unknown path) = Some (codes "there is no time zone file " ++ string_bytes path)
fault_text Fault.Folder = Some (codes "the name is that of a folder of time zones")
fault_text (Fault.Unreadable kind) = None
fault_text (Fault.Malformed fault) = None
fault_text Fault.OutOfMemory = Some (codes "out of memory")
