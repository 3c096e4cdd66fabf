-- No public contract rests on this file.
--
-- The offsets at which clocks of a zone show a date and time.
use Rattle.std.specs.Prelude.{◌≡◌, ◌⊎◌, ℤ, ◌-ℤ◌, ◌≤ℤ◌, Option, Some, None, ℕ, ◌-◌, ◌<◌, ◌<ℤ◌, List, length, get_or}
use Rattle.jiff_core.specs.Calendar.{IsBetween}
use Rattle.jiff_core.specs.Timestamp.{IsTimestampNanos, nanos_of_seconds}
use Rattle.jiff_tz.specs.PosixText.{TzText, DstText, tz_view}
use Rattle.jiff_tz.specs.Tzif.{tzif_view}
use Rattle.jiff_tz.specs.Zone as Zone
use Rattle.jiff_tz.specs.declared.ambiguous.AmbiguousOffset.{AmbiguousOffset}
use Rattle.jiff_tz.specs.declared.ambiguous.AmbiguousOffset.TheVariants.{Unambiguous, Gap, Fold}
use Rattle.jiff_tz.specs.declared.timezone.TimeZone.{TimeZone}
use Rattle.jiff_tz.specs.declared.timezone.TimeZone.TheVariants.{UTC, Unknown, Fixed, Posix, Tzif}
use Rattle.jiff_core.specs.declared.Offset.{Offset}
use Rattle.jiff_tz.specs.declared.posix.TimeZone.{TimeZone as PosixZone}
use Rattle.jiff_tz.specs.declared.tzif.transition.Transition.{Transition}
use Rattle.time_zones.specs.declared.spread.Spread.{Spread}

-- the instant at which a clock with an offset of s seconds shows the local time `reading`, in nanoseconds, is in the
-- range of zones, and the zone has the offset then
pub record HasOffset (zone : TimeZone) (reading s : ℤ) : Type 0 where
  pub told : IsTimestampNanos (reading -ℤ nanos_of_seconds s)
  pub same : Zone.offset_at zone (reading -ℤ nanos_of_seconds s) ≡ s

-- the greatest and the least are offsets at which the zone shows the local time `reading`, and the least isn't greater
pub record IsSpread (zone : TimeZone) (reading : ℤ) (w : Spread) : Type 0 where
  pub greatest : HasOffset zone reading w.greatest.seconds
  pub least : HasOffset zone reading w.least.seconds
  pub rising : w.least.seconds ≤ℤ w.greatest.seconds

-- the offset, in seconds, is from the least to the greatest of the spread, inclusive; false without a spread
abbrev pub Covers : Option Spread → ℤ → Type 0
Covers None s = ⊥
Covers (Some w) s = IsBetween w.least.seconds w.greatest.seconds s

-- s, in seconds, is the only offset if that is unambiguous, and otherwise either offset of the gap or the fold
abbrev pub IsSide : AmbiguousOffset → ℤ → Type 0
IsSide (Unambiguous offset) s = s ≡ offset.seconds
IsSide (Gap before after) s = (s ≡ before.seconds) ⊎ (s ≡ after.seconds)
IsSide (Fold before after) s = (s ≡ before.seconds) ⊎ (s ≡ after.seconds)

-- the POSIX rule of a zone, alone or after its table; none if there is none
abbrev pub rule_text : TimeZone → Option TzText
rule_text UTC = None
rule_text Unknown = None
rule_text (Fixed offset) = None
rule_text (Posix tz) = Some (tz_view tz)
rule_text (Tzif z) = (tzif_view z.now).rule

-- the offset is that of daylight saving time, in seconds; false without daylight saving time
abbrev pub IsOfDst : Option DstText → ℤ → Type 0
IsOfDst None s = ⊥
IsOfDst (Some dst) s = s ≡ dst.seconds

-- the offset is one of the rule, in standard time or in daylight saving time, in seconds; false without a rule
abbrev pub IsOfRule : Option TzText → ℤ → Type 0
IsOfRule None s = ⊥
IsOfRule (Some rule) s = (s ≡ rule.std_seconds) ⊎ IsOfDst rule.dst s

-- ---- The offset that a table has between two of its rows, or a rule at each moment

-- the seconds from begin to end are at or after a row and before the next one, and the earlier row sets the offset
pub record IsRowOffset (rows : List Transition) (begin end : ℤ) (o : Offset) : Type 0 where
  pub place : ℕ
  pub last : Transition
  pub next : Transition
  pub some : 0 < place
  pub within : place < length rows
  pub is_last : last ≡ get_or rows (place - 1) last
  pub is_next : next ≡ get_or rows place next
  pub begun : last.second ≤ℤ begin
  pub ended : end <ℤ next.second
  pub offset : o ≡ last.after.offset

-- the rule has no daylight saving time, and its standard offset is this one
abbrev pub HasOneOffset : PosixZone → Offset → Type 0
HasOneOffset rule o = (rule.dst ≡ None) × (o ≡ rule.std_offset)
