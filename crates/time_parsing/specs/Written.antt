-- Written texts of RFC 3339, RFC 2822 and ISO 8601, which are parsed back.
use Rattle.std.specs.Prelude.{◌≡◌, ℕ, ◌-◌, ◌*◌, ◌/◌, ◌^◌, ◌<◌, List, None, Ok, pos, neg_ℤ, ◌++◌, codes, Some, ◌≢◌}
use Rattle.time_values.specs.Moments.{offset_date, offset_time, offset_of, offset_instant, utc_date, utc_instant}
use Rattle.time_values.specs.Times as Times
use Rattle.time_values.specs.declared.offset_date_time.OffsetDateTime.{OffsetDateTime}
use Rattle.time_values.specs.Calendar.{IsBetween}
use Rattle.time_values.specs.Dates as Dates
use Rattle.time_values.specs.Dates.{IsDateWithin}
use Rattle.time_values.specs.Offsets as Offsets
use Rattle.time_values.specs.DisplayTexts.{fixed}
use Rattle.time_values.specs.declared.utc_date_time.UtcDateTime.{UtcDateTime}
use Rattle.time_formatting.specs.WellKnown.{count_of, moment_text, unwritable_3339, unwritable_2822, IsMailText, date_text, clock_text, numeric_text, basic_text}
use Rattle.time_formatting.specs.declared.parts.FractionDigits.{FractionDigits}
use Rattle.time_formatting.specs.declared.parts.FractionDigits.TheVariants.{Auto}
use Rattle.time_record.specs.Record.{empty}
use Rattle.time_record.specs.Resolution.{IsMoment, IsUtcMoment}
use Rattle.time_parsing.specs.Outcome.{IsOutcome, IsMomentOutcome, Path, Reading, Refusing}

-- n nanoseconds with zeros for all but the first k of their nine digits: 0 for k = 0, and n for k = 9 or more
abbrev pub kept : ℕ → ℕ → ℕ
kept k n = n / 10 ^ (9 - k) * 10 ^ (9 - k)

-- `w` is the moment `v` with the first k digits of its nine-digit fraction, and zeros for the others
pub record IsCut (k : ℕ) (v w : OffsetDateTime) : Type 0 where
  pub date : offset_date w ≡ offset_date v
  pub clock : Times.HasSecond (offset_time v) (kept k (Times.nanosecond (offset_time v))) (offset_time w)
  pub offset : offset_of w ≡ offset_of v

-- how many digits of a moment's fraction are written by this choice of digits
abbrev pub written : FractionDigits → OffsetDateTime → ℕ
written digits v = count_of digits (Times.nanosecond (offset_time v))

-- For each moment that has a text of RFC 3339, and each choice of digits, the text parses back as that moment with
-- zeros for the digits that aren't written: on the format's path without defaults, and also over an empty record.
abbrev pub ReadsBack : ℕ → Path → Reading → Refusing → Type 0
ReadsBack Y path reads refuses =
    (digits : FractionDigits) (v w : OffsetDateTime)
    → unwritable_3339 v ≡ None → IsCut (written digits v) v w
    → IsMomentOutcome Y path reads refuses (moment_text (written digits v) v) None (Ok w)
    × IsOutcome (IsMoment Y) reads refuses (moment_text (written digits v) v) empty (Ok w)

-- For each fraction in nanoseconds, the digits that this choice doesn't write are zeros.
abbrev pub KeepsAll : FractionDigits → Type 0
KeepsAll digits = (n : ℕ) → n < 1_000_000_000 → kept (count_of digits n) n ≡ n

-- Moments with equal texts of RFC 3339, by any two choices of digits, are equal except for the digits that aren't
-- written.
abbrev pub OneText : Type 0
OneText =
    (digits others : FractionDigits) (v w a b : OffsetDateTime)
    → unwritable_3339 v ≡ None → IsCut (written digits v) v a
    → unwritable_3339 w ≡ None → IsCut (written others w) w b
    → moment_text (written digits v) v ≡ moment_text (written others w) w → a ≡ b

-- Moments with equal texts of RFC 3339 are equal, if as many digits are written as the fraction of each has.
abbrev pub OneShortText : Type 0
OneShortText =
    (v w : OffsetDateTime)
    → unwritable_3339 v ≡ None → unwritable_3339 w ≡ None
    → moment_text (written Auto v) v ≡ moment_text (written Auto w) w → v ≡ w

-- For each moment that has a text of RFC 2822, the text parses back as the moment with a fraction of 0: on the format's
-- path without defaults, and also over an empty record.
abbrev pub ReadsMailBack : ℕ → Path → Reading → Refusing → Type 0
ReadsMailBack Y path reads refuses =
    (v w : OffsetDateTime) (bytes : List ℕ)
    → unwritable_2822 v ≡ None → IsCut 0 v w → IsMailText v bytes
    → IsMomentOutcome Y path reads refuses bytes None (Ok w)
    × IsOutcome (IsMoment Y) reads refuses bytes empty (Ok w)

-- ---- The canonical text of a moment by RFC 3339, section 5.6: with nine digits of a fraction, and with an offset in
-- UTC too.

-- `YYYY-MM-DDTHH:MM:SS.nnnnnnnnn+HH:MM`, with `-` for an offset behind UTC
abbrev pub canonical_text : OffsetDateTime → List ℕ
canonical_text v =
    date_text (offset_date v) ++ codes "T" ++ clock_text (offset_time v)
    ++ codes "." ++ fixed 9 (Times.nanosecond (offset_time v)) ++ numeric_text (offset_of v)

-- The moment has a canonical text: its year is 0 to 9999, and its offset is whole minutes, -23:59 to +23:59.
pub record HasCanonicalText (v : OffsetDateTime) : Type 0 where
  pub year : IsBetween (pos 0) (pos 9999) (Dates.year (offset_date v))
  pub hours : IsBetween (neg_ℤ (pos 23)) (pos 23) (Offsets.hours (offset_of v))
  pub whole_minutes : Offsets.seconds (offset_of v) ≡ pos 0

-- For each moment that has a canonical text, the text parses back as that moment, without defaults, and with an empty
-- record as defaults.
abbrev pub ReadsCanonicalBack : ℕ → Path → Reading → Refusing → Type 0
ReadsCanonicalBack Y path reads refuses =
    (v : OffsetDateTime) → HasCanonicalText v
    → IsMomentOutcome Y path reads refuses (canonical_text v) None (Ok v)
    × IsMomentOutcome Y path reads refuses (canonical_text v) (Some empty) (Ok v)

-- ---- Written texts of ISO 8601, which are parsed back

-- For each moment that has a basic text of ISO 8601, the text parses back as the moment with a fraction of 0: on the
-- format's path without defaults, and also over an empty record.
abbrev pub ReadsBasicBack : ℕ → Path → Reading → Refusing → Type 0
ReadsBasicBack Y path reads refuses =
    (v w : OffsetDateTime)
    → unwritable_3339 v ≡ None → IsCut 0 v w
    → IsMomentOutcome Y path reads refuses (basic_text v) None (Ok w)
    × IsOutcome (IsMoment Y) reads refuses (basic_text v) empty (Ok w)

-- ---- Written texts of moments, which are parsed as dates and times in UTC

-- `u` is `v` in UTC with the first k of nine digits of its fraction, then zeros; its date is in the years -Y to Y
abbrev pub IsUtcCut : ℕ → ℕ → OffsetDateTime → UtcDateTime → Type 0
IsUtcCut Y k v u =
    (w : OffsetDateTime) × IsCut k v w × (utc_instant Y u ≡ offset_instant Y w) × IsDateWithin Y (utc_date u)

-- For each moment that has a text of RFC 3339 and, in UTC, a date in the range of years, and for each choice of digits,
-- the text parses as its date and time in UTC, with zeros for the digits that aren't written.
abbrev pub ReadsUtcBack : ℕ → Reading → Refusing → Type 0
ReadsUtcBack Y reads refuses =
    (digits : FractionDigits) (v : OffsetDateTime) (u : UtcDateTime)
    → unwritable_3339 v ≡ None → IsUtcCut Y (written digits v) v u
    → IsOutcome (IsUtcMoment Y) reads refuses (moment_text (written digits v) v) empty (Ok u)

-- A moment's basic text of ISO 8601, if any, parses as its UTC date and time, if in range, with a fraction of 0.
abbrev pub ReadsBasicUtcBack : ℕ → Reading → Refusing → Type 0
ReadsBasicUtcBack Y reads refuses =
    (v : OffsetDateTime) (u : UtcDateTime)
    → unwritable_3339 v ≡ None → IsUtcCut Y 0 v u
    → IsOutcome (IsUtcMoment Y) reads refuses (basic_text v) empty (Ok u)

-- A moment's text of RFC 2822, if any, parses as its UTC date and time, if in range, with a fraction of 0.
abbrev pub ReadsMailUtcBack : ℕ → Reading → Refusing → Type 0
ReadsMailUtcBack Y reads refuses =
    (v : OffsetDateTime) (u : UtcDateTime) (bytes : List ℕ)
    → unwritable_2822 v ≡ None → IsUtcCut Y 0 v u → IsMailText v bytes
    → IsOutcome (IsUtcMoment Y) reads refuses bytes empty (Ok u)

-- ---- Which moments have equal texts of RFC 2822, or of ISO 8601

-- moments with equal texts of RFC 2822 are equal, except for their fractions
abbrev pub OneMailText : Type 0
OneMailText =
    (v w a b : OffsetDateTime) (bytes : List ℕ)
    → unwritable_2822 v ≡ None → IsCut 0 v a → IsMailText v bytes
    → unwritable_2822 w ≡ None → IsCut 0 w b → IsMailText w bytes → a ≡ b

-- moments with equal extended texts of ISO 8601, each with nine digits of a fraction, are equal
abbrev pub OneExtendedText : Type 0
OneExtendedText =
    (v w : OffsetDateTime)
    → unwritable_3339 v ≡ None → unwritable_3339 w ≡ None → moment_text 9 v ≡ moment_text 9 w → v ≡ w

-- moments with equal basic texts of ISO 8601 are equal, except for their fractions
abbrev pub OneBasicText : Type 0
OneBasicText =
    (v w a b : OffsetDateTime)
    → unwritable_3339 v ≡ None → IsCut 0 v a → unwritable_3339 w ≡ None → IsCut 0 w b
    → basic_text v ≡ basic_text w → a ≡ b

-- No extended text of a moment by ISO 8601, with nine digits of a fraction, is the basic text of any moment.
abbrev pub ExtendedOrBasic : Type 0
ExtendedOrBasic = (v w : OffsetDateTime) → moment_text 9 v ≢ basic_text w
