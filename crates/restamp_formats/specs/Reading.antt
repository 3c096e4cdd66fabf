-- What a timestamp parses as by a format, or the error.
use Rattle.time_values.specs.Calendar.{greatest_year}
use Rattle.std.specs.Prelude.{◌≡◌, ◌-◌, ◌+ℤ◌, ◌-ℤ◌, ◌&&◌, ◌||◌, ◌==◌, ◌∷◌, if◌then◌else◌}
use Rattle.std.specs.{Char.is_ascii_whitespace, List.list_any, List.prefix_len, List.suffix_len}
use Rattle.time_parsing.specs.Outcome.{Resolving, IsMomentOutcome}
use Rattle.time_values.specs.Dates as Dates
use Rattle.time_values.specs.Offsets as Offsets
use Rattle.time_record.specs.Reading as Description
use Rattle.time_parsing.specs.Outcome as Outcome
use Rattle.time_parsing.specs.Iso8601 as Iso8601
use Rattle.time_parsing.specs.Rfc2822 as Rfc2822
use Rattle.time_parsing.specs.Rfc3339Strict as Rfc3339
use Rattle.restamp_formats.specs.declared.dated.Undated as declared
use Rattle.restamp_formats.specs.Common.{ℕ, zero, suc, ℤ, pos, int_lt, Bool, true, false, not, MatchBool, List, [], length, take, drop, slice_index, Option, None, Some, MatchOption, is_some, unwrap_or, Result, Ok, Err, MatchResult, offset_date, offset_instant, offset_of, IsUtc, Refusal, refusal_of, Parse, OffsetDateTime, UtcOffset, RefusesRfc2822, Record, empty, put, year_is, IsMoment, Refusing, Path, over_record, direct, IsFront, IsOutcome, steps_shape, Zones, Clocks, Reading, Match, Defaults}
use Rattle.restamp_formats.specs.{Zoned.IsMomentWhen, Zoned.IsSuffixed, Reason.Reason, Reason.unread, Reason.negative_fraction, Reason.is_local_time_error}

-- a match of the first n bytes of a text, which mean the moment
abbrev pub said : OffsetDateTime → ℕ → Match
said v n = record { moment = v; start = 0; length = n }

-- a result, its error without the addresses of its texts
abbrev pub erased_match : Result Match Parse → Result Match Refusal
erased_match (Ok s) = Ok s
erased_match (Err e) = Err (refusal_of e)

-- the match of a whole text, from the moment that its parse returns; or the error of the parse
abbrev pub all_of : List ℕ → Result OffsetDateTime Refusal → Result Match Refusal
all_of text (Ok v) = Ok (said v (length text))
all_of text (Err e) = Err e

-- the match of a prefix of a text, from the moment and the rest of the bytes that its parse returns; or the error of
-- the parse
abbrev pub front_of : List ℕ → Result (OffsetDateTime × List ℕ) Refusal → Result Match Refusal
front_of text (Ok x) = Ok (said x.0 (length text - length x.1))
front_of text (Err e) = Err e

-- the match of a text by a format with these relations, without defaults, or its error: of a prefix if the `Bool` is
-- true, otherwise of the whole text, parsed on the given path: over a record, or directly
abbrev pub IsReadBy : Bool → Path → Outcome.Reading → Refusing → List ℕ → Result Match Refusal → Type 0
IsReadBy true path reads refuses text result =
    (outcome : Result (OffsetDateTime × List ℕ) Refusal)
    × IsFront (IsMoment greatest_year) reads refuses text empty outcome × (result ≡ front_of text outcome)
IsReadBy false path reads refuses text result =
    (outcome : Result OffsetDateTime Refusal)
    × IsMomentOutcome greatest_year path reads refuses text None outcome × (result ≡ all_of text outcome)

-- the record has a part of a year: a calendar year or an ISO 8601 week year, its century or its last two digits
abbrev pub has_year : Record → Bool
has_year r =
    is_some r.year || is_some r.year_century || is_some r.year_last_two
    || is_some r.iso_year || is_some r.iso_year_century || is_some r.iso_year_last_two

-- The record with that year. It is unchanged without a year, if it has a part of one, or if the year is outside -999999
-- to 999999.
abbrev pub with_year : Option ℤ → Record → Record
with_year None r = r
with_year (Some year) r = if has_year r then r else unwrap_or (put greatest_year (year_is year) r) r

-- the record with the hour, minute and second of that offset, each with its sign; unchanged without an offset, or if
-- it has the hour of one
abbrev pub with_offset : Option UtcOffset → Record → Record
with_offset None r = r
with_offset (Some o) r =
    if is_some r.offset_hour then r else record r {
      offset_hour = Some (Offsets.hours o);
      offset_minute = Some (Offsets.minutes o);
      offset_second = Some (Offsets.seconds o);
      offset_is_negative = false;
    }

-- a record with the default year and offset for what it omits; the other two defaults have no effect
abbrev pub completed : Defaults → Record → Record
completed defaults r = with_offset defaults.offset (with_year defaults.year r)

-- The moment of a record that is completed by the default year and offset, or the error of that record.
abbrev pub IsCompleted : Defaults → Resolving OffsetDateTime
IsCompleted defaults r = IsMoment greatest_year (completed defaults r)

-- the match of a text by a format with these relations, with the default year and offset, or its error: of a prefix if
-- the `Bool` is true, otherwise of the whole text
abbrev pub IsReadWith : Bool → Outcome.Reading → Refusing → List ℕ → Defaults → Result Match Refusal → Type 0
IsReadWith true reads refuses text defaults result =
    (outcome : Result (OffsetDateTime × List ℕ) Refusal)
    × IsFront (IsCompleted defaults) reads refuses text empty outcome × (result ≡ front_of text outcome)
IsReadWith false reads refuses text defaults result =
    (outcome : Result OffsetDateTime Refusal)
    × IsOutcome (IsCompleted defaults) reads refuses text empty outcome × (result ≡ all_of text outcome)

-- how many bytes of a text come before the ASCII white space at its end
abbrev pub before_blanks : List ℕ → ℕ
before_blanks text = length text - suffix_len is_ascii_whitespace text

-- the match of all bytes of a text but the ASCII white space at both ends, which mean the moment
abbrev pub bare_match : OffsetDateTime → List ℕ → Match
bare_match v text = record {
  moment = v;
  start = prefix_len is_ascii_whitespace text;
  length = before_blanks (drop (prefix_len is_ascii_whitespace text) text);
}

-- a match that starts at byte 0, without the ASCII white space at both ends of its bytes
abbrev pub bare : List ℕ → Match → Match
bare text s = bare_match s.moment (take s.length text)

-- a result, its match without the ASCII white space at both ends if the `Bool` is true; otherwise unchanged
abbrev pub bare_where : Bool → List ℕ → Result Match Refusal → Result Match Refusal
bare_where true text (Ok s) = Ok (bare text s)
bare_where true text (Err e) = Err e
bare_where false text result = result

-- The match of a mail date, RFC 2822, with optional white space and comments around it, or its error. Only the match of
-- a prefix (the `Bool` is true) excludes the white space.
abbrev pub IsReadMail : Bool → List ℕ → Result Match Refusal → Type 0
IsReadMail is_prefix text result =
    (padded : Result Match Refusal)
    × IsReadBy is_prefix (direct (RefusesRfc2822 greatest_year)) (Rfc2822.Reads greatest_year)
    (Rfc2822.Refuses greatest_year) text padded
    × (result ≡ bare_where is_prefix text padded)

-- the match of a text by RFC 3339, with `T`, `t` or a space between the date and the time, or its error: of a prefix if
-- the `Bool` is true, otherwise of the whole text
abbrev pub IsRead3339 : Bool → List ℕ → Result Match Refusal → Type 0
IsRead3339 is_prefix = IsReadBy is_prefix (direct (Rfc3339.RefusesDirectly greatest_year))
    (Rfc3339.Reads greatest_year) (Rfc3339.Refuses greatest_year)

-- the match of a prefix of a text by RFC 3339, or its error
abbrev pub IsReadInFront : List ℕ → Result Match Refusal → Type 0
IsReadInFront = IsRead3339 true

-- The match of a text, or of a prefix of it if the `Bool` is true, by a format, or its error; for RFC 9557, always of
-- the prefix before the suffix. Only ISO 8601, `Described` and `Counted` use the defaults.
abbrev pub IsRead : Reading → Bool → List ℕ → Defaults → Result Match Refusal → Type 0
IsRead Reading.Rfc3339 is_prefix text defaults = IsRead3339 is_prefix text
IsRead (Reading.Zoned zones) is_prefix text defaults = IsReadInFront text
IsRead Reading.Rfc2822 is_prefix text defaults = IsReadMail is_prefix text
IsRead Reading.Iso8601 is_prefix text defaults =
    IsReadWith is_prefix (Iso8601.Reads greatest_year) (Iso8601.Refuses greatest_year) text defaults
IsRead (Reading.Described d) is_prefix text defaults =
    IsReadWith is_prefix (Description.Reads greatest_year (steps_shape d))
    (Description.Refuses greatest_year (steps_shape d)) text defaults
IsRead (Reading.Complete d) is_prefix text defaults =
    IsReadBy is_prefix over_record (Description.Reads greatest_year (steps_shape d))
    (Description.Refuses greatest_year (steps_shape d)) text
IsRead (Reading.Counted d) is_prefix text defaults =
    IsReadWith is_prefix (Description.Reads greatest_year (steps_shape d))
    (Description.Refuses greatest_year (steps_shape d)) text defaults

-- A prefix of a text parses over a record by ISO 8601 or `Described`, with that rest and that new record; never by
-- another format.
abbrev pub ReadsRecord : Reading → Outcome.Reading
ReadsRecord Reading.Iso8601 text base rest r = Iso8601.Reads greatest_year text base rest r
ReadsRecord (Reading.Described d) text base rest r = Description.Reads greatest_year (steps_shape d) text base rest r
ReadsRecord format text base rest r = ⊥

-- the zones that the suffix of RFC 9557 may name; `None` for another format
abbrev pub zones_of : Reading → Option Zones
zones_of (Reading.Zoned zones) = Some zones
zones_of format = None

-- whether the format rejects a fraction after a minus: only `Counted` does
abbrev pub is_counted : Reading → Bool
is_counted (Reading.Counted d) = true
is_counted format = false

-- the text starts with `-` and contains a `.`
abbrev pub is_negative_fraction : List ℕ → Bool
is_negative_fraction number = slice_index number 0 == 45 && list_any (λ x. x == 46) number

-- a match; or the reason `negative_fraction`, if the format is `Counted` and the match starts with `-` and has a `.`
abbrev pub guarded : Reading → List ℕ → Match → Result Match Reason
guarded format text s =
    if is_counted format && is_negative_fraction (take s.length text) then Err negative_fraction else Ok s

-- the match; for `Counted` an error if it has a `-` first and a `.`; for RFC 9557 extended by the suffix, or an error
abbrev pub IsGuarded : Reading → Bool → List ℕ → Match → Result Match Reason → Type 0
IsGuarded format is_prefix text s result =
    MatchOption (zones_of format) (result ≡ guarded format text s) (λ zones. IsSuffixed zones is_prefix text s result)

-- the match of a text by RFC 3339 and the longest suffix after it, or an error: of a prefix if the `Bool` is true,
-- otherwise of the whole text
abbrev pub ParsesZoned : Zones → Bool → List ℕ → Result Match Reason → Type 0
ParsesZoned zones is_prefix text result =
    (front : Result Match Refusal) × IsReadInFront text front
    × MatchResult front (λ s. IsSuffixed zones is_prefix text s result) (λ e. result ≡ Err (unread e))

-- the match of a text by a format with the default year and offset, or an error: of a prefix if the `Bool` is true,
-- otherwise of the whole text
abbrev pub ParsesAs : Reading → Bool → List ℕ → Defaults → Result Match Reason → Type 0
ParsesAs format is_prefix text defaults result =
    (outcome : Result Match Refusal) × IsRead format is_prefix text defaults outcome
    × MatchResult outcome (λ s. IsGuarded format is_prefix text s result) (λ e. result ≡ Err (unread e))

-- the default year and that offset, without a zone or a latest moment
abbrev pub at_offset : UtcOffset → Defaults → Defaults
at_offset o d = record { year = d.year; offset = Some o; clocks = None; latest = None }

-- The match of a text as a local time in a zone: parsed with the default offset that the zone has at the local date
-- and time of the text, which is first parsed with UTC as the default offset. Or the first error: of the parse with
-- UTC, of that offset, or of the parse with it.
abbrev pub ParsesInZone : Clocks → Reading → Bool → List ℕ → Defaults → Result Match Reason → Type 0
ParsesInZone clocks format is_prefix text defaults result =
    (utc : UtcOffset) × IsUtc utc
    × (shown : Result Match Reason) × ParsesAs format is_prefix text (at_offset utc defaults) shown
    × MatchResult shown
    (λ s. (moment : Result OffsetDateTime Reason) × IsMomentWhen clocks s.moment moment
    × MatchResult moment (λ m. ParsesAs format is_prefix text (at_offset (offset_of m) defaults) result)
    (λ why. result ≡ Err why))
    (λ why. result ≡ Err why)

-- The match of a text by a format; if the format rejects it, as a local time in the zone of the defaults, if they have
-- one. Otherwise the error of `ParsesInZone` or, without a zone, that of the format.
abbrev pub ParsesLocally : Reading → Bool → List ℕ → Defaults → Result Match Reason → Type 0
ParsesLocally format is_prefix text defaults result =
    (plain : Result Match Reason) × ParsesAs format is_prefix text defaults plain
    × MatchResult plain (λ s. result ≡ Ok s)
    (λ reason. MatchOption defaults.clocks (result ≡ Err reason)
    (λ clocks. ParsesInZone clocks format is_prefix text defaults result))

-- the first moment is later than the second, at whatever offsets
abbrev pub is_after : OffsetDateTime → OffsetDateTime → Bool
is_after v w = int_lt (offset_instant greatest_year w) (offset_instant greatest_year v)

-- a text, which may omit its year, with its format, whether a prefix of it or all of it is parsed, the default offset
-- and the zone for local times, if any, and the latest moment that it may mean
pub record Undated : Type 0 where
  pub format : Reading
  pub is_prefix : Bool
  pub text : List ℕ
  pub offset : Option UtcOffset
  pub clocks : Option Clocks
  pub latest : OffsetDateTime

-- the `Undated` of these values
abbrev pub undated : Reading → Bool → List ℕ → Option UtcOffset → Option Clocks → OffsetDateTime → Undated
undated format is_prefix text offset clocks latest =
    record { format = format; is_prefix = is_prefix; text = text; offset = offset; clocks = clocks; latest = latest }

-- an `Undated` of the code, without the addresses of its text and its format
abbrev pub erased_undated : declared.Undated → Undated
erased_undated u = undated u.reading.now u.is_prefix u.text.now u.offset u.clocks u.latest

-- the year after that of a moment's date at its own offset
abbrev pub year_after : OffsetDateTime → ℤ
year_after v = Dates.year (offset_date v) +ℤ pos 1

-- the defaults with that year, offset and zone, without a latest moment
abbrev pub in_year : ℤ → Option UtcOffset → Option Clocks → Defaults
in_year year offset clocks = record { year = Some year; offset = offset; clocks = clocks; latest = None }

-- the match of a text with that default year, also as a local time in the zone, or an error
abbrev pub IsReadInYear : Undated → ℤ → Result Match Reason → Type 0
IsReadInYear u year = ParsesLocally u.format u.is_prefix u.text (in_year year u.offset u.clocks)

-- the result is a match whose moment isn't after the latest moment; false for an error
abbrev pub is_early : OffsetDateTime → Result Match Reason → Bool
is_early latest (Ok s) = not (is_after s.moment latest)
is_early latest (Err why) = false

-- Whether the text, with that default year and with the latest moment's offset as the default offset, is a moment that
-- isn't after the latest one; false if the format rejects it.
abbrev pub IsEarly : Undated → ℤ → Bool → Type 0
IsEarly u year early =
    (shown : Result Match Reason)
    × ParsesAs u.format u.is_prefix u.text (at_offset (offset_of u.latest) (in_year year u.offset u.clocks)) shown
    × (early ≡ is_early u.latest shown)

-- Whether the error of that year ends the search: the local time is nonexistent or ambiguous in the zone, and, at the
-- offset of the latest moment, isn't after that moment.
abbrev pub IsFinal : Undated → ℤ → Reason → Bool → Type 0
IsFinal u year why final = MatchBool (is_local_time_error why) (IsEarly u year final) (final ≡ false)

-- The result of the first of n years, from `year` down, that is a match that isn't after the latest moment, or an error
-- for which `IsFinal` is true. If there is none, the last error of a year, or the given reason if no year has an error.
unfoldable pub AreYearsTried : Undated → ℕ → ℤ → Reason → Result Match Reason → Type 0
AreYearsTried u zero year reason result = result ≡ Err reason
AreYearsTried u (suc n) year reason result =
    (read : Result Match Reason) × IsReadInYear u year read
    × MatchResult read
    (λ s. MatchBool (is_after s.moment u.latest) (AreYearsTried u n (year -ℤ pos 1) reason result) (result ≡ Ok s))
    (λ why. (final : Bool) × IsFinal u year why final
    × MatchBool final (result ≡ Err why) (AreYearsTried u n (year -ℤ pos 1) why result))

-- The match of a text by a format, also as a local time in the zone of the defaults. If there is none and the defaults
-- have a latest moment, the first match that isn't after it, in ten years from the one after its own down. Otherwise
-- the error of the last attempt that fails; a nonexistent or ambiguous local time may end the attempts.
abbrev pub IsDated : Reading → Bool → List ℕ → Defaults → Result Match Reason → Type 0
IsDated format is_prefix text defaults result =
    (plain : Result Match Reason) × ParsesLocally format is_prefix text defaults plain
    × MatchResult plain (λ s. result ≡ Ok s)
    (λ reason. MatchOption defaults.latest (result ≡ Err reason)
    (λ latest. AreYearsTried (undated format is_prefix text defaults.offset defaults.clocks latest)
    10 (year_after latest) reason result))

-- the match of a text by the first of these formats that matches, otherwise that reason as the error
abbrev pub AreTried : List Reading → Bool → List ℕ → Defaults → Reason → Result Match Reason → Type 0
AreTried [] is_prefix text defaults reason result = result ≡ Err reason
AreTried (format ∷ formats) is_prefix text defaults reason result =
    (first : Result Match Reason) × IsDated format is_prefix text defaults first
    × MatchResult first (λ s. result ≡ Ok s) (λ _. AreTried formats is_prefix text defaults reason result)

-- the match of a text by the first of the formats that matches, otherwise the error of the first format
abbrev pub IsReadInTurn : Reading → List Reading → Bool → List ℕ → Defaults → Result Match Reason → Type 0
IsReadInTurn format formats is_prefix text defaults result =
    (first : Result Match Reason) × IsDated format is_prefix text defaults first
    × MatchResult first (λ s. result ≡ Ok s) (λ reason. AreTried formats is_prefix text defaults reason result)
