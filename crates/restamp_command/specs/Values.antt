-- The meaning of option values.
use Rattle.time_values.specs.Calendar.{greatest_year}
use Rattle.std.specs.Prelude.{◌≡◌, ℕ, ◌-◌, ℤ, pos, ◌+ℤ◌, ◌-ℤ◌, ◌*ℤ◌, IsTrue, ◌||◌, ◌==◌, Bool, MatchBool, List, [], codes, length, take, drop, slice_index, slice_get, if◌then◌else◌, Option, None, Some, MatchOption, SomeIff, Result, Ok, Err, MatchResult, FitsSigned, ◌^◌, ◌<◌, nat_le, unsigned_abs, false, true, ◌∷◌}
use Rattle.std.specs.Int.{w64, int_div_euclid, w32}
use Rattle.std.specs.Option.{option_and_then}
use Rattle.std.specs.Str.{bytes_eq}
use Rattle.std.specs.Str.Parse.{IsNumeral, signed_digits_value, without_leading_sign, digits_value, without_leading_plus}
use Rattle.std.specs.Char.{is_ascii_digit}
use Rattle.std.specs.Result.{result_ok}
use Rattle.time_values.specs.Moments.{local_time_at, offset_instant, offset_of, utc_instant}
use Rattle.time_values.specs.Instants.{IsInstant, nanos_per_day}
use Rattle.time_values.specs.Offsets.{IsUtc, offset_seconds}
use Rattle.time_values.specs.declared.offset_date_time.OffsetDateTime.{OffsetDateTime}
use Rattle.time_values.specs.declared.utc_date_time.UtcDateTime.{UtcDateTime}
use Rattle.time_values.specs.declared.utc_offset.UtcOffset.{UtcOffset}
use Rattle.time_values.specs.Refusal.{Refusal}
use Rattle.time_formatting.specs.declared.parts.FractionDigits.{FractionDigits}
use Rattle.time_formatting.specs.declared.parts.FractionDigits.TheVariants.{Auto, Exactly}
use Rattle.time_digits.specs.declared.Padding.TheVariants as padding
use Rattle.time_components.specs.Tree.{Tree, literal, component, sequence, trees}
use Rattle.time_components.specs.declared.format_description.Component.TheVariants as kind
use Rattle.time_record.specs.Reading.{Reads, Refuses}
use Rattle.time_record.specs.Record.{empty}
use Rattle.time_record.specs.Resolution.{IsOffset}
use Rattle.time_parsing.specs.Outcome.{IsOutcome}
use Rattle.restamp_formats.specs.declared.reading.Defaults.{Defaults}
use Rattle.restamp_formats.specs.Zoned.{IsConverted, IsMomentWhen}
use Rattle.restamp_formats.specs.Reason.{outside_zone_range, Reason}
use Rattle.restamp_formats.specs.declared.clock.Clock.TheVariants as on
use Rattle.restamp_formats.specs.declared.local.Clocks.{Clocks}
use Rattle.restamp_formats.specs.Reading.{ParsesAs, IsReadInTurn}
use Rattle.restamp_formats.specs.declared.local.Fold.{Fold}
use Rattle.restamp_formats.specs.declared.local.Fold.TheVariants.{Refuse, Earlier, Later}
use Rattle.restamp_formats.specs.declared.reading.Reading.{Reading}
use Rattle.restamp_formats.specs.declared.reading.Reading.TheVariants.{Rfc3339}
use Rattle.restamp_formats.specs.declared.reading.Match.{Match}
use Rattle.restamp_command.specs.Fault.{TimeArgError, unread, out_of_range, no_clock, erased_time_error}
use Rattle.restamp_command.specs.declared.bounds.Unit.{Unit}
use Rattle.restamp_command.specs.declared.bounds.Unit.TheVariants as unit
use Rattle.restamp_command.specs.declared.bounds.Word.{Word}
use Rattle.restamp_command.specs.declared.bounds.Word.TheVariants as word
use Rattle.restamp_command.specs.declared.fault.TimeArgError as declared

-- ---- Texts that name a moment by the clock.

-- the unit of the letter `s`, `m`, `h`, `d` or `w`; `None` for any other byte
abbrev pub unit_of : ℕ → Option Unit
unit_of letter =
    if letter == 115 then Some unit.Second else
    if letter == 109 then Some unit.Minute else
    if letter == 104 then Some unit.Hour else
    if letter == 100 then Some unit.Day else
    if letter == 119 then Some unit.Week else None

-- how many seconds a unit has
abbrev pub seconds_of : Unit → ℕ
seconds_of unit.Second = 1
seconds_of unit.Minute = 60
seconds_of unit.Hour = 3_600
seconds_of unit.Day = 86_400
seconds_of unit.Week = 604_800

-- a text starts with `+` or `-`
abbrev pub has_sign : List ℕ → Bool
has_sign text = (slice_index text 0 == 43) || (slice_index text 0 == 45)

-- a text of `+` or `-` and decimal digits that fits 64 bits with the sign, as a number of units to add to the clock's
-- moment; `None` for any other text
abbrev pub AreUnits : List ℕ → Unit → Option Word → Type 0
AreUnits number u result =
    SomeIff result
    (IsTrue (has_sign number) × IsNumeral 10 (without_leading_sign number)
    × FitsSigned w64 (signed_digits_value 10 number))
    (word.Later (signed_digits_value 10 number) u)

-- The meaning of the text after `now`: 0 seconds for no text, or a signed number of 64 bits, of units such as `-90m`;
-- `None` for any other text.
abbrev pub IsShift : List ℕ → Option Word → Type 0
IsShift [] result = result ≡ Some (word.Later (pos 0) unit.Second)
IsShift text result =
    let last = length text - 1 in
    MatchOption (option_and_then unit_of (slice_get text last)) (result ≡ None)
    (λ u. AreUnits (take last text) u result)

-- The meaning of a word: the start of the clock's day or of the day before, or the clock's moment plus a number of
-- units; `None` for any other text.
abbrev pub IsWord : List ℕ → Option Word → Type 0
IsWord text result =
    MatchBool (bytes_eq text (codes "today")) (result ≡ Some (word.Day 0))
    (MatchBool (bytes_eq text (codes "yesterday")) (result ≡ Some (word.Day 1))
    (MatchBool (bytes_eq (take 3 text) (codes "now")) (IsShift (drop 3 text) result) (result ≡ None)))

-- the day in local time at an offset, counted from 1970-01-01, at the moment of that many nanoseconds since 1970
abbrev pub local_day : ℤ → UtcOffset → ℤ
local_day now offset = int_div_euclid (local_time_at now offset) (pos nanos_per_day)

-- the nanoseconds since 1970 of a word's moment, by those of the clock: a number of units later; or midnight at that
-- offset, on the clock's day or `back` days before it
abbrev pub nanos_of : ℤ → UtcOffset → Word → ℤ
nanos_of now offset (word.Later number u) = now +ℤ number *ℤ pos (seconds_of u) *ℤ pos 1_000_000_000
nanos_of now offset (word.Day back) =
    (local_day now offset -ℤ pos back) *ℤ pos nanos_per_day -ℤ offset_seconds offset *ℤ pos 1_000_000_000

-- The moment of that many nanoseconds since 1970, in UTC; `out_of_range` if its year isn't from -999999 to 999999.
abbrev pub IsMomentAt : ℤ → Result OffsetDateTime TimeArgError → Type 0
IsMomentAt n (Ok v) = (offset_instant greatest_year v ≡ n) × IsUtc (offset_of v)
IsMomentAt n (Err why) = (why ≡ out_of_range) × ¬ IsInstant greatest_year n

-- The offset at which days start: the given one, or UTC without one.
abbrev pub IsDayOffset : Option UtcOffset → UtcOffset → Type 0
IsDayOffset given offset = MatchOption given (IsUtc offset) (λ o. offset ≡ o)

-- The earliest moment that has, in the zone, the local date and time that a moment has at its own offset; an error if
-- there is none, or if it is outside the range of time zones.
abbrev pub IsEarliestWithLocal : Clocks → OffsetDateTime → Result OffsetDateTime TimeArgError → Type 0
IsEarliestWithLocal clocks v result =
    (moment : Result OffsetDateTime Reason) × IsMomentWhen (record clocks { fold = Earlier }) v moment
    × MatchResult moment (λ m. result ≡ Ok m) (λ why. result ≡ Err (unread why))

-- The start of the zone's day at a moment, or of the day that many days before: the earliest moment whose local time is
-- its midnight; an error if there is none, or if a moment is out of range.
abbrev pub IsStartOfDayIn : Clocks → UtcDateTime → ℕ → Result OffsetDateTime TimeArgError → Type 0
IsStartOfDayIn clocks now back result =
    (v : OffsetDateTime) × (offset_instant greatest_year v ≡ utc_instant greatest_year now)
    × (shown : Option OffsetDateTime) × IsConverted (on.Zone clocks.zone) v shown
    × MatchOption shown (result ≡ Err (unread outside_zone_range))
    (λ s. (midnight : Result OffsetDateTime TimeArgError)
    × IsMomentAt ((local_day (utc_instant greatest_year now) (offset_of s) -ℤ pos back) *ℤ pos nanos_per_day) midnight
    × MatchResult midnight (λ m. IsEarliestWithLocal clocks m result) (λ why. result ≡ Err why))

-- the moment of a word, with days that start at the given offset, or at UTC without one; an error if it has no date in
-- UTC
abbrev pub IsNamedAt : UtcDateTime → Option UtcOffset → Word → Result OffsetDateTime TimeArgError → Type 0
IsNamedAt now given w result =
    (offset : UtcOffset) × IsDayOffset given offset
    × IsMomentAt (nanos_of (utc_instant greatest_year now) offset w) result

-- The moment of a word by the clock. Days start in the default zone, or else at the default offset, or else in UTC; a
-- `Later` depends on none of these. An error if a moment is out of range, or the day has no start in the zone.
abbrev pub IsMomentFrom : UtcDateTime → Defaults → Word → Result OffsetDateTime TimeArgError → Type 0
IsMomentFrom now defaults (word.Later number u) result =
    IsNamedAt now defaults.offset (word.Later number u) result
IsMomentFrom now defaults (word.Day back) result =
    MatchOption defaults.clocks (IsNamedAt now defaults.offset (word.Day back) result)
    (λ clocks. IsStartOfDayIn clocks now back result)

-- The number below 2^64 that a text has in decimal digits, with or without a `+`; `None` for any other text.
abbrev pub IsNumber : List ℕ → Option ℕ → Type 0
IsNumber text result =
    let digits = without_leading_plus text in
    SomeIff result (IsNumeral 10 digits × (digits_value 10 digits < 2 ^ 64)) (digits_value 10 digits)

-- The number from 1 to below 2^64 that a text has in decimal digits, with or without a `+`; `None` for any other text.
abbrev pub IsPositive : List ℕ → Option ℕ → Type 0
IsPositive text result =
    let digits = without_leading_plus text in
    SomeIff result (IsNumeral 10 digits × (0 < digits_value 10 digits) × (digits_value 10 digits < 2 ^ 64))
    (digits_value 10 digits)

-- The number from -2^31 to 2^31 - 1 that a text has in decimal digits, with or without `+` or `-`; `None` for any other
-- text.
abbrev pub IsSigned : List ℕ → Option ℤ → Type 0
IsSigned text result =
    SomeIff result (IsNumeral 10 (without_leading_sign text) × FitsSigned w32 (signed_digits_value 10 text))
    (signed_digits_value 10 text)

-- the only byte of a text; `None` for a text of any other length
abbrev pub only_byte : List ℕ → Option ℕ
only_byte (byte ∷ []) = Some byte
only_byte bytes = None

-- the byte that ends a field: TAB for a backslash and `t`, or the byte of a text of one byte; `None` for any other text
abbrev pub delimiter_of : List ℕ → Option ℕ
delimiter_of text = if bytes_eq text (codes "\\t") then Some 9 else only_byte text

-- how many digits of a fraction are written: `Auto` for `auto`, or exactly 0 to 9 for one ASCII digit; `None` for any
-- other text
abbrev pub digits_of : List ℕ → Option FractionDigits
digits_of text =
    if bytes_eq text (codes "auto") then Some Auto else
    option_and_then (λ b. if is_ascii_digit b then Some (Exactly (b - 48)) else None) (only_byte text)

-- whether to use colours: true for `always`, false for `never`, and `is_terminal` for `auto`; `None` for any other text
abbrev pub shows_of : List ℕ → Bool → Option Bool
shows_of text is_terminal =
    if bytes_eq text (codes "auto") then Some is_terminal else
    if bytes_eq text (codes "always") then Some true else
    if bytes_eq text (codes "never") then Some false else None

-- what an ambiguous local time means: an error for `refuse`, its earlier moment for `earlier`, or the later one for
-- `later`; `None` for any other text
abbrev pub fold_of : List ℕ → Option Fold
fold_of text =
    if bytes_eq text (codes "refuse") then Some Refuse else
    if bytes_eq text (codes "earlier") then Some Earlier else
    if bytes_eq text (codes "later") then Some Later else None

-- the items of an offset such as `+05:30`: a sign and two digits of hours, a colon, and two digits of minutes
abbrev pub offset_parts : List Tree
offset_parts =
    component false (kind.OffsetHour (record { padding = padding.Zero; sign_is_mandatory = true }))
    ∷ literal (codes ":")
    ∷ component false (kind.OffsetMinute (record { padding = padding.Zero }))
    ∷ []

-- the description of an offset such as `+05:30`
abbrev pub offset_tree : Tree
offset_tree = sequence (trees offset_parts)

-- The offset of a text such as `+05:30`, from -25:59 to +25:59; `None` for any other text.
abbrev pub IsOffsetText : List ℕ → Option UtcOffset → Type 0
IsOffsetText text result =
    (outcome : Result UtcOffset Refusal)
    × IsOutcome IsOffset (Reads greatest_year offset_tree) (Refuses greatest_year offset_tree) text empty outcome
    × (result ≡ result_ok outcome)

-- The year from -999999 to 999999 that a text has in decimal digits, with or without a sign; `None` for any other text.
abbrev pub IsYear : List ℕ → Option ℤ → Type 0
IsYear text result =
    (number : Option ℤ) × IsSigned text number
    × (result ≡ option_and_then (λ n. if nat_le (unsigned_abs n) greatest_year then Some n else None) number)

-- The moment of a text as a word by the clock; an error with that reason if the text is no word, `no_clock` if the
-- clock's time isn't known (`None`), or one of `IsMomentFrom`.
abbrev pub IsNamedMoment : Option UtcDateTime → Defaults → List ℕ → Reason
    → Result OffsetDateTime TimeArgError → Type 0
IsNamedMoment now defaults text reason result =
    (word : Option Word) × IsWord text word
    × MatchOption word (result ≡ Err (unread reason))
    (λ w. MatchOption now (result ≡ Err no_clock) (λ u. IsMomentFrom u defaults w result))

-- The moment of a text by RFC 3339, or else by the first of the formats that matches, or else as a word by the clock.
-- If none matches, the error is that of RFC 3339; a word has its own errors (`IsNamedMoment`).
abbrev pub IsMomentText : Option UtcDateTime → Reading → List Reading → List ℕ → Defaults
    → Result OffsetDateTime TimeArgError → Type 0
IsMomentText now first others text defaults result =
    (plain : Result Match Reason) × ParsesAs Rfc3339 false text defaults plain
    × MatchResult plain (λ said. result ≡ Ok said.moment)
    (λ reason. (said : Result Match Reason) × IsReadInTurn first others false text defaults said
    × MatchResult said (λ s. result ≡ Ok s.moment) (λ _. IsNamedMoment now defaults text reason result))

-- a result, with an error without the addresses of its texts
abbrev pub erased_moment : Result OffsetDateTime declared.TimeArgError → Result OffsetDateTime TimeArgError
erased_moment (Ok moment) = Ok moment
erased_moment (Err why) = Err (erased_time_error why)
