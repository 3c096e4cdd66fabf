-- How a moment is written.
use Rattle.time_values.specs.Calendar.{greatest_year}
use Rattle.std.specs.Prelude.{◌≡◌}
use Rattle.std.specs.Fmt.{signed_decimal}
use Rattle.time_formatting.specs.WellKnown.{Writes, count_of}
use Rattle.time_values.specs.Times as Times
use Rattle.restamp_formats.specs.Common.{ℕ, ℤ, List, Option, None, Some, Result, Ok, Err, MatchOption, shape, text_of, Unformattable, IsInstant, IsWhole, offset_instant, offset_time, Items, OffsetDateTime, WritesTextWith, IsMailText, moment_text, unwritable_3339, unwritable_2822, FractionDigits, Unwritable, Clock, Form, Named, Seconds, Milliseconds, Microseconds, Nanoseconds, Writing}
use Rattle.restamp_formats.specs.{Zoned.IsConverted, Zoned.conversion_error, Reason.Reason, Reason.unwritable, Reason.unformattable, Reason.out_of_range, declared.form.Unit.Unit as Unit_}

-- a text, or its error as the reason `unwritable`
abbrev pub written : Result Items Unwritable → Result Items Reason
written (Ok text) = Ok text
written (Err why) = Err (unwritable why)

-- the bytes of a text by a description, or their error as the reason `unformattable`
abbrev pub described : Result (List ℕ) Unformattable → Result Items Reason
described (Ok bytes) = Ok (record { items = bytes })
described (Err why) = Err (unformattable why)

-- how many nanoseconds make one unit
abbrev pub unit_of : Unit_ → ℕ
unit_of Seconds = 1_000_000_000
unit_of Milliseconds = 1_000_000
unit_of Microseconds = 1_000
unit_of Nanoseconds = 1

-- the whole units from 1970-01-01T00:00:00Z to the moment, rounded down; `None` if its year in UTC is outside -999999
-- to 999999
abbrev pub IsCount : Unit_ → OffsetDateTime → Option ℤ → Type 0
IsCount unit v count =
    MatchOption count (¬ IsInstant greatest_year (offset_instant greatest_year v))
    (λ z. IsInstant greatest_year (offset_instant greatest_year v)
    × IsWhole (unit_of unit) (offset_instant greatest_year v) z)

-- a count as a decimal number in ASCII, with a `-` if it is negative; for `None` the reason `out_of_range`
abbrev pub counted : Option ℤ → Result Items Reason
counted None = Err out_of_range
counted (Some z) = Ok (record { items = signed_decimal z })

-- the decimal number of whole units from 1970-01-01T00:00:00Z to the moment, or the reason `out_of_range`
abbrev pub IsCounted : Unit_ → OffsetDateTime → Result Items Reason → Type 0
IsCounted unit v result = (count : Option ℤ) × IsCount unit v count × (result ≡ counted count)

-- The text of a moment by a named format, or the first reason why it has no text. Only RFC 3339 uses the fraction's
-- digits.
abbrev pub IsNamedText : Named → FractionDigits → OffsetDateTime → Result Items Reason → Type 0
IsNamedText Named.Rfc3339 digits v result =
    (text : Result Items Unwritable)
    × Writes (unwritable_3339 v) (moment_text (count_of digits (Times.nanosecond (offset_time v))) v) text
    × (result ≡ written text)
IsNamedText Named.Rfc2822 digits v result =
    (text : Result Items Unwritable) × WritesTextWith (unwritable_2822 v) (IsMailText v) text × (result ≡ written text)
IsNamedText Named.Iso8601 digits v result =
    (text : Result Items Unwritable) × Writes (unwritable_3339 v) (moment_text 9 v) text × (result ≡ written text)
IsNamedText (Named.Count unit) digits v result = IsCounted unit v result

-- The text of a moment by an output format, or the first reason why it has no text. By a description, a text of more
-- than 35 bytes is an error (`TooLong`).
abbrev pub IsWrittenBy : Writing → FractionDigits → OffsetDateTime → Result Items Reason → Type 0
IsWrittenBy (Writing.Named named) digits v result = IsNamedText named digits v result
IsWrittenBy (Writing.Described d) digits v result = result ≡ described (text_of 35 greatest_year v (shape d))

-- the text of a moment that is first converted to a clock; or the reason why it can't be converted or has no text
abbrev pub IsWrittenOn : Writing → FractionDigits → Clock → OffsetDateTime → Result Items Reason → Type 0
IsWrittenOn writing digits clock v result =
    (shown : Option OffsetDateTime) × IsConverted clock v shown
    × MatchOption shown (result ≡ Err (conversion_error clock)) (λ w. IsWrittenBy writing digits w result)

-- the text of a moment, converted to the clock of the form, or the reason why it has none
abbrev pub IsWritten : Form → OffsetDateTime → Result Items Reason → Type 0
IsWritten form v result = IsWrittenOn form.writing.now form.digits form.clock v result
