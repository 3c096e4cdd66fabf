-- The output for a text, and for an input of several lines.
use Rattle.time_values.specs.Calendar.{greatest_year}
use Rattle.std.specs.Prelude.{ℕ, List, [], ◌++◌, codes, ℤ, pos, Bool, if◌then◌else◌, int_lt, nat_lt, unsigned_abs, ◌∷◌, ◌||◌, Result, Ok, Err, ◌==◌, ◌≡◌, Option, None, ◌⊎◌, ◌^◌, ◌≤◌, MatchResult}
use Rattle.std.specs.Fmt.{decimal, signed_decimal}
use Rattle.std.specs.Io.KnownBytes.{Appends}
use Rattle.time_values.specs.DisplayTexts.{fixed}
use Rattle.time_values.specs.Dates as Dates
use Rattle.time_values.specs.Moments.{plain_date, plain_time, utc_date, utc_time, offset_date, offset_time, offset_of, nanoseconds}
use Rattle.time_values.specs.Names.{month_number}
use Rattle.time_values.specs.Offsets as Offsets
use Rattle.time_values.specs.Times as Times
use Rattle.time_values.specs.Refusal.{Refusal, refusal_text}
use Rattle.time_values.specs.declared.date.Date.{Date}
use Rattle.time_values.specs.declared.time.Time.{Time}
use Rattle.time_values.specs.declared.utc_offset.UtcOffset.{UtcOffset}
use Rattle.time_values.specs.declared.plain_date_time.PlainDateTime.{PlainDateTime}
use Rattle.time_values.specs.declared.utc_date_time.UtcDateTime.{UtcDateTime}
use Rattle.time_values.specs.declared.offset_date_time.OffsetDateTime.{OffsetDateTime}
use Rattle.time_values.specs.declared.timestamp.Timestamp.{Timestamp}
use Rattle.time_components.specs.Tree.{Tree}
use Rattle.time_readers.specs.Direct.{RefusesRfc3339, RefusesRfc2822}
use Rattle.time_record.specs.Reading as Description
use Rattle.time_record.specs.Record.{empty}
use Rattle.time_record.specs.Resolution.{IsDated, IsTimed, IsOffset, IsPlain, IsUtcMoment, IsMoment, IsTimestamp}
use Rattle.time_parsing.specs.Outcome.{Reading, Refusing, Resolving, Path, over_record, direct, IsOutcome, IsMomentOutcome}
use Rattle.time_parsing.specs.Iso8601 as Iso8601
use Rattle.time_parsing.specs.Rfc2822 as Rfc2822
use Rattle.time_parsing.specs.Rfc3339 as Rfc3339
use Rattle.byte_streams.specs.Faults.{Rises, count_more}
use Rattle.byte_streams.specs.Lines.{line_texts}
use Rattle.programs_answers.specs.Formats.{ymd, clock, unix, local}
use Rattle.programs_answers.specs.declared.formats.Format.{Format}
use Rattle.programs_answers.specs.declared.formats.Format.TheVariants as format
use Rattle.programs_answers.specs.declared.formats.Target.{Target}
use Rattle.programs_answers.specs.declared.formats.Target.TheVariants as target
use Rattle.programs_answers.specs.declared.serving.Stop.{Stop}
use Rattle.programs_answers.specs.declared.serving.Stop.TheVariants.{Unread, Memory, Unwritten}

-- ---- Numbers as text

-- A minus for `true`, or nothing.
abbrev pub minus_if : Bool → List ℕ
minus_if is_negative = if is_negative then codes "-" else []

-- The decimal digits of a number, padded with zeros to four if it has fewer.
abbrev pub four_digits : ℕ → List ℕ
four_digits n = if nat_lt n 10000 then fixed 4 n else decimal n

-- A year in at least four digits, after a minus if it is negative.
abbrev pub year_text : ℤ → List ℕ
year_text y = minus_if (int_lt y (pos 0)) ++ four_digits (unsigned_abs y)

-- ---- Values and errors as text

-- `YYYY-MM-DD`, with the year as in `year_text`.
abbrev pub date_text : Date → List ℕ
date_text d =
    year_text (Dates.year d)
    ++ codes "-" ++ fixed 2 (month_number (Dates.month d))
    ++ codes "-" ++ fixed 2 (Dates.day d)

-- `HH:MM:SS.nnnnnnnnn`
abbrev pub time_text : Time → List ℕ
time_text t =
    fixed 2 (Times.hour t)
    ++ codes ":" ++ fixed 2 (Times.minute t)
    ++ codes ":" ++ fixed 2 (Times.second t)
    ++ codes "." ++ fixed 9 (Times.nanosecond t)

-- Whether a number is below 0.
abbrev pub is_negative : ℤ → Bool
is_negative z = int_lt z (pos 0)

-- The byte `-` if the hours, minutes or seconds of the offset are negative, else `+`.
abbrev pub sign_of : UtcOffset → ℕ
sign_of o =
    if is_negative (Offsets.hours o) || is_negative (Offsets.minutes o) || is_negative (Offsets.seconds o)
    then 45 else 43

-- `+HH:MM:SS`, or with `-` if the hours, minutes or seconds are negative.
abbrev pub offset_text : UtcOffset → List ℕ
offset_text o =
    sign_of o ∷ fixed 2 (unsigned_abs (Offsets.hours o))
    ++ codes ":" ++ fixed 2 (unsigned_abs (Offsets.minutes o))
    ++ codes ":" ++ fixed 2 (unsigned_abs (Offsets.seconds o))

-- Date, space, time.
abbrev pub date_time_text : Date → Time → List ℕ
date_time_text d t = date_text d ++ codes " " ++ time_text t

-- Date, space, time.
abbrev pub plain_text : PlainDateTime → List ℕ
plain_text p = date_time_text (plain_date p) (plain_time p)

-- Date, space, time, space, and the offset of UTC.
abbrev pub utc_text : UtcDateTime → List ℕ
utc_text u = date_time_text (utc_date u) (utc_time u) ++ codes " +00:00:00"

-- Date, space, time, space, offset.
abbrev pub offset_date_time_text : OffsetDateTime → List ℕ
offset_date_time_text v = date_time_text (offset_date v) (offset_time v) ++ codes " " ++ offset_text (offset_of v)

-- Nanoseconds since 1970-01-01T00:00:00Z in decimal digits, after a minus if negative.
abbrev pub timestamp_text : Timestamp → List ℕ
timestamp_text t = signed_decimal (nanoseconds t)

-- The text of a result: for a value that of `value_text`, and for an error `error: ` and its text.
abbrev pub printed : {V : Type 0} → (V → List ℕ) → Result V Refusal → List ℕ
printed value_text (Ok v) = value_text v
printed value_text (Err e) = codes "error: " ++ refusal_text e

-- ---- The answers to the lines of an input

-- The answer is the printed text of an outcome that has the property P. `value_text` is the text of a value.
abbrev pub PrintsOutcome : {V : Type 0} → (Result V Refusal → Type 0) → (V → List ℕ) → List ℕ → Type 0
PrintsOutcome {V} P value_text answer = (outcome : Result V Refusal) × P outcome × (answer ≡ printed value_text outcome)

-- The answer is the printed outcome of the whole text, parsed over an empty record by a format with these readings and
-- errors. `resolves` relates the parsed record to the value or its error, and `value_text` is the text of a value.
abbrev pub IsPrinted : {V : Type 0} → Resolving V → (V → List ℕ) → Reading → Refusing → List ℕ → List ℕ → Type 0
IsPrinted resolves value_text reads refuses text =
    PrintsOutcome (IsOutcome resolves reads refuses text empty) value_text

-- The answer is the printed outcome of the whole text as a moment, parsed without defaults: on the format's direct path
-- if it has one, else over an empty record.
abbrev pub IsPrintedMoment : Path → Reading → Refusing → List ℕ → List ℕ → Type 0
IsPrintedMoment path reads refuses text =
    PrintsOutcome (IsMomentOutcome greatest_year path reads refuses text None) offset_date_time_text

-- The answer is the printed outcome of the whole text for the target, by a format with this path, these readings and
-- these errors. Only `DateTime` depends on the path. `Staged` is a moment, always parsed over an empty record.
abbrev pub IsAnswerFor : Target → Path → Reading → Refusing → List ℕ → List ℕ → Type 0
IsAnswerFor target.Date path = IsPrinted (IsDated greatest_year) date_text
IsAnswerFor target.Time path = IsPrinted IsTimed time_text
IsAnswerFor target.Offset path = IsPrinted IsOffset offset_text
IsAnswerFor target.Plain path = IsPrinted (IsPlain greatest_year) plain_text
IsAnswerFor target.Utc path = IsPrinted (IsUtcMoment greatest_year) utc_text
IsAnswerFor target.DateTime path = IsPrintedMoment path
IsAnswerFor target.Staged path = IsPrinted (IsMoment greatest_year) offset_date_time_text
IsAnswerFor target.Timestamp path = IsPrinted (IsTimestamp greatest_year) timestamp_text

-- The answer for the target is the printed outcome of the text, which the description with that tree parses.
abbrev pub IsDescribed : Tree → Target → List ℕ → List ℕ → Type 0
IsDescribed tree target = IsAnswerFor target over_record (Description.Reads greatest_year tree)
    (Description.Refuses greatest_year tree)

-- The answer for the target is the printed outcome of the text, which the format parses.
abbrev pub IsParsed : Format → Target → List ℕ → List ℕ → Type 0
IsParsed format.Rfc3339 target =
    IsAnswerFor target (direct (RefusesRfc3339 greatest_year)) (Rfc3339.Reads greatest_year)
    (Rfc3339.Refuses greatest_year)
IsParsed format.Rfc2822 target =
    IsAnswerFor target (direct (RefusesRfc2822 greatest_year)) (Rfc2822.Reads greatest_year)
    (Rfc2822.Refuses greatest_year)
IsParsed format.Iso8601 target = IsAnswerFor target over_record (Iso8601.Reads greatest_year)
    (Iso8601.Refuses greatest_year)
IsParsed format.Ymd target = IsDescribed ymd target
IsParsed format.Clock target = IsDescribed clock target
IsParsed format.Unix target = IsDescribed unix target
IsParsed format.Local target = IsDescribed local target

-- The text is the answers to the lines in order, each followed by LF, and empty without lines. P relates a line to its
-- answer.
abbrev pub AreAnswers : (List ℕ → List ℕ → Type 0) → List (List ℕ) → List ℕ → Type 0
AreAnswers P [] text = text ≡ []
AreAnswers P (line ∷ lines) text =
    (answer : List ℕ) × (others : List ℕ)
    × P line answer × AreAnswers P lines others × (text ≡ answer ++ 10 ∷ others)

-- A text that has the property P is appended to the writer's contents. If the contents before are unknown, this states
-- only that such a text exists, and nothing of the contents after.
abbrev pub Writes : (List ℕ → Type 0) → Option (List ℕ) → Option (List ℕ) → Type 0
Writes P old new = (text : List ℕ) × P text × Appends old new text

-- The answers to the lines of the input, each followed by LF, are appended to the contents `old`, which gives `new`. If
-- `old` is none, `new` may be anything. P relates a line to its answer. An empty input has no lines.
abbrev pub WritesAnswers : (List ℕ → List ℕ → Type 0) → Option (List ℕ) → Option (List ℕ) → List ℕ → Type 0
WritesAnswers P old new input = Writes (AreAnswers P (line_texts input)) old new

-- ---- Why a call returned early

-- The count of failed reads rose from `faults` to `faults'`, or the count of bytes read rose from `given` to `given'`
-- by 4294967296 or more, as after as many reads of at least a byte each. The counts stop at 2^64 - 1, and one that is
-- there afterwards counts as risen.
abbrev pub IsUnread : ℕ → ℕ → ℕ → ℕ → Type 0
IsUnread faults faults' given given' = Rises faults faults' ⊎ (count_more given (2 ^ 32) ≤ given')

-- If a read stopped the call, the count of failed reads rose, or that of bytes read rose by 4294967296 or more, as in
-- `IsUnread`. After any other stop the count of failed reads is unchanged.
abbrev pub IsReadCounted : Stop → ℕ → ℕ → ℕ → ℕ → Type 0
IsReadCounted Unread faults faults' given given' = IsUnread faults faults' given given'
IsReadCounted Memory faults faults' given given' = faults' ≡ faults
IsReadCounted Unwritten faults faults' given given' = faults' ≡ faults

-- If a read stopped the call, the count of failed reads rose, or that of bytes read rose by 4294967296 or more, as in
-- `IsUnread`. After any other early return and after `Ok` the count of failed reads is unchanged.
abbrev pub HasReadCause : {V : Type 0} → Result V Stop → ℕ → ℕ → ℕ → ℕ → Type 0
HasReadCause result faults faults' given given' =
    MatchResult result (λ _. faults' ≡ faults) (λ stop. IsReadCounted stop faults faults' given given')

-- The count of failed writes rose from `before` to `now` if a write stopped the call, and is unchanged if anything else
-- did.
abbrev pub IsWriteCounted : Stop → ℕ → ℕ → Type 0
IsWriteCounted Unread before now = now ≡ before
IsWriteCounted Memory before now = now ≡ before
IsWriteCounted Unwritten before now = Rises before now

-- The count of failed writes rose if a write stopped the call, and is unchanged after any other early return and after
-- `Ok`.
abbrev pub HasWriteCause : {V : Type 0} → Result V Stop → ℕ → ℕ → Type 0
HasWriteCause result before now = MatchResult result (λ _. now ≡ before) (λ stop. IsWriteCounted stop before now)
