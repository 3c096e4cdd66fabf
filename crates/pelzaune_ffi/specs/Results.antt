-- What a call stores and returns to C.
use Rattle.std.specs.Prelude.{◌≡◌, ◌⊎◌, ℕ, ℤ, ◌<◌, List, Option, Some, None, Result, Ok, Err, pos, neg_ℤ, ◌+ℤ◌, ◌*ℤ◌, nat_eq, if◌then◌else◌, ◌+◌, ◌*◌, length, codes, false}
use Rattle.time_values.specs.Calendar.{IsBetween, greatest_year}
use Rattle.time_values.specs.Dates as Dates
use Rattle.time_values.specs.Times as Times
use Rattle.time_values.specs.Offsets as Offsets
use Rattle.time_values.specs.Moments as Moments
use Rattle.time_values.specs.Names.{month_number}
use Rattle.time_values.specs.Refusal.{Refusal, range}
use Rattle.time_values.specs.declared.date.Date.{Date}
use Rattle.time_values.specs.declared.time.Time.{Time}
use Rattle.time_values.specs.declared.utc_offset.UtcOffset.{UtcOffset}
use Rattle.time_values.specs.declared.plain_date_time.PlainDateTime.{PlainDateTime}
use Rattle.time_values.specs.declared.utc_date_time.UtcDateTime.{UtcDateTime}
use Rattle.time_values.specs.declared.offset_date_time.OffsetDateTime.{OffsetDateTime}
use Rattle.time_values.specs.Dates.{calendar_date_refusal}
use Rattle.time_values.specs.Names as Month
use Rattle.time_values.specs.Moments.{offset_time, plain_date, plain_time}
use Rattle.time_values.specs.Offsets.{whole_offset_refusal}
use Rattle.time_values.specs.DisplayTexts.{significant}
use Rattle.time_values.specs.Times.{nanosecond, time_refusal}
use Rattle.time_formatting.specs.WellKnown.{IsMailText, moment_text, unwritable_2822, unwritable_3339}
use Rattle.time_formatting.specs.declared.parts.Unwritable.{Unwritable}
use Rattle.time_formatting.specs.declared.parts.Unwritable.TheVariants.{Year, OffsetHour, OffsetSecond}
use Rattle.time_readers.specs.Direct.{RefusesRfc3339, RefusesRfc2822}
use Rattle.time_record.specs.Record.{Record, empty}
use Rattle.time_record.specs.Resolution.{IsDated, IsTimed, IsOffset}
use Rattle.time_parsing.specs.Outcome.{Reading, Refusing, Resolving, Path, direct, over_record, IsWhole, IsOutcome, IsMomentOutcome}
use Rattle.time_parsing.specs.Rfc3339 as rfc3339
use Rattle.time_parsing.specs.Rfc2822 as rfc2822
use Rattle.time_parsing.specs.Iso8601 as iso8601
use Rattle.time_parsing.specs.Rfc3339Strict as strict
use Rattle.pelzaune_ffi.specs.Status.{status_of, too_wide, unknown_format, component_number, laid_over}
use Rattle.pelzaune_ffi.specs.declared.status.Format.{Format}
use Rattle.pelzaune_ffi.specs.declared.status.Format.TheVariants.{Rfc3339, Rfc2822, Iso8601, Rfc3339Strict}
use Rattle.pelzaune_ffi.specs.declared.parts.DateParts.{DateParts}
use Rattle.pelzaune_ffi.specs.declared.parts.TimeParts.{TimeParts}
use Rattle.pelzaune_ffi.specs.declared.parts.OffsetParts.{OffsetParts}
use Rattle.pelzaune_ffi.specs.declared.parts.LocalParts.{LocalParts}
use Rattle.pelzaune_ffi.specs.declared.parts.MomentParts.{MomentParts}
use Rattle.pelzaune_ffi.specs.declared.parts.Instant.{Instant}
use Rattle.pelzaune_ffi.specs.declared.parts.Nanoseconds.{Nanoseconds}
use Rattle.pelzaune_ffi.specs.declared.parts.Parts.{Parts}

-- The struct has the year, the month's number and the day of the date.
pub record HasDate (d : Date) (s : DateParts) : Type 0 where
  pub year : s.year ≡ Dates.year d
  pub month : s.month ≡ month_number (Dates.month d)
  pub day : s.day ≡ Dates.day d

-- The struct has the hour, minute, second and nanosecond of the time.
pub record HasTime (t : Time) (s : TimeParts) : Type 0 where
  pub hour : s.hour ≡ Times.hour t
  pub minute : s.minute ≡ Times.minute t
  pub second : s.second ≡ Times.second t
  pub nanosecond : s.nanosecond ≡ Times.nanosecond t

-- The struct has the whole offset in seconds, positive ahead of UTC.
abbrev pub HasOffset : UtcOffset → OffsetParts → Type 0
HasOffset o s = s.seconds ≡ Offsets.offset_seconds o

-- The struct has the parts of the date, and of the time down to the nanosecond.
pub record HasLocal (d : Date) (t : Time) (s : LocalParts) : Type 0 where
  pub year : s.year ≡ Dates.year d
  pub month : s.month ≡ month_number (Dates.month d)
  pub day : s.day ≡ Dates.day d
  pub hour : s.hour ≡ Times.hour t
  pub minute : s.minute ≡ Times.minute t
  pub second : s.second ≡ Times.second t
  pub nanosecond : s.nanosecond ≡ Times.nanosecond t

-- The struct has the parts of the date and time.
abbrev pub HasPlain : PlainDateTime → LocalParts → Type 0
HasPlain p s = HasLocal (Moments.plain_date p) (Moments.plain_time p) s

-- The struct has the parts of the date and time, which are in UTC.
abbrev pub HasUtc : UtcDateTime → LocalParts → Type 0
HasUtc u s = HasLocal (Moments.utc_date u) (Moments.utc_time u) s

-- The struct has the moment's local date and time, down to the nanosecond, and its offset in seconds.
pub record HasMoment (v : OffsetDateTime) (s : MomentParts) : Type 0 where
  pub year : s.year ≡ Dates.year (Moments.offset_date v)
  pub month : s.month ≡ month_number (Dates.month (Moments.offset_date v))
  pub day : s.day ≡ Dates.day (Moments.offset_date v)
  pub hour : s.hour ≡ Times.hour (Moments.offset_time v)
  pub minute : s.minute ≡ Times.minute (Moments.offset_time v)
  pub second : s.second ≡ Times.second (Moments.offset_time v)
  pub nanosecond : s.nanosecond ≡ Times.nanosecond (Moments.offset_time v)
  pub offset : s.offset ≡ Offsets.offset_seconds (Moments.offset_of v)

-- The struct's seconds since 1970-01-01T00:00:00Z and the nanoseconds after them, below a second, are the moment's
-- instant.
pub record HasInstant (v : OffsetDateTime) (s : Instant) : Type 0 where
  pub instant : Moments.offset_instant greatest_year v ≡ s.seconds *ℤ pos 1_000_000_000 +ℤ pos s.nanoseconds
  pub below : s.nanoseconds < 1_000_000_000

-- The struct's count is the nanoseconds from 1970-01-01T00:00:00Z to the moment's instant.
abbrev pub HasCount : OffsetDateTime → Nanoseconds → Type 0
HasCount v s = s.count ≡ Moments.offset_instant greatest_year v

-- The number fits 64 bits with a sign.
abbrev pub FitsI64 : ℤ → Type 0
FitsI64 n = IsBetween (neg_ℤ (pos 9_223_372_036_854_775_808)) (pos 9_223_372_036_854_775_807) n

-- A relation of a parse's result, the status that the call returns, and the struct before and after the call.
abbrev pub Storing : Type 0 → Type 0 → Type 1
Storing V S = Result V Refusal → ℕ → S → S → Type 0

-- For a value, status 0, and the struct has its parts by `Has`. For an error its status, and the struct is unchanged.
abbrev pub IsStored : {V S : Type 0} → (V → S → Type 0) → Storing V S
IsStored Has (Ok v) status old new = (status ≡ 0) × Has v new
IsStored Has (Err e) status old new = (status ≡ status_of e) × (new ≡ old)

-- For a moment, status 0 and its nanoseconds; or status 7 if they don't fit 64 bits, and the struct is unchanged. For
-- an error its status, and the struct is unchanged.
abbrev pub IsCountStored : Storing OffsetDateTime Nanoseconds
IsCountStored (Ok v) status old new =
    ((status ≡ 0) × HasCount v new)
    ⊎ ((status ≡ too_wide) × (new ≡ old) × ¬ (FitsI64 (Moments.offset_instant greatest_year v)))
IsCountStored (Err e) status old new = (status ≡ status_of e) × (new ≡ old)

-- Some result has the property `IsAnswer`, which identifies the result of a parse, and is stored as `storing` defines.
abbrev pub IsResultStored : {V S : Type 0} → Storing V S → (Result V Refusal → Type 0) → ℕ → S → S → Type 0
IsResultStored {V} storing IsAnswer status old new =
    (answer : Result V Refusal) × IsAnswer answer × storing answer status old new

-- The struct has the date, the time and the offset to which a record resolves, each with a status of its own. A part
-- with an error is unchanged.
pub record HasParts (r : Record) (old new : Parts) : Type 0 where
  pub date : IsResultStored (IsStored HasDate) (IsDated greatest_year r) new.date_status old.date new.date
  pub time : IsResultStored (IsStored HasTime) (IsTimed r) new.time_status old.time new.time
  pub offset : IsResultStored (IsStored HasOffset) (IsOffset r) new.offset_status old.offset new.offset

-- Status 0 and the parts of the record; or the error's status, and the struct is unchanged.
abbrev pub ArePartsStored : Storing Record Parts
ArePartsStored (Ok r) status old new = (status ≡ 0) × HasParts r old new
ArePartsStored (Err e) status old new = (status ≡ status_of e) × (new ≡ old)

-- A relation of a format (its path for moments, what it parses and what it rejects), a text, and the text's result: a
-- value of the type V or the error.
abbrev pub Outcomes : Type 0 → Type 1
Outcomes V = Path → Reading → Refusing → List ℕ → Result V Refusal → Type 0

-- The value of the text or its error, without defaults. The format's path for moments is ignored.
abbrev pub over_empty : {V : Type 0} → Resolving V → Outcomes V
over_empty resolves path reads refuses text answer = IsOutcome resolves reads refuses text empty answer

-- The record of the whole text without defaults, or the text's error.
abbrev pub of_record : Outcomes Record
of_record path reads refuses text answer = IsWhole reads refuses text empty answer

-- The moment of the text or its error, without defaults, by the format's own path.
abbrev pub of_moment : Outcomes OffsetDateTime
of_moment path reads refuses text answer = IsMomentOutcome greatest_year path reads refuses text None answer

-- The text's result by the format is stored as by `storing`. An unknown format has the status 8, and nothing is stored.
abbrev pub StoresBy : {V S : Type 0} → Storing V S → Outcomes V → Option Format → List ℕ → ℕ → S → S → Type 0
StoresBy storing outcomes (Some Rfc3339) text status old new =
    IsResultStored storing
    (outcomes (direct (RefusesRfc3339 greatest_year)) (rfc3339.Reads greatest_year) (rfc3339.Refuses greatest_year)
    text)
    status old new
StoresBy storing outcomes (Some Rfc2822) text status old new =
    IsResultStored storing
    (outcomes (direct (RefusesRfc2822 greatest_year)) (rfc2822.Reads greatest_year) (rfc2822.Refuses greatest_year)
    text)
    status old new
StoresBy storing outcomes (Some Iso8601) text status old new =
    IsResultStored storing
    (outcomes over_record (iso8601.Reads greatest_year) (iso8601.Refuses greatest_year) text)
    status old new
StoresBy storing outcomes (Some Rfc3339Strict) text status old new =
    IsResultStored storing
    (outcomes (direct (strict.RefusesDirectly greatest_year)) (strict.Reads greatest_year)
    (strict.Refuses greatest_year) text)
    status old new
StoresBy storing outcomes None text status old new = (status ≡ unknown_format) × (new ≡ old)

-- The parts of the text's value, by `Has`, are stored with status 0; or the error's status, or 8 for an unknown format,
-- and nothing is stored.
abbrev pub StoresValue : {V S : Type 0} → (V → S → Type 0) → Outcomes V → Option Format → List ℕ → ℕ → S → S → Type 0
StoresValue Has outcomes format text status old new = StoresBy (IsStored Has) outcomes format text status old new

-- The nanoseconds of the text's moment are stored with status 0; or the error's status, 7 if they don't fit 64 bits, or
-- 8 for an unknown format, and nothing is stored.
abbrev pub StoresCount : Option Format → List ℕ → ℕ → Nanoseconds → Nanoseconds → Type 0
StoresCount format text status old new = StoresBy IsCountStored of_moment format text status old new

-- The date, time and offset of the text are stored as by `HasParts`, each with a status, and the call's status is 0; or
-- the error's status, or 8 for an unknown format, and nothing is stored.
abbrev pub StoresParts : Option Format → List ℕ → ℕ → Parts → Parts → Type 0
StoresParts format text status old new = StoresBy ArePartsStored of_record format text status old new

-- ---- The formats by their numbers

-- The format with this number, 1 to 4; None for any other number.
abbrev pub format_of : ℕ → Option Format
format_of number =
    if nat_eq number 1 then Some Rfc3339 else
    if nat_eq number 2 then Some Rfc2822 else
    if nat_eq number 3 then Some Iso8601 else
    if nat_eq number 4 then Some Rfc3339Strict else None

-- ---- Moments as text

-- The error of a month's number outside 1 to 12, or None.
abbrev pub month_refusal : ℕ → Option Refusal
month_refusal n = if nat_eq n 0 then Some (range (codes "month") false) else Month.month_refusal n

-- The first error, or the second if there is no first, or None.
abbrev pub first_refusal : Option Refusal → Option Refusal → Option Refusal
first_refusal (Some e) later = Some e
first_refusal None later = later

-- The error of the first part of a date that is out of range, in the order month, year, day; or None.
abbrev pub date_refusal : MomentParts → Option Refusal
date_refusal s = first_refusal (month_refusal s.month) (calendar_date_refusal greatest_year s.year s.month s.day)

-- The error of a date and time: that of the date, or else of its hour, minute, second or nanosecond; or None.
abbrev pub local_refusal : MomentParts → Option Refusal
local_refusal s = first_refusal (date_refusal s) (time_refusal s.hour s.minute s.second s.nanosecond)

-- The error of a moment: that of the date and time, or else of its offset; or None.
abbrev pub moment_refusal : MomentParts → Option Refusal
moment_refusal s = first_refusal (local_refusal s) (whole_offset_refusal s.offset)

-- The date has the year, month and day of these parts.
abbrev pub IsDateOf : MomentParts → Date → Type 0
IsDateOf s d = (s.year ≡ Dates.year d) × (s.month ≡ month_number (Dates.month d)) × (s.day ≡ Dates.day d)

-- The date and time have these parts, all but the offset.
abbrev pub IsLocalOf : MomentParts → PlainDateTime → Type 0
IsLocalOf s p = IsDateOf s (plain_date p) × Times.HasClock s.hour s.minute s.second s.nanosecond (plain_time p)

-- The first component of the moment that a format can't write; None if it can write the moment.
abbrev pub reason_of : Format → OffsetDateTime → Option Unwritable
reason_of Rfc3339 v = unwritable_3339 v
reason_of Rfc2822 v = unwritable_2822 v
reason_of Iso8601 v = unwritable_3339 v
reason_of Rfc3339Strict v = unwritable_3339 v

-- The text of a moment in a format. RFC 3339, strict or not, has the digits of a fraction up to the last that isn't 0,
-- RFC 2822 has none, and ISO 8601 has all nine.
abbrev pub IsTextOf : Format → OffsetDateTime → List ℕ → Type 0
IsTextOf Rfc3339 v bytes = bytes ≡ moment_text (significant 9 (nanosecond (offset_time v))) v
IsTextOf Rfc2822 v bytes = IsMailText v bytes
IsTextOf Iso8601 v bytes = bytes ≡ moment_text 9 v
IsTextOf Rfc3339Strict v bytes = bytes ≡ moment_text (significant 9 (nanosecond (offset_time v))) v

-- The status of a moment that a format can't write, by the component that it can't write.
abbrev pub unwritable_status : Unwritable → ℕ
unwritable_status Year = 18 + 256 * component_number (codes "year")
unwritable_status OffsetHour = 18 + 256 * component_number (codes "offset hour")
unwritable_status OffsetSecond = 18 + 256 * component_number (codes "offset second")

-- Status 0, the text over the start of the buffer, truncated to the buffer's length, and the length of the whole text;
-- or the status of the part that the format can't write, and buffer and count are unchanged.
abbrev pub StoresTextOf : Format → Option Unwritable → OffsetDateTime → ℕ → List ℕ → List ℕ → ℕ → ℕ → Type 0
StoresTextOf format None v status buffer new_buffer count new_count =
    (bytes : List ℕ) × IsTextOf format v bytes × (status ≡ 0) × (new_buffer ≡ laid_over bytes buffer)
    × (new_count ≡ length bytes)
StoresTextOf format (Some why) v status buffer new_buffer count new_count =
    (status ≡ unwritable_status why) × (new_buffer ≡ buffer) × (new_count ≡ count)

-- The text of the moment with these parts is stored, or not, as by `StoresTextOf`; or the status of the first part that
-- is out of range, and buffer and count are unchanged.
abbrev pub StoresMomentText : Format → Option Refusal → MomentParts → ℕ → List ℕ → List ℕ → ℕ → ℕ → Type 0
StoresMomentText format None s status buffer new_buffer count new_count =
    (v : OffsetDateTime) × HasMoment v s
    × StoresTextOf format (reason_of format v) v status buffer new_buffer count new_count
StoresMomentText format (Some e) s status buffer new_buffer count new_count =
    (status ≡ status_of e) × (new_buffer ≡ buffer) × (new_count ≡ count)

-- The text of the moment with these parts in the format is stored, as by `StoresMomentText`. An unknown format has the
-- status 8, and buffer and count are unchanged.
abbrev pub StoresText : Option Format → MomentParts → ℕ → List ℕ → List ℕ → ℕ → ℕ → Type 0
StoresText (Some format) s status buffer new_buffer count new_count =
    StoresMomentText format (moment_refusal s) s status buffer new_buffer count new_count
StoresText None s status buffer new_buffer count new_count =
    (status ≡ unknown_format) × (new_buffer ≡ buffer) × (new_count ≡ count)
