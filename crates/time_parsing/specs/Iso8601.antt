-- ISO 8601, parsed over a record. `Y` is the greatest year.
use Rattle.std.specs.Prelude.{◌≡◌, ℕ, pos, List, [], ◌∷◌, codes, Bool, true, false, Option, Some, None, option_map, option_and_then, is_some, Result, Ok, Err}
use Rattle.std.specs.Result.{result_ok}
use Rattle.time_values.specs.Refusal.{Refusal, component}
use Rattle.time_values.specs.Dates as Dates
use Rattle.time_values.specs.Offsets.{HasOffset, IsUtc, offset_refusal}
use Rattle.time_values.specs.Times as Times
use Rattle.time_values.specs.declared.date.Date.{Date}
use Rattle.time_values.specs.declared.offset_date_time.OffsetDateTime.{OffsetDateTime}
use Rattle.time_values.specs.declared.time.Time.{Time}
use Rattle.time_values.specs.declared.utc_offset.UtcOffset.{UtcOffset}
use Rattle.time_readers.specs.IsoPieces.{Found}
use Rattle.time_readers.specs.IsoDates.{IsoDate, calendar, ordinal, week, date_text, need}
use Rattle.time_readers.specs.IsoTimes.{time_text}
use Rattle.time_readers.specs.IsoOffsets.{offset_text}
use Rattle.time_readers.specs.Readers.{ReaderOf, ◌then◌, ◌or◌, optional}
use Rattle.time_readers.specs.declared.iso8601.ExtendedKind.{ExtendedKind}
use Rattle.time_readers.specs.declared.iso8601.ExtendedKind.TheVariants.{Unknown}
use Rattle.time_readers.specs.declared.iso8601.TimeNumbers.{TimeNumbers}
use Rattle.time_readers.specs.declared.iso8601.OffsetNumbers.{OffsetNumbers}
use Rattle.time_readers.specs.declared.iso8601.OffsetNumbers.TheVariants.{Zulu, Numeric}
use Rattle.time_record.specs.Record.{Record, Entry, empty, put, put_all, year_is, iso_year_is, month_is, iso_week_number_is, weekday_is, ordinal_is, day_is, hour_24_is, minute_is, second_is, subsecond_is, offset_hour_is, offset_minute_is, offset_second_is}
use Rattle.time_record.specs.Resolution.{IsConstructed, IsMoment}
use Rattle.time_parsing.specs.Outcome.{Reading, Refusing}
use Rattle.time_parsing.specs.Rfc3339.{without_offset_sign, with_leap_second}

-- the entries of a date by its form, each with the component that the error names if the value is out of range
abbrev pub date_entries : IsoDate → List (Entry × List ℕ)
date_entries (calendar y m d) =
    (year_is y, codes "year") ∷ (month_is m, codes "month") ∷ (day_is d, codes "day") ∷ []
date_entries (ordinal y d) = (year_is y, codes "year") ∷ (ordinal_is d, codes "ordinal") ∷ []
date_entries (week y w d) =
    (iso_year_is y, codes "year") ∷ (iso_week_number_is w, codes "week") ∷ (weekday_is d, codes "weekday") ∷ []

-- the entries of a time: its hour, minute, second and fraction in nanoseconds
abbrev pub time_entries : TimeNumbers → List Entry
time_entries t = hour_24_is t.hour ∷ minute_is t.minute ∷ second_is t.second ∷ subsecond_is t.subsecond ∷ []

-- the entries of an offset: for `Z`, 0 as hour, minute and second; else its hour and minute, and no second
abbrev pub offset_entries : OffsetNumbers → List Entry
offset_entries Zulu = offset_hour_is (pos 0) ∷ offset_minute_is (pos 0) ∷ offset_second_is (pos 0) ∷ []
offset_entries (Numeric hour minute) = offset_hour_is hour ∷ offset_minute_is minute ∷ []

-- the record with the entries stored in turn, or an invalid component with the name beside the first entry whose value
-- is out of range
abbrev pub put_or_fault : ℕ → List (Entry × List ℕ) → Record → Result Record Refusal
put_or_fault Y [] r = Ok r
put_or_fault Y (e ∷ entries) r = need (put Y e.0 r) (component e.1) (put_or_fault Y entries)

-- the result of `f` for the value, or the unchanged error
abbrev pub result_and_then : {A B : Type 0} → (A → Result B Refusal) → Result A Refusal → Result B Refusal
result_and_then f (Err e) = Err e
result_and_then f (Ok a) = f a

-- the part with another value, and with its rest and its kind unchanged
abbrev pub with_value : {V W : Type 0} → Found V → W → Found W
with_value f value = record { rest = f.rest; value = value; kind = f.kind }

-- the record with the date at the start of the bytes, and the rest and the kind after the date; or the error of a text
-- that doesn't match, or of the first number that is out of its range
unfoldable pub date_over : ℕ → List ℕ → Record → Result (Found Record) Refusal
date_over Y bytes r =
    result_and_then (λ d. result_and_then (λ q. Ok (with_value d q)) (put_or_fault Y (date_entries d.value) r))
    (date_text bytes)

-- The record with the time at the start of the bytes, and the rest and the kind after the time. `kind` is the kind
-- before it, and `T` is required if `needs_t`. None if no time matches, or a number is out of its range.
unfoldable pub time_over : ℕ → Bool → ExtendedKind → List ℕ → Record → Option (Found Record)
time_over Y needs_t kind bytes r =
    option_and_then (λ t. option_map (with_value t) (put_all Y (time_entries t.value) r)) (time_text needs_t kind bytes)

-- The record with the offset at the start of the bytes and the flag of a negative offset cleared, even for `-05`; and
-- the rest and the kind after it. `kind` is the kind before it. None if no offset matches, or a number is out of range.
unfoldable pub offset_over : ℕ → ExtendedKind → List ℕ → Record → Option (Found Record)
offset_over Y kind bytes r =
    option_and_then
    (λ o. option_map (with_value o) (put_all Y (offset_entries o.value) (without_offset_sign r)))
    (offset_text kind bytes)

-- The reader of a date. Each part has a reader, from the rest, the record and the kind before the part to those after
-- it, or none. A date ignores the kind before it.
abbrev pub date : ℕ → ReaderOf (Found Record)
date Y f = result_ok (date_over Y f.rest f.value)

-- the reader of a time of the kind so far, whose `T` is required if `needs_t`, and else optional
abbrev pub time : ℕ → Bool → ReaderOf (Found Record)
time Y needs_t f = time_over Y needs_t f.kind f.rest f.value

-- the reader of an offset of the kind so far
abbrev pub offset : ℕ → ReaderOf (Found Record)
offset Y f = offset_over Y f.kind f.rest f.value

-- The reader of a text: a date, which a time with its `T` may follow; or else a time; or else an offset. An offset may
-- follow a time.
abbrev pub parts : ℕ → ReaderOf (Found Record)
parts Y =
    date Y then optional (time Y true then optional (offset Y))
    or time Y false then optional (offset Y)
    or offset Y

-- The rest after the parts at the start of the bytes, and the record with their values and, after an offset, with the
-- flag of a negative offset cleared; none if there is no part. The kind isn't known before the first part.
unfoldable pub reading : ℕ → List ℕ → Record → Option (List ℕ × Record)
reading Y bytes r =
    option_map (λ f. (f.rest, f.value)) (parts Y (record { rest = bytes; value = r; kind = Unknown }))

-- the bytes begin with the parts of a text; by `reading`, they change r, with a leap second allowed, to the new record
abbrev pub Reads : ℕ → Reading
Reads Y bytes r rest new = reading Y bytes (with_leap_second r) ≡ Some (rest, new)

-- there is no part at the start of the bytes, and the error is the date's
abbrev pub Refuses : ℕ → Refusing
Refuses Y bytes r e =
    (reading Y bytes (with_leap_second r) ≡ None) × (date_over Y bytes (with_leap_second r) ≡ Err e)

-- The bytes begin with a text of the moment, and `rest` is the rest. Parsed over an empty record, the text stores a
-- year and the hour of an offset.
abbrev pub ReadsMoment : ℕ → List ℕ → OffsetDateTime → List ℕ → Type 0
ReadsMoment Y bytes v rest =
    (r : Record) × Reads Y bytes empty rest r × IsMoment Y r (Ok v) × (is_some r.year ≡ true)
    × (is_some r.offset_hour ≡ true)

-- ---- The numbers that an ISO 8601 text has for a value, which the contracts of the fast path need

-- the calendar form of a date: its year, month and day
abbrev pub iso_date_of : Date → IsoDate
iso_date_of d = calendar (Dates.year d) (Dates.month d) (Dates.day d)

-- the numbers of a time: its hour, minute, second and nanosecond
abbrev pub time_numbers_of : Time → TimeNumbers
time_numbers_of t = record {
  hour = Times.hour t;
  minute = Times.minute t;
  second = Times.second t;
  subsecond = Times.nanosecond t;
}

-- the offset is UTC for `Z`, and else the offset of this signed hour and minute and 0 seconds, which are in range
abbrev pub IsOffsetOfNumbers : OffsetNumbers → UtcOffset → Type 0
IsOffsetOfNumbers Zulu o = IsUtc o
IsOffsetOfNumbers (Numeric hour minute) o =
    IsConstructed (offset_refusal hour minute (pos 0)) (HasOffset hour minute (pos 0)) (Ok o)
