-- The results of the direct paths of RFC 3339 and RFC 2822: the moment of a text's numbers. `Y` is the greatest year.
use Rattle.std.specs.Prelude.{◌≡◌, ◌⊎◌, ◌==◌, ℕ, pos, nat_le, true, false, if◌then◌else◌, List, [], ◌∷◌, codes, Option, Some, None, Result, MatchResult, unwrap_or}
use Rattle.std.specs.Option.{option_or}
use Rattle.time_values.specs.Dates as Dates
use Rattle.time_values.specs.Dates.{calendar_date_refusal}
use Rattle.time_values.specs.Instants.{IsLeapSecondMoment}
use Rattle.time_values.specs.Moments.{offset_date, offset_time, offset_of, offset_instant}
use Rattle.time_values.specs.Names.{month_number, month_refusal}
use Rattle.time_values.specs.Offsets.{HasOffset, offset_refusal}
use Rattle.time_values.specs.Refusal.{Refusal, trailing, range, refusal_of}
use Rattle.time_values.specs.Sign.{signed_by}
use Rattle.time_values.specs.Times.{HasClock, time_refusal}
use Rattle.time_values.specs.declared.date.Date.{Date}
use Rattle.time_values.specs.declared.error.Parse.{Parse}
use Rattle.time_values.specs.declared.offset_date_time.OffsetDateTime.{OffsetDateTime}
use Rattle.time_digits.specs.Digits.{Form}
use Rattle.time_readers.specs.Rfc2822 as rfc2822
use Rattle.time_readers.specs.Rfc3339 as rfc3339
use Rattle.time_readers.specs.declared.direct.MomentNumbers.{MomentNumbers}
use Rattle.time_readers.specs.declared.rfc2822.Numbers as mail
use Rattle.time_readers.specs.declared.rfc3339.Numbers.{Numbers}

-- the second of the moment: 59 if the text's second is 60
abbrev pub moment_second : MomentNumbers → ℕ
moment_second s = if s.second == 60 then 59 else s.second

-- the nanosecond of the moment: 999999999 if the text's second is 60, whatever its fraction
abbrev pub moment_nanosecond : MomentNumbers → ℕ
moment_nanosecond s = if s.second == 60 then 999_999_999 else s.nanosecond

-- The error of the month's number, or else of the year, or else of the day; or nothing if the calendar has the date. A
-- month of 0, which neither format's form allows, has no error of its own and counts as a month of 31 days.
abbrev pub date_refusal : ℕ → MomentNumbers → Option Refusal
date_refusal Y s = option_or (month_refusal s.month) (calendar_date_refusal Y (pos s.year) s.month s.day)

-- The error of the first number that is out of its range, in the order month, year, day, hour, minute, second,
-- nanosecond, hour of the offset and minute of the offset; or nothing if each is in its range. A second of 60 is in
-- range, with any nanosecond.
abbrev pub first_refusal : ℕ → MomentNumbers → Option Refusal
first_refusal Y s =
    option_or (date_refusal Y s)
    (option_or (time_refusal s.hour s.minute (moment_second s) (moment_nanosecond s))
    (offset_refusal s.offset_hour s.offset_minute (pos 0)))

-- the date has the year, month and day of the numbers
pub record HasDate (s : MomentNumbers) (d : Date) : Type 0 where
  pub year : Dates.year d ≡ pos s.year
  pub month : month_number (Dates.month d) ≡ s.month
  pub day : Dates.day d ≡ s.day

-- the moment has the date, time and offset of the numbers
pub record IsMoment (s : MomentNumbers) (v : OffsetDateTime) : Type 0 where
  pub date : HasDate s (offset_date v)
  pub clock : HasClock s.hour s.minute (moment_second s) (moment_nanosecond s) (offset_time v)
  pub offset : HasOffset s.offset_hour s.offset_minute (pos 0) (offset_of v)

-- if the second is 60, the moment (at 59.999999999) is the last nanosecond of a month in UTC, in a year from -Y to Y
unfoldable pub IsLeapSecondValid : ℕ → MomentNumbers → OffsetDateTime → Type 0
IsLeapSecondValid Y s v = s.second ≡ 60 → IsLeapSecondMoment Y (offset_instant Y v)

-- each number is in its range, the moment is that of the numbers, and a second of 60 is the last of a month in UTC
abbrev pub IsMade : ℕ → MomentNumbers → OffsetDateTime → Type 0
IsMade Y s v = (first_refusal Y s ≡ None) × IsMoment s v × IsLeapSecondValid Y s v

-- the first range error of the numbers; or else, if a second of 60 ends no month in UTC, a conditional one of `second`
abbrev pub IsNotMade : ℕ → MomentNumbers → Refusal → Type 0
IsNotMade Y s e =
    (first_refusal Y s ≡ Some e)
    ⊎ ((first_refusal Y s ≡ None) × (e ≡ range (codes "second") true)
    × ((v : OffsetDateTime) × IsMoment s v × (¬ IsLeapSecondValid Y s v)))

-- The error if each place matches its syntax: that of the last place's range, or else of trailing bytes, or else of the
-- moment's numbers (`IsNotMade`).
abbrev pub IsRefusedAfter : ℕ → Option Refusal → MomentNumbers → List ℕ → Refusal → Type 0
IsRefusedAfter Y (Some r) s rest e = e ≡ r
IsRefusedAfter Y None s [] e = IsNotMade Y s e
IsRefusedAfter Y None s (c ∷ rest) e = e ≡ trailing

-- The moment of a whole text: the text has the form with some numbers, `last` finds no error in them, and `says` maps
-- them to the moment's numbers, which are in range and make that moment (`IsMade`).
abbrev pub IsDirect : {N : Type 0} → Form N → (N → Option Refusal) → (N → MomentNumbers) → ℕ → List ℕ
    → OffsetDateTime → Type 0
IsDirect {N} form last says Y bytes v = (n : N) × form bytes [] n × (last n ≡ None) × IsMade Y (says n) v

-- the error of a text: `fault` of the place at which it fails; or, if a prefix of it has the form, the first error of
-- `last`, of remaining bytes, and of the moment's numbers that `says` returns
abbrev pub RefusesDirectly : {P N : Type 0} → Form N → (List ℕ → P → Type 0) → (P → Refusal) → (N → Option Refusal)
    → (N → MomentNumbers) → ℕ → List ℕ → Refusal → Type 0
RefusesDirectly {P} {N} form fails fault last says Y bytes e =
    ((p : P) × fails bytes p × (e ≡ fault p))
    ⊎ ((rest : List ℕ) × ((n : N) × form bytes rest n × IsRefusedAfter Y (last n) (says n) rest e))

-- The error of an offset's minute above 59, which the direct path of RFC 3339 reports for its last place. Nothing for a
-- minute up to 59.
abbrev pub minute_refusal : Numbers → Option Refusal
minute_refusal n = if nat_le n.offset_minute 59 then None else Some (range (codes "minutes") false)

-- the moment's numbers from those of RFC 3339: a missing fraction is 0, and the hour and minute of the offset have its
-- sign
abbrev pub rfc3339_numbers : Numbers → MomentNumbers
rfc3339_numbers n = record {
  year = n.year;
  month = n.month;
  day = n.day;
  hour = n.hour;
  minute = n.minute;
  second = n.second;
  nanosecond = unwrap_or n.subsecond 0;
  offset_hour = signed_by n.offset_is_negative (pos n.offset_hour);
  offset_minute = signed_by n.offset_is_negative (pos n.offset_minute);
}

-- the moment's numbers from those of a mail date: a missing second is 0, the nanosecond is 0, and the weekday is
-- dropped
abbrev pub rfc2822_numbers : mail.Numbers → MomentNumbers
rfc2822_numbers n = record {
  year = n.year;
  month = month_number n.month;
  day = n.day;
  hour = n.hour;
  minute = n.minute;
  second = unwrap_or n.second 0;
  nanosecond = 0;
  offset_hour = n.offset_hour;
  offset_minute = n.offset_minute;
}

-- the moment of a whole text of RFC 3339, parsed directly, without a record; the first parameter is the greatest year
abbrev pub IsDirectRfc3339 : ℕ → List ℕ → OffsetDateTime → Type 0
IsDirectRfc3339 = IsDirect (rfc3339.HasForm false) minute_refusal rfc3339_numbers

-- the error of a text that the direct path of RFC 3339 rejects; the first parameter is the greatest year
abbrev pub RefusesRfc3339 : ℕ → List ℕ → Refusal → Type 0
RefusesRfc3339 =
    RefusesDirectly (rfc3339.HasForm false) (rfc3339.FailsAt false) rfc3339.fault minute_refusal rfc3339_numbers

-- the result of the direct path of RFC 3339: the moment of the whole text, or the error; `Y` is the greatest year
abbrev pub DirectRfc3339 : ℕ → List ℕ → Result OffsetDateTime Parse → Type 0
DirectRfc3339 Y bytes result =
    MatchResult result (λ v. IsDirectRfc3339 Y bytes v) (λ e. RefusesRfc3339 Y bytes (refusal_of e))

-- the moment of a whole RFC 2822 mail date, parsed directly, without a record; the first parameter is the greatest year
abbrev pub IsDirectRfc2822 : ℕ → List ℕ → OffsetDateTime → Type 0
IsDirectRfc2822 = IsDirect (rfc2822.HasForm false) (λ n. None) rfc2822_numbers

-- the error of a text that the direct path of RFC 2822 rejects; the first parameter is the greatest year
abbrev pub RefusesRfc2822 : ℕ → List ℕ → Refusal → Type 0
RefusesRfc2822 =
    RefusesDirectly (rfc2822.HasForm false) (rfc2822.FailsAt false) rfc2822.fault (λ n. None) rfc2822_numbers

-- the result of the direct path of RFC 2822: the moment of the whole text, or the error; `Y` is the greatest year
abbrev pub DirectRfc2822 : ℕ → List ℕ → Result OffsetDateTime Parse → Type 0
DirectRfc2822 Y bytes result =
    MatchResult result (λ v. IsDirectRfc2822 Y bytes v) (λ e. RefusesRfc2822 Y bytes (refusal_of e))
