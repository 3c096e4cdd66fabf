-- The date of ISO 8601: its three forms and their errors.
use Rattle.std.specs.Prelude.{◌≡◌, ◌≢◌, ◌+◌, ◌*◌, ℕ, ℤ, pos, List, codes, Bool, true, false, Option, Some, None, option_map, Result, Ok, Err}
use Rattle.time_values.specs.Refusal.{Refusal, literal, component}
use Rattle.time_values.specs.declared.month.Month.{Month}
use Rattle.time_values.specs.declared.weekday.Weekday.{Weekday}
use Rattle.time_readers.specs.declared.iso8601.ExtendedKind.{ExtendedKind}
use Rattle.time_readers.specs.declared.iso8601.ExtendedKind.TheVariants.{Basic, Extended}
use Rattle.time_readers.specs.declared.iso8601.DateNumbers.{DateNumbers}
use Rattle.time_readers.specs.declared.iso8601.DateNumbers.TheVariants as numbers
use Rattle.time_readers.specs.declared.iso8601.fast.CalendarDigits.{CalendarDigits}
use Rattle.time_readers.specs.IsoPieces.{Found, year, month, months, numbered, weekday, positive, byte}

-- a date: year, month and day; or year and day of the year; or ISO year, week and weekday
pub data IsoDate : Type 0 where
  calendar : ℤ → Month → ℕ → IsoDate
  ordinal : ℤ → ℕ → IsoDate
  week : ℤ → ℕ → Weekday → IsoDate

-- the bytes after a form and its date, or its error
abbrev pub FormOrFault : Type 0
FormOrFault = Result (List ℕ × IsoDate) Refusal

-- the function's result for the part, or the error if the part is missing
abbrev pub need : {A B : Type 0} → Option A → Refusal → (A → Result B Refusal) → Result B Refusal
need None e f = Err e
need (Some a) e f = f a

-- the bytes after a `-` in an extended text, or nothing if it is missing; in a basic text, all bytes unchanged
abbrev pub dash : Bool → List ℕ → Option (List ℕ)
dash true bytes = byte 45 bytes
dash false bytes = Some bytes

-- a month and a day in the year y, with a `-` between them if extended; or the error of the first piece that is missing
abbrev pub first_form : Bool → ℤ → List ℕ → FormOrFault
first_form extended y bytes =
    need (month bytes) (component (codes "month")) (λ m.
    need (dash extended m.0) literal (λ after.
    need (positive 2 after) (component (codes "day")) (λ d.
    Ok (d.0, calendar y m.1 d.1))))

-- a day of the year y, as three digits that aren't all 0; or nothing if the bytes don't begin with such digits
abbrev pub second_form : ℤ → List ℕ → Option (List ℕ × IsoDate)
second_form y bytes = option_map (λ d. (d.0, ordinal y d.1)) (positive 3 bytes)

-- a week and a weekday in the year y, after the `W`, with a `-` between them if extended; or the error of the first
-- piece that is missing
abbrev pub third_form : Bool → ℤ → List ℕ → FormOrFault
third_form extended y bytes =
    need (positive 2 bytes) (component (codes "week")) (λ w.
    need (dash extended w.0) literal (λ after.
    need (weekday after) (component (codes "weekday")) (λ d.
    Ok (d.0, week y w.1 d.1))))

-- the first form that matches; if no form does, the error of the third after a `W`, and else of the first
abbrev pub first_standing : FormOrFault → Option (List ℕ × IsoDate) → Option FormOrFault → FormOrFault
first_standing (Ok a) second third = Ok a
first_standing (Err e) (Some a) third = Ok a
first_standing (Err e) None (Some third) = third
first_standing (Err e) None None = Err e

-- the form of a date after its year y and, if extended, the `-` after the year; or the error
unfoldable pub forms : Bool → ℤ → List ℕ → FormOrFault
forms extended y bytes =
    first_standing (first_form extended y bytes) (second_form y bytes)
    (option_map (third_form extended y) (byte 87 bytes))

-- the date with its kind, or the error unchanged
abbrev pub of_kind : ExtendedKind → FormOrFault → Result (Found IsoDate) Refusal
of_kind kind (Err e) = Err e
of_kind kind (Ok f) = Ok (record { rest = f.0; value = f.1; kind = kind })

-- The date after its year y: a `-` makes the kind extended, and else it is basic. The last parameter is the bytes after
-- the `-`, or nothing without one.
abbrev pub after_year : ℤ → List ℕ → Option (List ℕ) → Result (Found IsoDate) Refusal
after_year y bytes None = of_kind Basic (forms false y bytes)
after_year y bytes (Some after) = of_kind Extended (forms true y after)

-- the date at the front of the bytes, or its error
unfoldable pub date_text : List ℕ → Result (Found IsoDate) Refusal
date_text bytes = need (year bytes) (component (codes "year")) (λ y. after_year y.1 y.0 (byte 45 y.0))

-- the date with a parser's numbers, unchanged: its form (calendar, ordinal or week) is that of the numbers
abbrev pub iso_date : DateNumbers → IsoDate
iso_date (numbers.Calendar y m d) = calendar y m d.value
iso_date (numbers.Ordinal y d) = ordinal y d.value
iso_date (numbers.Week y w d) = week y w.value d

-- the text begins with the date of these digits, if their month is 1 to 12 and their day isn't 0
abbrev pub AreCalendarDigits : List ℕ → CalendarDigits → Type 0
AreCalendarDigits text d =
    (m : Month) → numbered months d.month ≡ Some m → d.day ≢ 0
    → date_text text ≡ Ok (record {
      rest = d.rest.now;
      value = calendar (pos (d.century * 100 + d.in_century)) m d.day;
      kind = d.kind;
    })
