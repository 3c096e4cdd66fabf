-- Worked values of RFC 3339 and RFC 2822, parsed over records, so that a wrong rule in the specs does not check. They
-- follow from the definitions, without any code.
use Rattle.std.proofs.Common.{◌≡◌, ◌≢◌, ◌≤◌, ◌<◌, ◌^◌, ℕ, List, [], ◌∷◌, ◌++◌, length, pos, neg_ℤ, unsigned_abs, true, false, Some, None, codes, refl, sym, ap, inl, arith}
use Rattle.time_values.specs.Calendar.{greatest_year}
use Rattle.time_values.specs.Refusal.{component, literal, range}
use Rattle.time_values.specs.DisplayTexts.{fixed}
use Rattle.time_values.specs.Sign.{signed_by}
use Rattle.time_values.specs.declared.month.Month.TheVariants.{January, April, November}
use Rattle.time_values.specs.declared.weekday.Weekday.TheVariants.{Monday, Saturday}
use Rattle.time_digits.specs.Digits.{IsDigitRun, is_negative}
use Rattle.time_digits.specs.declared.Sign.{Sign}
use Rattle.time_digits.specs.declared.Sign.TheVariants.{Negative, Positive}
use Rattle.time_digits.proofs.Runs.{IsDigitRun-unique}
use Rattle.time_readers.specs.IsoPieces.{digits, month, weekday, year}
use Rattle.time_readers.specs.Readers.{MatchesPlaces}
use Rattle.time_readers.specs.Rfc2822 as mail
use Rattle.time_readers.specs.Rfc3339.{PlaceSyntax, HasForm, InRanges, IsSubsecond, nothing_read, offset_places, time_places}
use Rattle.time_readers.specs.declared.rfc2822.Numbers.{Numbers as MailNumbers}
use Rattle.time_readers.specs.declared.rfc2822.Place.TheVariants as mail_place
use Rattle.time_readers.specs.declared.rfc3339.Numbers.{Numbers}
use Rattle.time_readers.specs.declared.rfc3339.Place.TheVariants.{Year, YearDash, Month, MonthDash, Day}
use Rattle.time_readers.proofs.MailDateFacts as mail_facts
use Rattle.time_readers.proofs.OpenComments.{opt_cfws-short, opt_cfws-one}
use Rattle.time_readers.proofs.RangedForms.{ranged_forms}
use Rattle.time_readers.proofs.RangedMail.{ranged_mail}
use Rattle.time_record.specs.Record.{Record, empty}
use Rattle.time_parsing.specs.Rfc2822 as Rfc2822
use Rattle.time_parsing.specs.Rfc3339.{Reads, Refuses}
use Rattle.time_parsing.specs.exact.Laws.{rfc2822_exact, rfc3339_exact}
use Rattle.time_parsing.proofs.MailForm.{mail_bytes, mail_form, mail_numbers}
use Rattle.time_parsing.proofs.WrittenBack.{MatchesPlaces-none, MatchesPlaces-text, fixed-run, numeric, numeric-stands, written_form, zulu, zulu-stands}

abbrev Y : ℕ
Y = greatest_year

-- ---- RFC 3339

-- a text of section 5.8 of the RFC, and its numbers
abbrev pub example : List ℕ
example = codes "1985-04-12T23:20:50.52Z"

abbrev pub example_numbers : Numbers
example_numbers = zulu 1985 4 12 23 20 50 (Some 520_000_000)

example_subsecond : IsSubsecond (codes ".52") (codes "Z") (Some 520_000_000)
example_subsecond = (
  codes "52",
  refl,
  record {
    digits = ((omega arith, omega arith), ((omega arith, omega arith), tt));
    enough = omega arith;
    ends = λ d. omega (arith, d);
    is = refl;
  },
)

pub example_form : HasForm false example [] example_numbers
unfolding fixed
example_form =
    written_form 1985 4 12 23 20 50 (Some 520_000_000) (codes ".52") (codes "Z") example_numbers example_subsecond
    (zulu-stands 1985 4 12 23 20 50 (Some 520_000_000)) (omega arith, omega arith, omega arith)
    (omega arith) (λ e. omega (arith, e)) (omega arith) (omega arith)

pub no_fraction : (rest : List ℕ) (c : ℕ) → c ≢ 46 → IsSubsecond [] (c ∷ rest) None
no_fraction rest c other = (refl, other)

-- five hours and a half ahead, and half an hour behind UTC
ahead_form : HasForm false (codes "2021-01-02T03:04:05+05:30") [] (numeric 2021 1 2 3 4 5 None Positive 5 30)
unfolding fixed
ahead_form =
    written_form 2021 1 2 3 4 5 None [] (codes "+05:30") (numeric 2021 1 2 3 4 5 None Positive 5 30)
    (no_fraction (codes "05:30") 43 (λ e. omega (arith, e))) (numeric-stands 2021 1 2 3 4 5 None Positive 5 30 (omega arith) (omega arith))
    (omega arith, omega arith, omega arith) (omega arith) (λ e. omega (arith, e)) (omega arith) (omega arith)

behind_form : HasForm false (codes "2021-01-02T03:04:05-00:30") [] (numeric 2021 1 2 3 4 5 None Negative 0 30)
unfolding fixed
behind_form =
    written_form 2021 1 2 3 4 5 None [] (codes "-00:30") (numeric 2021 1 2 3 4 5 None Negative 0 30)
    (no_fraction (codes "00:30") 45 (λ e. omega (arith, e))) (numeric-stands 2021 1 2 3 4 5 None Negative 0 30 (omega arith) (omega arith))
    (omega arith, omega arith, omega arith) (omega arith) (λ e. omega (arith, e)) (omega arith) (omega arith)

-- their numbers are in range
in_ranges_2021 : (sign : Sign) (hour minute : ℕ) → minute ≤ 59 → InRanges (numeric 2021 1 2 3 4 5 None sign hour minute)
in_ranges_2021 sign hour minute small = record {
  month = (omega arith, omega arith);
  day = (omega arith, omega arith);
  hour = (omega arith, omega arith);
  minute = (omega arith, omega arith);
  second = (omega arith, omega arith);
  offset_minute = (omega arith, small);
}

module _ (r : Record) where
  abbrev pub after_example : Record
  after_example = record r {
    year = Some (pos 1985);
    month = Some April;
    day = Some 12;
    hour_24 = Some 23;
    minute = Some 20;
    second = Some 50;
    subsecond = Some 520_000_000;
    offset_hour = Some (pos 0);
    offset_minute = Some (pos 0);
    offset_second = Some (pos 0);
    offset_is_negative = false;
    leap_second_allowed = true;
  }

  -- `Z` sets all three parts of the offset to 0, and clears its flag
  pub example_is_read : Reads Y example r [] after_example
  example_is_read =
      let ranges : InRanges example_numbers = record {
        month = (omega arith, omega arith);
        day = (omega arith, omega arith);
        hour = (omega arith, omega arith);
        minute = (omega arith, omega arith);
        second = (omega arith, omega arith);
        offset_minute = (omega arith, omega arith);
      } in
      (example_numbers, April, (ranged_forms example [] example_numbers).1 (example_form, ranges), refl, refl)

  abbrev pub after_2021 : Record
  after_2021 = record r {
    year = Some (pos 2021);
    month = Some January;
    day = Some 2;
    hour_24 = Some 3;
    minute = Some 4;
    second = Some 5;
    offset_is_negative = false;
    leap_second_allowed = true;
  }

  -- a numeric offset keeps the second of the offset
  pub offset_ahead_is_read : Reads Y (codes "2021-01-02T03:04:05+05:30") r [] (record after_2021 { offset_hour = Some (pos 5); offset_minute = Some (pos 30) })
  offset_ahead_is_read =
      let ranges = in_ranges_2021 Positive 5 30 (omega arith) in
      let n = numeric 2021 1 2 3 4 5 None Positive 5 30 in
      (n, January, (ranged_forms (codes "2021-01-02T03:04:05+05:30") [] n).1 (ahead_form, ranges), refl, refl)

  -- a minus before the hour 00 applies to the minute
  pub offset_behind_is_read : Reads Y (codes "2021-01-02T03:04:05-00:30") r []
      (record after_2021 { offset_hour = Some (pos 0); offset_minute = Some (neg_ℤ (pos 30)) })
  offset_behind_is_read =
      let ranges = in_ranges_2021 Negative 0 30 (omega arith) in
      let n = numeric 2021 1 2 3 4 5 None Negative 0 30 in
      (n, January, (ranged_forms (codes "2021-01-02T03:04:05-00:30") [] n).1 (behind_form, ranges), refl, refl)

  -- the place of the month requires its range, whatever follows it
  pub month_13_is_refused : (tail : List ℕ) → Refuses Y (codes "2021-13" ++ tail) r (component (codes "month"))
  unfolding fixed
  month_13_is_refused tail =
      let y : Numbers = record nothing_read { year = 2021 } in (
        Month,
        record {
          before = Year ∷ YearDash ∷ [];
          after = MonthDash ∷ Day ∷ (time_places ++ offset_places);
          place = refl;
          mid = codes "13" ++ tail;
          numbers = y;
          stand =
              MatchesPlaces-text (PlaceSyntax true) Year _ nothing_read y _ (codes "2021") _ (codes "13" ++ tail) (2021, fixed-run 4 2021 _ (omega arith), refl)
              (MatchesPlaces-text (PlaceSyntax true) YearDash [] y y _ (codes "-") _ (codes "13" ++ tail) (refl, refl) (MatchesPlaces-none (PlaceSyntax true) y
              (codes "13" ++ tail)));
          stops = λ text after m e asked.
              let is = IsDigitRun-unique 2 2 2 text (codes "13") after tail asked.0 13 asked.1.0 (fixed-run 2 13 tail (omega arith)) (sym e) in
              omega (arith, is.2, asked.1.1.1);
        },
        refl,
      )

  pub no_reading_of_month_13 : (rest : List ℕ) (new : Record) → Reads Y (codes "2021-13-01T00:00:00Z") r rest new → ⊥
  no_reading_of_month_13 rest new h =
      (rfc3339_exact Y).not_both (codes "2021-13-01T00:00:00Z") r rest new (component (codes "month")) h (month_13_is_refused (codes "-01T00:00:00Z"))

  pub no_refusal_of_the_date : Refuses Y (codes "2021-13-01T00:00:00Z") r (range (codes "month") false) → ⊥
  no_refusal_of_the_date h =
      let same : component (codes "month") ≡ range (codes "month") false =
      (rfc3339_exact Y).one_refusal (codes "2021-13-01T00:00:00Z") r _ _ (month_13_is_refused (codes "-01T00:00:00Z")) h in
      cc

  -- no reading of a whole text leaves a byte
  pub no_z_is_left : (new : Record) → Reads Y example r (codes "Z") new → ⊥
  no_z_is_left new h =
      let same = (rfc3339_exact Y).one_rest example r [] (codes "Z") after_example new example_is_read h in
      omega (arith, ap length same)

-- defaults with the flag of a negative offset
abbrev pub behind_five : Record
behind_five = record empty { offset_hour = Some (neg_ℤ (pos 5)); offset_is_negative = true }

pub no_sign_is_kept : Reads Y (codes "2021-01-02T03:04:05+05:30") behind_five []
    (record (after_2021 behind_five) { offset_hour = Some (pos 5); offset_minute = Some (pos 30); offset_is_negative = true }) → ⊥
no_sign_is_kept h =
    let same = (rfc3339_exact Y).one_record (codes "2021-01-02T03:04:05+05:30") behind_five [] [] _ _ (offset_ahead_is_read behind_five) h in
    let flags : false ≡ true = ap (λ (q : Record). q.offset_is_negative) same in
    cc

-- ---- RFC 2822

-- `Mon, 02 Jan 2021 03:04:05`, and an offset
abbrev monday : Sign → ℕ → ℕ → MailNumbers
monday sign hour minute = mail_numbers Monday 2 January 2021 3 4 5 sign hour minute

monday_form : (sign : Sign) (hour minute : ℕ) → hour ≤ 25 → minute < 10 ^ 2
    → mail.HasForm false (mail_bytes Monday 2 January 2021 3 4 5 sign hour minute) [] (monday sign hour minute)
monday_form sign hour minute hours minutes =
    mail_form Monday 2 January 2021 3 4 5 sign hour minute hours minutes (omega arith, omega arith, omega arith) (omega arith) (omega arith)
    (omega arith)

monday_in_ranges : (sign : Sign) (hour minute : ℕ) → unsigned_abs (signed_by (is_negative sign) (pos hour)) ≤ 25
    → unsigned_abs (signed_by (is_negative sign) (pos minute)) ≤ 59 → mail.InRanges (monday sign hour minute)
monday_in_ranges sign hour minute hours minutes = record {
  day = (omega arith, omega arith);
  hour = (omega arith, omega arith);
  minute = (omega arith, omega arith);
  second = (omega arith, omega arith);
  offset_hour = (omega arith, hours);
  offset_minute = (omega arith, minutes);
}

-- the numbers after the name of the weekday, the text of that place, and the digits of a day 0
abbrev named : MailNumbers
named = record mail.nothing_read { weekday = Some Monday }

name_before_day_0 : (tail : List ℕ)
    → MatchesPlaces (mail.PlaceSyntax true) (mail_place.WeekdayName ∷ []) mail.nothing_read (codes "Mon, 00 " ++ tail) (codes "00 " ++ tail) named
name_before_day_0 tail =
    let before = opt_cfws-short (codes "Mon, 00 " ++ tail) (omega arith) in
    let behind = opt_cfws-one (codes " 00 " ++ tail) (omega arith) refl (omega arith) in
    MatchesPlaces-text (mail.PlaceSyntax true) mail_place.WeekdayName [] mail.nothing_read named _ (codes "Mon, ") _ (codes "00 " ++ tail)
    (Some Monday, ([], codes "Mon", codes " ", refl, before, refl, behind), refl) (MatchesPlaces-none (mail.PlaceSyntax true) named (codes "00 " ++ tail))

digits_of_day_0 : (tail : List ℕ) → IsDigitRun 1 2 (codes "00") (codes " " ++ tail) 0
digits_of_day_0 tail = record {
  digits = ((omega arith, omega arith), ((omega arith, omega arith), tt));
  enough = omega arith;
  within = omega arith;
  ends = inl refl;
  is = refl;
}

module _ (r : Record) where
  abbrev after_mail : Record
  after_mail = record r {
    weekday = Some Monday;
    day = Some 2;
    month = Some January;
    year = Some (pos 2021);
    hour_24 = Some 3;
    minute = Some 4;
    second = Some 5;
    offset_is_negative = false;
    leap_second_allowed = true;
  }

  -- the weekday isn't compared with the date, which is a Saturday
  pub mail_date_is_read : Rfc2822.Reads Y (codes "Mon, 02 Jan 2021 03:04:05 +0607") r []
      (record after_mail { offset_hour = Some (pos 6); offset_minute = Some (pos 7) })
  unfolding fixed
  mail_date_is_read =
      let n = monday Positive 6 7 in
      let form = monday_form Positive 6 7 (omega arith) (omega arith) in
      let ranges = monday_in_ranges Positive 6 7 (omega arith) (omega arith) in
      (n, (ranged_mail (codes "Mon, 02 Jan 2021 03:04:05 +0607") [] n).1 (form, ranges), refl)

  -- an offset of -0030 is behind UTC
  pub mail_offset_keeps_its_sign : Rfc2822.Reads Y (codes "Mon, 02 Jan 2021 03:04:05 -0030") r []
      (record after_mail { offset_hour = Some (pos 0); offset_minute = Some (neg_ℤ (pos 30)) })
  unfolding fixed
  mail_offset_keeps_its_sign =
      let n = monday Negative 0 30 in
      let form = monday_form Negative 0 30 (omega arith) (omega arith) in
      let ranges = monday_in_ranges Negative 0 30 (omega arith) (omega arith) in
      (n, (ranged_mail (codes "Mon, 02 Jan 2021 03:04:05 -0030") [] n).1 (form, ranges), refl)

  -- the place of the day requires its range, whatever follows it
  pub day_0_is_refused : (tail : List ℕ) → Rfc2822.Refuses Y (codes "Mon, 00 " ++ tail) r (component (codes "day"))
  day_0_is_refused tail = (
    mail_place.Day,
    record {
      before = mail_place.WeekdayName ∷ [];
      after = mail.to_offset_places ++ mail.offset_places;
      place = refl;
      mid = codes "00 " ++ tail;
      numbers = named;
      stand = name_before_day_0 tail;
      stops = λ text after m e asked.
          let is = IsDigitRun-unique 1 1 2 text (codes "00") after (codes " " ++ tail) asked.0 0 asked.1 (digits_of_day_0 tail) (sym e) in
          omega (arith, is.2, asked.2.0);
    },
    refl,
  )

  pub no_reading_of_day_0 : (rest : List ℕ) (new : Record) → Rfc2822.Reads Y (codes "Mon, 00 Jan 2021 03:04 GMT") r rest new → ⊥
  no_reading_of_day_0 rest new h =
      (rfc2822_exact Y).not_both (codes "Mon, 00 Jan 2021 03:04 GMT") r rest new (component (codes "day")) h (day_0_is_refused (codes "Jan 2021 03:04 GMT"))

  pub no_literal_at_the_day : Rfc2822.Refuses Y (codes "Mon, 00 Jan 2021 03:04 GMT") r literal → ⊥
  no_literal_at_the_day h =
      let same : component (codes "day") ≡ literal =
      (rfc2822_exact Y).one_refusal (codes "Mon, 00 Jan 2021 03:04 GMT") r _ _ (day_0_is_refused (codes "Jan 2021 03:04 GMT")) h in
      cc

-- two digits are a year from 1950 to 2049, and a zone name sets all three parts of the offset
pub obsolete_date_is_read : (r : Record) → Rfc2822.Reads Y (codes "21 Nov 97 09:55:06 GMT") r [] (record r {
  day = Some 21;
  month = Some November;
  year = Some (pos 1997);
  hour_24 = Some 9;
  minute = Some 55;
  second = Some 6;
  offset_hour = Some (pos 0);
  offset_minute = Some (pos 0);
  offset_second = Some (pos 0);
  offset_is_negative = false;
  leap_second_allowed = true;
})
obsolete_date_is_read r = (mail_facts.obsolete, mail_facts.obsolete_date, refl)

-- half an hour behind UTC isn't parsed as ahead of it
pub no_mail_offset_turned : Rfc2822.Reads Y (codes "Mon, 02 Jan 2021 03:04:05 -0030") empty []
    (record (after_mail empty) { offset_hour = Some (pos 0); offset_minute = Some (pos 30) }) → ⊥
no_mail_offset_turned h =
    let same = (rfc2822_exact Y).one_record (codes "Mon, 02 Jan 2021 03:04:05 -0030") empty [] [] _ _ (mail_offset_keeps_its_sign empty) h in
    let turned : Some (neg_ℤ (pos 30)) ≡ Some (pos 30) = ap (λ (q : Record). q.offset_minute) same in
    cc

-- the weekday of the date doesn't replace that of the text
pub no_weekday_of_the_date : Rfc2822.Reads Y (codes "Mon, 02 Jan 2021 03:04:05 -0030") empty []
    (record (after_mail empty) { weekday = Some Saturday; offset_hour = Some (pos 0); offset_minute = Some (neg_ℤ (pos 30)) }) → ⊥
no_weekday_of_the_date h =
    let same = (rfc2822_exact Y).one_record (codes "Mon, 02 Jan 2021 03:04:05 -0030") empty [] [] _ _ (mail_offset_keeps_its_sign empty) h in
    let days : Some Monday ≡ Some Saturday = ap (λ (q : Record). q.weekday) same in
    cc
