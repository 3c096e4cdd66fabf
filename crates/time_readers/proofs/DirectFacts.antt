-- Known texts on the direct paths, so that a wrong rule in the specs does not check.
use Rattle.std.proofs.Common.{◌≡◌, ℕ, ◌+◌, ℤ, pos, neg_ℤ, List, [], ◌++◌, codes, None, true, false, inl, inr, refl, sym, ap, subst, ◌∙◌, arith, rules}
use Rattle.std.proofs.lemmas.Int.{ints}
use Rattle.time_values.specs.Calendar.{greatest_year, month_length}
use Rattle.time_values.specs.Dates as Dates
use Rattle.time_values.specs.Instants.{clock_nanos, nanos_per_day, IsLeapSecondMoment}
use Rattle.time_values.specs.Moments.{offset_date, offset_time, offset_of, offset_instant}
use Rattle.time_values.specs.Names.{month_number}
use Rattle.time_values.specs.Refusal.{Refusal, literal, component, trailing, range}
use Rattle.time_values.specs.Times.{HasClock, nanos_of_day}
use Rattle.time_values.specs.declared.offset_date_time.OffsetDateTime.{OffsetDateTime}
use Rattle.time_values.proofs.InstantLemmas.{instant_is, same_moment}
use Rattle.time_digits.specs.Digits.{IsDigitRun}
use Rattle.time_readers.specs.Rfc2822 as rfc2822
use Rattle.time_readers.specs.Rfc3339 as rfc3339
use Rattle.time_readers.specs.declared.rfc3339.Numbers.{Numbers}
use Rattle.time_readers.specs.declared.rfc3339.Place.TheVariants.{Month}
use Rattle.time_readers.specs.Direct.{minute_refusal, rfc3339_numbers, rfc2822_numbers, moment_second, moment_nanosecond, IsMoment, IsLeapSecondValid}
use Rattle.time_readers.specs.Direct.{IsDirectRfc3339, RefusesRfc3339, RefusesRfc2822}
use Rattle.time_readers.specs.declared.rfc2822.Place.TheVariants.{WeekdayName}
use Rattle.time_readers.proofs.OneMailDate.{MailAsks-unique}
use Rattle.time_readers.proofs.Repeats.{PlaceSyntax-unique, one_form}
use Rattle.time_readers.proofs.Walking.{one_direct}
use Rattle.time_readers.proofs.TimestampFacts as timestamp
use Rattle.time_readers.proofs.TimestampFacts.{◌next◌, done, form_of}
use Rattle.time_readers.proofs.MailDateFacts as mail

-- ---- RFC 3339: forms first, then the rest, then ranges

pub month_after_the_rest : RefusesRfc3339 greatest_year (codes "2021-13-01T00:00:00Zx") trailing
month_after_the_rest = inr (codes "x", (timestamp.midnight 13 1, timestamp.month_13_has_the_form (codes "x"), refl))

pub month_after_the_forms : RefusesRfc3339 greatest_year (codes "2021-13-01T00:00:00Z") (range (codes "month") false)
month_after_the_forms = inr ([], (timestamp.midnight 13 1, timestamp.month_13_has_the_form [], inl refl))

-- the range of the offset's minute is checked at its place
pub offset_minute_before_the_rest : RefusesRfc3339 greatest_year (codes "2021-01-02T03:04:05+05:60x") (range (codes "minutes") false)
offset_minute_before_the_rest = inr (codes "x", (timestamp.past_range, timestamp.minute_60_has_the_form (codes "x"), refl))

pub month_00_is_an_error_of_form : RefusesRfc3339 greatest_year (codes "2021-00-01T00:00:00Z") (component (codes "month"))
month_00_is_an_error_of_form = inl (Month, timestamp.month_00, refl)

pub moment_of_a_text : (v : OffsetDateTime) → IsMoment (rfc3339_numbers (record timestamp.front { is_utc = true })) v
    → IsDirectRfc3339 greatest_year (codes "2021-01-02T03:04:05Z") v
unfolding IsLeapSecondValid
moment_of_a_text v moment = (
  record timestamp.front { is_utc = true },
  timestamp.whole false _ _ _ (timestamp.utc false timestamp.front []),
  refl,
  (refl, moment, λ leap. absurd (omega arith)),
)

pub leap_second_is_the_nanosecond_before : (n : Numbers) → n ≡ record timestamp.front { second = 60 }
    → (moment_second (rfc3339_numbers n) ≡ 59) × (moment_nanosecond (rfc3339_numbers n) ≡ 999_999_999)
leap_second_is_the_nanosecond_before n is =
    (ap (λ m. moment_second (rfc3339_numbers m)) is, ap (λ m. moment_nanosecond (rfc3339_numbers m)) is)

pub minus_of_offset_hour_0 :
    (rfc3339_numbers (record timestamp.front { offset_is_negative = true; offset_minute = 30 })).offset_minute ≡ neg_ℤ (pos 30)
minus_of_offset_hour_0 = refl

one_error : (bytes : List ℕ) (e f : Refusal) → RefusesRfc3339 greatest_year bytes e → RefusesRfc3339 greatest_year bytes f → e ≡ f
one_error bytes e f p q =
    let form = one_form (rfc3339.PlaceSyntax false) (PlaceSyntax-unique false) rfc3339.places rfc3339.nothing_read in
    let direct = one_direct (rfc3339.PlaceSyntax false) rfc3339.places rfc3339.nothing_read rfc3339.fault minute_refusal rfc3339_numbers form in
    direct.one_refusal bytes e f p q

pub month_13_is_not_checked_before_the_rest : RefusesRfc3339 greatest_year (codes "2021-13-01T00:00:00Zx") (range (codes "month") false) → ⊥
month_13_is_not_checked_before_the_rest p =
    let same : trailing ≡ range (codes "month") false = one_error _ _ _ month_after_the_rest p in
    cc

pub month_13_is_no_error_of_form : RefusesRfc3339 greatest_year (codes "2021-13-01T00:00:00Z") (component (codes "month")) → ⊥
month_13_is_no_error_of_form p =
    let same : range (codes "month") false ≡ component (codes "month") = one_error _ _ _ month_after_the_forms p in
    cc

pub rest_is_not_checked_before_the_offset_minute : RefusesRfc3339 greatest_year (codes "2021-01-02T03:04:05+05:60x") trailing → ⊥
rest_is_not_checked_before_the_offset_minute p =
    let same : range (codes "minutes") false ≡ trailing = one_error _ _ _ offset_minute_before_the_rest p in
    cc

-- ---- A second of 60

-- the numbers of a text with a second of 60, on 1990-12-31 in UTC
abbrev pub sixtieth : ℕ → Numbers
sixtieth h = record (timestamp.at_clock (timestamp.dated 1990 12 31) h 59 60) { is_utc = true }

sixtieth_form : (hour : List ℕ) (h : ℕ) → IsDigitRun 2 2 hour (codes ":59:60Z") h
    → rfc3339.HasForm false (codes "1990-12-31T" ++ (hour ++ codes ":59:60Z")) [] (sixtieth h)
sixtieth_form hour h run = form_of (
    (codes "1990", refl, (1990, search rules, refl)) next
    (codes "-", refl, (refl, refl)) next
    (codes "12", refl, (12, search rules, (λ e. omega arith), refl)) next
    (codes "-", refl, (refl, refl)) next
    (codes "31", refl, (31, search rules, refl)) next
    (codes "T", refl, (refl, refl)) next
    (hour, refl, (h, (run, tt), refl)) next
    (codes ":", refl, (refl, refl)) next
    (codes "59", refl, (59, search rules, refl)) next
    (codes ":", refl, (refl, refl)) next
    (codes "60", refl, (60, search rules, refl)) next
    ([], refl, (None, (refl, λ e. omega arith), refl)) next
    (codes "Z", refl, inl ((90, refl, refl), refl)) next
    ([], refl, (refl, refl)) next
    ([], refl, (refl, refl)) next done)

last_of_december : (y : ℤ) (m d : ℕ) → m ≡ 12 → d ≡ 31 → d ≡ month_length y m
last_of_december y m d december last = last ∙ sym (ap (month_length y) december)

module _ (v : OffsetDateTime) where
  -- the instant of a moment in UTC
  instant_in_utc : (h : ℕ) → IsMoment (rfc3339_numbers (sixtieth h)) v
      → clock_nanos greatest_year (offset_date v) (offset_time v) ≡ offset_instant greatest_year v
  instant_in_utc h moment =
      omega (arith, ints, moment.offset.0, moment.offset.1, moment.offset.2, instant_is (offset_date v) (offset_time v) (offset_of v))

  -- a text of section 5.8 of the RFC: the last second of a month in UTC
  pub leap_second_of_the_standard : IsMoment (rfc3339_numbers (sixtieth 23)) v → IsDirectRfc3339 greatest_year (codes "1990-12-31T23:59:60Z") v
  unfolding IsLeapSecondValid
  leap_second_of_the_standard moment =
      let clock : HasClock 23 59 59 999_999_999 (offset_time v) = moment.clock in
      let last : nanos_of_day (offset_time v) + 1 ≡ nanos_per_day = omega (arith, clock.0, clock.1, clock.2, clock.3) in
      let date = offset_date v in
      let end = last_of_december (Dates.year date) (month_number (Dates.month date)) (Dates.day date) moment.date.month moment.date.day in (
        sixtieth 23,
        sixtieth_form (codes "23") 23 (search rules),
        refl,
        (refl, moment, λ leap. (date, offset_time v, instant_in_utc 23 moment, (last, end), date.year_in)),
      )

  -- at 15:59 no month ends in UTC
  not_at_16 : IsMoment (rfc3339_numbers (sixtieth 15)) v → IsLeapSecondMoment greatest_year (offset_instant greatest_year v) → ⊥
  not_at_16 moment (date, time, shown, leap, within) =
      let clock : HasClock 15 59 59 999_999_999 (offset_time v) = moment.clock in
      let same = same_moment date (offset_date v) time (offset_time v) (shown ∙ sym (instant_in_utc 15 moment)) in
      let last : nanos_of_day (offset_time v) + 1 ≡ nanos_per_day = subst (λ t. nanos_of_day t + 1 ≡ nanos_per_day) same.1 leap.0 in
      omega (arith, last, clock.0, clock.1, clock.2, clock.3)

  pub second_60_within_a_month : IsMoment (rfc3339_numbers (sixtieth 15)) v
      → RefusesRfc3339 greatest_year (codes "1990-12-31T15:59:60Z") (range (codes "second") true)
  unfolding IsLeapSecondValid
  second_60_within_a_month moment =
      inr ([], (sixtieth 15, sixtieth_form (codes "15") 15 (search rules), inr (refl, refl, (v, moment, λ may. not_at_16 moment (may refl)))))

  pub no_moment_of_a_second_60_within_a_month : IsDirectRfc3339 greatest_year (codes "1990-12-31T15:59:60Z") v → ⊥
  unfolding IsLeapSecondValid
  no_moment_of_a_second_60_within_a_month (n, form, last, made) =
      let one = one_form (rfc3339.PlaceSyntax false) (PlaceSyntax-unique false) rfc3339.places rfc3339.nothing_read (codes "1990-12-31T15:59:60Z") in
      let same = one.one_reading [] [] n (sixtieth 15) form (sixtieth_form (codes "15") 15 (search rules)) in
      let there : IsMoment (rfc3339_numbers (sixtieth 15)) v = subst (λ m. IsMoment (rfc3339_numbers m) v) same.1 made.1 in
      let is_60 : n.second ≡ 60 = ap (λ (m : Numbers). m.second) same.1 in
      not_at_16 there (made.2 is_60)

-- ---- RFC 2822

pub rest_after_a_zone : RefusesRfc2822 greatest_year (codes "02 Jan 2021 03:04 Zx") trailing
rest_after_a_zone = inr (codes "x", (mail.front, mail.rest_after_a_zone, refl))

pub hour_after_the_forms : RefusesRfc2822 greatest_year (codes "02 Jan 2021 24:00 GMT") (range (codes "hour") false)
hour_after_the_forms = inr ([], (mail.at_clock (mail.dated 2 2021 true) 24 0 None, mail.hour_24_has_the_form, inl refl))

-- trailing bytes are reported before the hour's range
pub rest_before_the_hour : RefusesRfc2822 greatest_year (codes "02 Jan 2021 24:00 GMTx") trailing
rest_before_the_hour = inr (codes "x", (mail.at_clock (mail.dated 2 2021 true) 24 0 None, mail.rest_after_hour_24, refl))

pub missing_comma : RefusesRfc2822 greatest_year (codes "Mon 02 Jan 2021 03:04 +0000") literal
missing_comma = inl (WeekdayName, mail.weekday_without_a_comma false, refl)

one_mail_error : (bytes : List ℕ) (e f : Refusal) → RefusesRfc2822 greatest_year bytes e → RefusesRfc2822 greatest_year bytes f → e ≡ f
one_mail_error bytes e f p q =
    let form = one_form (rfc2822.PlaceSyntax false) (MailAsks-unique false) rfc2822.places rfc2822.nothing_read in
    let direct = one_direct (rfc2822.PlaceSyntax false) rfc2822.places rfc2822.nothing_read rfc2822.fault (λ n. None) rfc2822_numbers form in
    direct.one_refusal bytes e f p q

pub hour_24_is_no_error_of_form : RefusesRfc2822 greatest_year (codes "02 Jan 2021 24:00 GMT") (component (codes "hour")) → ⊥
hour_24_is_no_error_of_form p =
    let same : range (codes "hour") false ≡ component (codes "hour") = one_mail_error _ _ _ hour_after_the_forms p in
    cc

pub hour_24_is_not_checked_before_the_rest : RefusesRfc2822 greatest_year (codes "02 Jan 2021 24:00 GMTx") (range (codes "hour") false) → ⊥
hour_24_is_not_checked_before_the_rest p =
    let same : trailing ≡ range (codes "hour") false = one_mail_error _ _ _ rest_before_the_hour p in
    cc

pub missing_comma_is_no_component : RefusesRfc2822 greatest_year (codes "Mon 02 Jan 2021 03:04 +0000") (component (codes "weekday")) → ⊥
missing_comma_is_no_component p =
    let same : literal ≡ component (codes "weekday") = one_mail_error _ _ _ missing_comma p in
    cc
