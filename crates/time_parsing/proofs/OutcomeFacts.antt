-- Worked values of direct errors, of outcomes and of the canonical text, so that a wrong rule in the specs does not
-- check. They follow from the definitions, without any code.
use Rattle.std.proofs.Common.{◌≡◌, ℕ, [], length, pos, neg_ℤ, true, false, Some, None, Result, Ok, Err, codes, refl, sym, ap, subst, ◌∙◌, inl, inr, arith}
use Rattle.std.proofs.lemmas.Int.{ints}
use Rattle.time_values.specs.Calendar.{greatest_year, days_of_months}
use Rattle.time_values.specs.Dates as Dates
use Rattle.time_values.specs.Dates.{HasParts, ordinal}
use Rattle.time_values.specs.Moments.{offset_date, offset_time, offset_of}
use Rattle.time_values.specs.Names.{month_number}
use Rattle.time_values.specs.Offsets.{HasOffset, minutes, seconds}
use Rattle.time_values.specs.Refusal.{Refusal, component, range, trailing}
use Rattle.time_values.specs.DisplayTexts.{fixed}
use Rattle.time_values.specs.Times.{HasClock}
use Rattle.time_values.specs.declared.date.Date.{Date}
use Rattle.time_values.specs.declared.month.Month.TheVariants.{January, April, December}
use Rattle.time_values.specs.declared.offset_date_time.OffsetDateTime.{OffsetDateTime}
use Rattle.time_values.specs.declared.utc_offset.UtcOffset.{UtcOffset}
use Rattle.time_digits.specs.declared.Sign.TheVariants.{Positive}
use Rattle.time_readers.specs.Direct.{HasDate, IsLeapSecondValid, RefusesRfc3339, rfc3339_numbers}
use Rattle.time_readers.specs.IsoPieces.{month, year}
use Rattle.time_readers.specs.Rfc3339.{PlaceSyntax, HasForm, nothing_read}
use Rattle.time_readers.specs.declared.rfc3339.Numbers.{Numbers}
use Rattle.time_readers.specs.declared.rfc3339.Place.TheVariants.{Year, YearDash, Month, MonthDash, Day, Separator, Hour, HourColon, Minute}
use Rattle.time_readers.specs.declared.rfc3339.Place.TheVariants.{MinuteColon, Second, Subsecond, OffsetHour, OffsetColon, OffsetMinute}
use Rattle.time_record.specs.Record.{Record, empty}
use Rattle.time_record.specs.Resolution.{HasRow, IsDated, IsOffset, by_ordinal}
use Rattle.time_record.proofs.ResolutionLemmas.{IsMoment-one}
use Rattle.time_parsing.specs.Outcome.{IsMomentOutcome, IsOutcome, direct}
use Rattle.time_parsing.specs.Rfc3339.{Reads, Refuses}
use Rattle.time_parsing.specs.Written.{HasCanonicalText, canonical_text}
use Rattle.time_parsing.specs.exact.Laws.{rfc3339_exact, rfc3339_exact_path}
use Rattle.time_parsing.specs.exact.RecordedRfc3339.{direct-value}
use Rattle.time_parsing.proofs.OneOutcome.{one_moment_outcome}
use Rattle.time_parsing.proofs.WrittenBack.{MatchesPlaces-none, MatchesPlaces-text, fixed-run, numeric, numeric-stands, written_form, zulu, zulu-stands}
use Rattle.time_parsing.proofs.StandardFacts.{after_2021, after_example, behind_five, example, example_form, example_is_read, example_numbers}
use Rattle.time_parsing.proofs.StandardFacts.{month_13_is_refused, no_fraction, offset_ahead_is_read}

abbrev Y : ℕ
Y = greatest_year

-- ---- The direct path of RFC 3339

-- two digits match the form of a month
thirteenth_form : HasForm false (codes "2021-13-01T00:00:00Z") [] (zulu 2021 13 1 0 0 0 None)
unfolding fixed
thirteenth_form =
    written_form 2021 13 1 0 0 0 None [] (codes "Z") (zulu 2021 13 1 0 0 0 None) (no_fraction [] 90 (λ e. omega (arith, e)))
    (zulu-stands 2021 13 1 0 0 0 None) (omega arith, omega arith, omega arith) (omega arith) (λ e. omega (arith, e)) (omega arith) (omega arith)

pub month_13_is_out_of_range : RefusesRfc3339 Y (codes "2021-13-01T00:00:00Z") (range (codes "month") false)
month_13_is_out_of_range = inr ([], (zulu 2021 13 1 0 0 0 None, thirteenth_form, inl refl))

-- the form matches, and a byte remains
thirteenth_form_x : HasForm false (codes "2021-13-01T00:00:00Zx") (codes "x") (zulu 2021 13 1 0 0 0 None)
unfolding fixed
thirteenth_form_x =
    let x = codes "x" in
    let y : Numbers = record nothing_read { year = 2021 } in
    let m : Numbers = record y { month = 13 } in
    let d : Numbers = record m { day = 1 } in
    let all : Numbers = record d { is_utc = true } in
    MatchesPlaces-text (PlaceSyntax false) Year _ nothing_read y _ (codes "2021") _ x (2021, fixed-run 4 2021 _ (omega arith), refl)
    (MatchesPlaces-text (PlaceSyntax false) YearDash _ y y _ (codes "-") _ x (refl, refl)
    (MatchesPlaces-text (PlaceSyntax false) Month _ y m _ (codes "13") _ x (13, (fixed-run 2 13 _ (omega arith), tt), (λ e. omega (arith, e)), refl)
    (MatchesPlaces-text (PlaceSyntax false) MonthDash _ m m _ (codes "-") _ x (refl, refl)
    (MatchesPlaces-text (PlaceSyntax false) Day _ m d _ (codes "01") _ x (1, (fixed-run 2 1 _ (omega arith), tt), refl)
    (MatchesPlaces-text (PlaceSyntax false) Separator _ d d _ (codes "T") _ x (refl, refl)
    (MatchesPlaces-text (PlaceSyntax false) Hour _ d d _ (codes "00") _ x (0, (fixed-run 2 0 _ (omega arith), tt), refl)
    (MatchesPlaces-text (PlaceSyntax false) HourColon _ d d _ (codes ":") _ x (refl, refl)
    (MatchesPlaces-text (PlaceSyntax false) Minute _ d d _ (codes "00") _ x (0, (fixed-run 2 0 _ (omega arith), tt), refl)
    (MatchesPlaces-text (PlaceSyntax false) MinuteColon _ d d _ (codes ":") _ x (refl, refl)
    (MatchesPlaces-text (PlaceSyntax false) Second _ d d _ (codes "00") _ x (0, (fixed-run 2 0 _ (omega arith), tt), refl)
    (MatchesPlaces-text (PlaceSyntax false) Subsecond _ d d _ [] _ x (None, no_fraction x 90 (λ e. omega (arith, e)), refl)
    (MatchesPlaces-text (PlaceSyntax false) OffsetHour _ d all _ (codes "Z") _ x (inl ((90, refl, refl), refl))
    (MatchesPlaces-text (PlaceSyntax false) OffsetColon _ all all _ [] _ x (refl, refl)
    (MatchesPlaces-text (PlaceSyntax false) OffsetMinute [] all all _ [] _ x (refl, refl)
    (MatchesPlaces-none (PlaceSyntax false) all x)))))))))))))))

pub byte_that_remains_is_refused_first : RefusesRfc3339 Y (codes "2021-13-01T00:00:00Zx") trailing
byte_that_remains_is_refused_first = inr (codes "x", (zulu 2021 13 1 0 0 0 None, thirteenth_form_x, refl))

-- the error of bytes that remain precedes that of the month's range
pub no_month_before_the_byte : RefusesRfc3339 Y (codes "2021-13-01T00:00:00Zx") (range (codes "month") false) → ⊥
no_month_before_the_byte h =
    let same : trailing ≡ range (codes "month") false = rfc3339_exact_path.0 (codes "2021-13-01T00:00:00Zx") _ _ byte_that_remains_is_refused_first h in
    cc

pub no_fault_of_the_form : RefusesRfc3339 Y (codes "2021-13-01T00:00:00Z") (component (codes "month")) → ⊥
no_fault_of_the_form h =
    let same : range (codes "month") false ≡ component (codes "month") = rfc3339_exact_path.0 (codes "2021-13-01T00:00:00Z") _ _ month_13_is_out_of_range h in
    cc

-- the error of an offset minute's range precedes that of the month's
sixtieth_form : HasForm false (codes "2021-13-01T00:00:00+05:60") [] (numeric 2021 13 1 0 0 0 None Positive 5 60)
unfolding fixed
sixtieth_form =
    written_form 2021 13 1 0 0 0 None [] (codes "+05:60") (numeric 2021 13 1 0 0 0 None Positive 5 60)
    (no_fraction (codes "05:60") 43 (λ e. omega (arith, e))) (numeric-stands 2021 13 1 0 0 0 None Positive 5 60 (omega arith) (omega arith))
    (omega arith, omega arith, omega arith) (omega arith) (λ e. omega (arith, e)) (omega arith) (omega arith)

pub minute_60_of_an_offset_comes_first : RefusesRfc3339 Y (codes "2021-13-01T00:00:00+05:60") (range (codes "minutes") false)
minute_60_of_an_offset_comes_first = inr ([], (numeric 2021 13 1 0 0 0 None Positive 5 60, sixtieth_form, refl))

pub no_month_before_the_minute : RefusesRfc3339 Y (codes "2021-13-01T00:00:00+05:60") (range (codes "month") false) → ⊥
no_month_before_the_minute h =
    let same : range (codes "minutes") false ≡ range (codes "month") false =
    rfc3339_exact_path.0 (codes "2021-13-01T00:00:00+05:60") _ _ minute_60_of_an_offset_comes_first h in
    let names : codes "minutes" ≡ codes "month" = cc in
    omega (arith, ap length names)

-- ---- Outcomes

-- the moment of the example, on the direct path and over a record
module _ (v : OffsetDateTime) (date : HasParts (pos 1985) April 12 (offset_date v)) (clock : HasClock 23 20 50 520_000_000 (offset_time v))
    (offset : HasOffset (pos 0) (pos 0) (pos 0) (offset_of v)) where
  pub example_is_a_moment : IsMomentOutcome Y (direct (RefusesRfc3339 Y)) (Reads Y) (Refuses Y) example None (Ok v)
  unfolding IsLeapSecondValid
  example_is_a_moment =
      let parts : HasDate (rfc3339_numbers example_numbers) (offset_date v) = record { year = date.0; month = ap month_number date.1; day = date.2 } in
      direct-value example v (
        example_numbers,
        example_form,
        refl,
        (
          refl,
          record { date = parts; clock = clock; offset = offset },
          λ e. absurd (omega (arith, e)),
        ),
      )

  pub example_is_not_refused : (e : Refusal) → IsMomentOutcome Y (direct (RefusesRfc3339 Y)) (Reads Y) (Refuses Y) example None (Err e) → ⊥
  example_is_not_refused e h =
      let same : ◌≡◌ {A = Result OffsetDateTime Refusal} (Ok v) (Err e) =
      one_moment_outcome (direct (RefusesRfc3339 Y)) (Reads Y) (Refuses Y) (rfc3339_exact Y) rfc3339_exact_path IsMoment-one example None (Ok v)
      (Err e) example_is_a_moment h in
      cc

-- each path has its own error
pub month_13_directly : IsMomentOutcome Y (direct (RefusesRfc3339 Y)) (Reads Y) (Refuses Y)
    (codes "2021-13-01T00:00:00Z") None (Err (range (codes "month") false))
month_13_directly = month_13_is_out_of_range

pub month_13_over_a_record : IsMomentOutcome Y (direct (RefusesRfc3339 Y)) (Reads Y) (Refuses Y) (codes "2021-13-01T00:00:00Z") (Some empty)
    (Err (component (codes "month")))
month_13_over_a_record = inl (inl (month_13_is_refused empty (codes "-01T00:00:00Z")))

pub month_13_and_a_byte_directly : IsMomentOutcome Y (direct (RefusesRfc3339 Y)) (Reads Y) (Refuses Y) (codes "2021-13-01T00:00:00Zx") None (Err trailing)
month_13_and_a_byte_directly = byte_that_remains_is_refused_first

pub month_13_and_a_byte_over_a_record : IsMomentOutcome Y (direct (RefusesRfc3339 Y)) (Reads Y) (Refuses Y) (codes "2021-13-01T00:00:00Zx")
    (Some empty) (Err (component (codes "month")))
month_13_and_a_byte_over_a_record = inl (inl (month_13_is_refused empty (codes "-01T00:00:00Zx")))

-- an ordinal of the defaults takes precedence over the month and day of the text
abbrev first_day : Record
first_day = record empty { ordinal = Some 1 }

pub ordinal_of_the_defaults_wins : (d : Date) → HasRow Y (by_ordinal (pos 1985) 1) d → IsOutcome (IsDated Y) (Reads Y) (Refuses Y) example first_day (Ok d)
unfolding IsDated
ordinal_of_the_defaults_wins d row = (after_example first_day, example_is_read first_day, row)

pub no_month_and_day_of_the_text : (d : Date) → HasParts (pos 1985) April 12 d → IsOutcome (IsDated Y) (Reads Y) (Refuses Y) example first_day (Ok d) → ⊥
unfolding IsDated days_of_months
no_month_and_day_of_the_text d parts (q, read, dated) =
    let same = (rfc3339_exact Y).one_record example first_day [] [] q (after_example first_day) read (example_is_read first_day) in
    let row = subst (λ (w : Record). IsDated Y w (Ok d)) same dated in
    let later : ordinal d ≡ 102 = simp (parts.0, parts.1, parts.2) in
    omega (arith, sym later ∙ row.1)

-- the flag of the defaults doesn't negate the minute of the text
pub offset_of_the_text : (o : UtcOffset) → HasOffset (pos 5) (pos 30) (pos 0) o
    → IsOutcome IsOffset (Reads Y) (Refuses Y) (codes "2021-01-02T03:04:05+05:30") behind_five (Ok o)
unfolding IsOffset
offset_of_the_text o has = (
  record (after_2021 behind_five) { offset_hour = Some (pos 5); offset_minute = Some (pos 30) },
  offset_ahead_is_read behind_five,
  has,
)

pub no_minute_turned : (o : UtcOffset) → minutes o ≡ neg_ℤ (pos 30)
    → IsOutcome IsOffset (Reads Y) (Refuses Y) (codes "2021-01-02T03:04:05+05:30") behind_five (Ok o) → ⊥
unfolding IsOffset
no_minute_turned o turned (q, read, has) =
    let same = (rfc3339_exact Y).one_record (codes "2021-01-02T03:04:05+05:30") behind_five [] [] q _ read (offset_ahead_is_read behind_five) in
    let offset = subst (λ (w : Record). IsOffset w (Ok o)) same has in
    let signs : pos 30 ≡ neg_ℤ (pos 30) = sym offset.1 ∙ turned in
    cc

-- ---- The canonical text

module _ (v : OffsetDateTime) where
  pub text_of_half_an_hour_behind : HasParts (pos 2021) January 2 (offset_date v) → HasClock 3 4 5 500_000_000 (offset_time v)
      → HasOffset (pos 0) (neg_ℤ (pos 30)) (pos 0) (offset_of v) → canonical_text v ≡ codes "2021-01-02T03:04:05.500000000-00:30"
  unfolding fixed
  text_of_half_an_hour_behind date clock offset =
      simp (date.0, date.1, date.2, clock.0, clock.1, clock.2, clock.3, offset.0, offset.1)

  pub text_of_year_0 : HasParts (pos 0) January 1 (offset_date v) → HasClock 0 0 0 0 (offset_time v)
      → HasOffset (neg_ℤ (pos 23)) (neg_ℤ (pos 59)) (pos 0) (offset_of v) → canonical_text v ≡ codes "0000-01-01T00:00:00.000000000-23:59"
  unfolding fixed
  text_of_year_0 date clock offset = simp (date.0, date.1, date.2, clock.0, clock.1, clock.2, clock.3, offset.0, offset.1)

  -- UTC has digits too
  pub text_in_utc : HasParts (pos 9999) December 31 (offset_date v) → HasClock 23 59 59 999_999_999 (offset_time v)
      → HasOffset (pos 0) (pos 0) (pos 0) (offset_of v) → canonical_text v ≡ codes "9999-12-31T23:59:59.999999999+00:00"
  unfolding fixed
  text_in_utc date clock offset = simp (date.0, date.1, date.2, clock.0, clock.1, clock.2, clock.3, offset.0, offset.1)

  pub no_letter_for_utc : HasParts (pos 9999) December 31 (offset_date v) → HasClock 23 59 59 999_999_999 (offset_time v)
      → HasOffset (pos 0) (pos 0) (pos 0) (offset_of v) → canonical_text v ≡ codes "9999-12-31T23:59:59.999999999Z" → ⊥
  no_letter_for_utc date clock offset h = omega (arith, ap length (sym (text_in_utc date clock offset) ∙ h))

  -- years of five digits and offsets with seconds have no such text
  pub no_text_of_year_10000 : Dates.year (offset_date v) ≡ pos 10_000 → HasCanonicalText v → ⊥
  no_text_of_year_10000 year h = omega (arith, ints, year, h.year)

  pub no_text_of_a_second : seconds (offset_of v) ≡ pos 1 → HasCanonicalText v → ⊥
  no_text_of_a_second second h = omega (arith, ints, second, h.whole_minutes)
