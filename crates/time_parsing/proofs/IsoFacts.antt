-- Worked values of ISO 8601, parsed over records, so that a wrong rule in the specs does not check. They follow from
-- the definitions, without any code.
use Rattle.std.proofs.Common.{◌≡◌, ℕ, List, [], length, pos, neg_ℤ, true, false, Some, Ok, Err, codes, refl, ap, inl, inr, arith}
use Rattle.time_values.specs.Calendar.{greatest_year}
use Rattle.time_values.specs.Dates.{HasParts, IsDateWithin}
use Rattle.time_values.specs.Offsets.{HasOffset}
use Rattle.time_values.specs.Refusal.{component, trailing}
use Rattle.time_values.specs.Times.{HasClock}
use Rattle.time_values.specs.declared.date.Date.{Date}
use Rattle.time_values.specs.declared.month.Month.TheVariants.{January}
use Rattle.time_values.specs.declared.time.Time.{Time}
use Rattle.time_values.specs.declared.utc_offset.UtcOffset.{UtcOffset}
use Rattle.time_values.specs.declared.weekday.Weekday.TheVariants.{Saturday}
use Rattle.time_readers.specs.IsoDates.{date_text, forms}
use Rattle.time_readers.specs.IsoOffsets.{offset_text}
use Rattle.time_readers.specs.IsoPieces.{byte, digits, month, number, point, positive, sign, up_to, weekday, year}
use Rattle.time_readers.specs.IsoTimes.{time_after}
use Rattle.time_record.specs.Record.{Record, empty}
use Rattle.time_record.specs.Resolution.{IsDated, IsOffset, IsTimed}
use Rattle.time_parsing.specs.Iso8601 as Iso8601
use Rattle.time_parsing.specs.Iso8601.{date_over, offset_over, reading, time_over}
use Rattle.time_parsing.specs.Outcome.{IsOutcome}
use Rattle.time_parsing.specs.exact.Laws.{iso8601_exact}

abbrev Y : ℕ
Y = greatest_year

module _ (r : Record) where
  abbrev timed : ℕ → ℕ → ℕ → ℕ → Record
  timed h m s n = record r { hour_24 = Some h; minute = Some m; second = Some s; subsecond = Some n; leap_second_allowed = true }

  abbrev after_failed_date : Record
  after_failed_date = record (timed 12 34 0 0) { offset_hour = Some (neg_ℤ (pos 5)); offset_minute = Some (pos 0); offset_is_negative = false }

  abbrev after_year_and_month : Record
  after_year_and_month = record (timed 20 21 0 0) { offset_hour = Some (neg_ℤ (pos 1)); offset_minute = Some (pos 0); offset_is_negative = false }

  abbrev after_date_and_minute : Record
  after_date_and_minute = record (timed 3 4 0 0) { year = Some (pos 2021); month = Some January; day = Some 2 }

  -- a date that doesn't match leaves the kind unknown: the time makes it basic, so that the offset takes no colon
  pub failed_date_leaves_no_kind : Iso8601.Reads Y (codes "1234-05:30") r (codes ":30") after_failed_date
  unfolding reading date_over time_over offset_over date_text forms year month weekday positive up_to digits byte point sign number time_after offset_text
  failed_date_leaves_no_kind = refl

  -- a year and a month parse as a time and an offset
  pub year_and_month_are_a_time : Iso8601.Reads Y (codes "2021-01") r [] after_year_and_month
  unfolding reading date_over time_over offset_over date_text forms year month weekday positive up_to digits byte point sign number time_after offset_text
  year_and_month_are_a_time = refl

  -- a time without colons after a date with hyphens has no second
  pub extended_date_and_minute : Iso8601.Reads Y (codes "2021-01-02T030405") r (codes "05") after_date_and_minute
  unfolding reading date_over time_over offset_over date_text forms year month weekday positive up_to digits byte point sign number time_after offset_text
  extended_date_and_minute = refl

  pub week_date_is_read : Iso8601.Reads Y (codes "2020-W53-6") r []
      (record r { iso_year = Some (pos 2020); iso_week_number = Some 53; weekday = Some Saturday; leap_second_allowed = true })
  unfolding reading date_over time_over offset_over date_text forms year month weekday positive up_to digits byte point sign number time_after offset_text
  week_date_is_read = refl

  -- a fraction of a second is rounded half up, but not to a whole second
  pub fraction_is_rounded_down : Iso8601.Reads Y (codes "12:34:56.9999999994") r [] (timed 12 34 56 999_999_999)
  unfolding reading date_over time_over offset_over date_text forms year month weekday positive up_to digits byte point sign number time_after offset_text
  fraction_is_rounded_down = refl

  pub whole_second_is_refused : Iso8601.Refuses Y (codes "12:34:56.9999999995") r (component (codes "year"))
  unfolding reading date_over time_over offset_over date_text forms year month weekday positive up_to digits byte point sign number time_after offset_text
  whole_second_is_refused = (refl, refl)

  -- a text without a part has the date's error
  pub minute_60_is_refused : Iso8601.Refuses Y (codes "0360") r (component (codes "month"))
  unfolding reading date_over time_over offset_over date_text forms year month weekday positive up_to digits byte point sign number time_after offset_text
  minute_60_is_refused = (refl, refl)

  pub no_kind_of_a_failed_date : (new : Record) → Iso8601.Reads Y (codes "1234-05:30") r [] new → ⊥
  no_kind_of_a_failed_date new h =
      let same = (iso8601_exact Y).one_rest (codes "1234-05:30") r (codes ":30") [] after_failed_date new failed_date_leaves_no_kind h in
      omega (arith, ap length same)

  -- a whole second is neither carried nor cut
  pub no_carried_second : (rest : List ℕ) (new : Record) → Iso8601.Reads Y (codes "12:34:56.9999999995") r rest new → ⊥
  no_carried_second rest new h =
      (iso8601_exact Y).not_both (codes "12:34:56.9999999995") r rest new (component (codes "year")) h whole_second_is_refused

  pub no_fault_of_the_time : Iso8601.Refuses Y (codes "0360") r (component (codes "minute")) → ⊥
  no_fault_of_the_time h =
      let same : component (codes "month") ≡ component (codes "minute") = (iso8601_exact Y).one_refusal (codes "0360") r _ _ minute_60_is_refused h in
      let names : codes "month" ≡ codes "minute" = cc in
      omega (arith, ap length names)

  pub no_basic_second_after_hyphens : (new : Record) → Iso8601.Reads Y (codes "2021-01-02T030405") r [] new → ⊥
  no_basic_second_after_hyphens new h =
      let same = (iso8601_exact Y).one_rest (codes "2021-01-02T030405") r (codes "05") [] after_date_and_minute new extended_date_and_minute h in
      omega (arith, ap length same)

-- a year and a month parse as a time and an offset
pub time_of_a_year_and_month : (t : Time) → HasClock 20 21 0 0 t → IsOutcome IsTimed (Iso8601.Reads Y) (Iso8601.Refuses Y) (codes "2021-01") empty (Ok t)
unfolding IsTimed
time_of_a_year_and_month t clock = (after_year_and_month empty, year_and_month_are_a_time empty, clock)

pub offset_of_a_year_and_month : (o : UtcOffset) → HasOffset (neg_ℤ (pos 1)) (pos 0) (pos 0) o
    → IsOutcome IsOffset (Iso8601.Reads Y) (Iso8601.Refuses Y) (codes "2021-01") empty (Ok o)
unfolding IsOffset
offset_of_a_year_and_month o has = (after_year_and_month empty, year_and_month_are_a_time empty, has)

-- bytes that remain are trailing characters, whatever was read before them
pub bytes_that_remain : IsOutcome IsTimed (Iso8601.Reads Y) (Iso8601.Refuses Y) (codes "1234-05:30") empty (Err trailing)
bytes_that_remain = inl (inr (codes ":30", after_failed_date empty, failed_date_leaves_no_kind empty, (λ e. omega (arith, ap length e)), refl))

-- ---- A year past 9999

module _ (r : Record) where
  abbrev in_12345 : Record
  in_12345 = record r { year = Some (pos 12_345); month = Some January; day = Some 2; leap_second_allowed = true }

  abbrev at_offset_of_12345 : Record
  at_offset_of_12345 = record r {
    offset_hour = Some (pos 1);
    offset_minute = Some (pos 23);
    offset_is_negative = false;
    leap_second_allowed = true;
  }

  pub year_12345_to_999999 : Iso8601.Reads 999_999 (codes "+012345-01-02") r [] in_12345
  unfolding reading date_over time_over offset_over date_text forms year month weekday positive up_to digits byte point sign number time_after offset_text
  year_12345_to_999999 = refl

  -- in the narrower range, its sign and four digits are an offset
  pub offset_for_year_12345_to_9999 : Iso8601.Reads 9_999 (codes "+012345-01-02") r (codes "45-01-02") at_offset_of_12345
  unfolding reading date_over time_over offset_over date_text forms year month weekday positive up_to digits byte point sign number time_after offset_text
  offset_for_year_12345_to_9999 = refl

  pub no_date_of_year_12345_to_9999 : (new : Record) → Iso8601.Reads 9_999 (codes "+012345-01-02") r [] new → ⊥
  no_date_of_year_12345_to_9999 new h =
      let same = (iso8601_exact 9_999).one_rest (codes "+012345-01-02") r (codes "45-01-02") [] at_offset_of_12345 new offset_for_year_12345_to_9999 h in
      omega (arith, ap length same)

pub date_of_year_12345 : (d : Date) → HasParts (pos 12_345) January 2 d → IsDateWithin 999_999 d
    → IsOutcome (IsDated 999_999) (Iso8601.Reads 999_999) (Iso8601.Refuses 999_999) (codes "+012345-01-02") empty (Ok d)
unfolding IsDated
date_of_year_12345 d parts within = (in_12345 empty, year_12345_to_999999 empty, (parts, within))

pub trailing_after_year_12345 : IsOutcome (IsDated 9_999) (Iso8601.Reads 9_999) (Iso8601.Refuses 9_999) (codes "+012345-01-02") empty (Err trailing)
trailing_after_year_12345 =
    inl (inr (codes "45-01-02", at_offset_of_12345 empty, offset_for_year_12345_to_9999 empty, (λ e. omega (arith, ap length e)), refl))
