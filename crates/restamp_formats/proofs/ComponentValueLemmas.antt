-- A tree that determines a moment.
use Rattle.std.proofs.Common.{◌≡◌, ◌≤◌, ◌<◌, ◌-◌, ◌^◌, ℕ, ℤ, pos, neg_ℤ, unsigned_abs, true, false, List, [], ◌∷◌, None, Some, Ok, Err, inr, refl, sym, ap, ◌∙◌, subst, arith, ◌==◌, if◌then◌else◌, Option, MatchOption, option_and_then, nat_le}
use Rattle.std.proofs.{lemmas.Bool.le-leb, lemmas.Bool.Decides.nat_tests, Math.Nat.div-mul-le_self, lemmas.Option.same_Some, lemmas.Option.none-some, lemmas.Option.option_and_then_some}
use Rattle.std.specs.Option.{option_map_or, option_or}
use Rattle.time_values.specs.{Calendar.IsBetween, Calendar.month_length, Calendar.year_length, Dates.is_within, Names.month_number, declared.month.Month.Month, Offsets.offset_refusal, Times.HasClock, Times.time_refusal}
use Rattle.time_values.proofs.{InstantLemmas.ordinal_in, YearLemmas.abs_within, YearLemmas.year_length-leap_day}
use Rattle.time_formatting.proofs.SameTexts.{signed-minutes, signed-seconds}
use Rattle.time_formatting.specs.Components.{count_of, kept}
use Rattle.time_record.specs.Resolution.{IsDated, IsConstructed, clock_at, clock_of, hour_of, Row, IsRowDate}
use Rattle.time_values.specs.Dates as Dates
use Rattle.time_values.specs.Offsets as Offsets
use Rattle.restamp_formats.specs.Common.{greatest_year, insufficient, Date, Time, UtcOffset, offset_date, offset_of, offset_time, OffsetDateTime, Component, hour_12, value_of, put_value, Record, empty, IsMoment, IsMomentOfParts, IsTimed, IsOffset, is_leap_second, replace_leap_second, by_ordinal, by_month_and_day, row_of_two, row_of_three, full_year}
use Rattle.restamp_formats.specs.ComponentValues.{Piece, verbatim, part, pieces, put_values, with_value_of, with_values_of, clock, HasAll}
use Rattle.restamp_formats.specs.{Laws.AllValuesDetermine, Laws.SignsDetermine, Reading.completed}
use Rattle.restamp_formats.proofs.ParseLemmas.{on_none, on_some}

month_short : (y : ℤ) (m : ℕ) → month_length y m ≤ 31
month_short y m = grind (arith, nat_tests)

year_short : (y : ℤ) → year_length y ≤ 366
year_short y = rw (year_length-leap_day y) (grind arith)

-- a component's value is in range
day_fits : (d : Date) → is_within 1 31 (Dates.day d) ≡ true
day_fits d = let day = d.day_in in let short = month_short (Dates.year d) (month_number (Dates.month d)) in grind (arith, nat_tests)

ordinal_fits : (d : Date) → is_within 1 366 (Dates.ordinal d) ≡ true
ordinal_fits d = let in_year = ordinal_in d in let short = year_short (Dates.year d) in grind (arith, nat_tests)

size_fits : (n : ℕ) (z : ℤ) → IsBetween (neg_ℤ (pos n)) (pos n) z → nat_le (unsigned_abs z) n ≡ true
size_fits n z h = le-leb (unsigned_abs z) n (abs_within n z h)

half_fits : (h : ℕ) → is_within 1 12 (hour_12 h) ≡ true
half_fits h = grind (arith, nat_tests)

kept_fits : (k n : ℕ) → n < 1_000_000_000 → nat_le (kept k n) 999_999_999 ≡ true
kept_fits k n below =
    let less = div-mul-le_self n (10 ^ (9 - k)) in le-leb (kept k n) 999_999_999 (omega (arith, less, below))

module _ (v : OffsetDateTime) where
  abbrev d : Date
  d = offset_date v

  abbrev year : ℤ
  year = Dates.year d

  abbrev t : Time
  t = offset_time v

  abbrev o : UtcOffset
  o = offset_of v

  -- setting a component's value gives the record with that value
  put_told : (c : Component) (r q : Record) → with_value_of v c r ≡ Some q
      → put_value greatest_year c (value_of greatest_year v c) r ≡ Some q
  put_told (Component.Day m) r q e = rw (day_fits d) e
  put_told (Component.MonthShort m) r q e = e
  put_told (Component.MonthLong m) r q e = e
  put_told (Component.MonthNumerical m) r q e = e
  put_told (Component.Ordinal m) r q e = rw (ordinal_fits d) e
  put_told (Component.WeekdayShort m) r q e = e
  put_told (Component.WeekdayLong m) r q e = e
  put_told (Component.WeekdaySunday m) r q e = e
  put_told (Component.WeekdayMonday m) r q e = e
  put_told (Component.CalendarYearFullExtendedRange m) r q e = rw (size_fits greatest_year year d.year_in) e
  put_told (Component.CalendarYearFullStandardRange m) r q e = rw (size_fits greatest_year year d.year_in) e
  put_told (Component.Hour12 m) r q e = rw (half_fits t.hour) e
  put_told (Component.Hour24 m) r q e = rw (le-leb t.hour 23 (omega (arith, t.hour_in))) e
  put_told (Component.Minute m) r q e = rw (le-leb t.minute 59 (omega (arith, t.minute_in))) e
  put_told (Component.Period m) r q e = e
  put_told (Component.Second m) r q e = rw (le-leb t.second 60 (omega (arith, t.second_in))) e
  put_told (Component.Subsecond m) r q e = rw (kept_fits (count_of m.digits t.nanosecond) t.nanosecond t.nanosecond_in) e
  put_told (Component.OffsetHour m) r q e = rw (size_fits 25 o.hours o.hours_in) e
  put_told (Component.OffsetMinute m) r q e = rw (size_fits 59 o.minutes o.minutes_in) e
  put_told (Component.OffsetSecond m) r q e = rw (size_fits 59 o.seconds o.seconds_in) e
  put_told (Component.End m) r q e = e
  put_told c r q e = absurd (none-some q e)

  put_all_told : (ps : List Piece) (r q : Record) → with_values_of v ps r ≡ Some q
      → put_values v ps r ≡ Some q
  put_all_told [] r q e = e
  put_all_told (verbatim text ∷ ps) r q e = put_all_told ps r q e
  put_all_told (part c ∷ ps) r q e =
      option_and_then_some (with_values_of v ps) (with_value_of v c r) q e (λ mid here next.
      ap (option_and_then (put_values v ps)) (put_told c r mid here) ∙ put_all_told ps mid q next)

  -- a record with all of a moment resolves to it
  dated : (year : Option ℤ) (number : Option ℕ) (month : Option Month) (day : Option ℕ) (later : Option Row)
      → year ≡ Some (Dates.year d)
      → MatchOption number ((month ≡ Some (Dates.month d)) × (day ≡ Some (Dates.day d))) (λ n. n ≡ Dates.ordinal d)
      → MatchOption (option_or (row_of_two by_ordinal year number) (option_or (row_of_three by_month_and_day year month day) later))
      (Ok d ≡ Err insufficient) (λ row. IsRowDate greatest_year row (Ok d))
  dated None number month day later e is = absurd cc
  dated (Some y) (Some n) month day later e is = (sym (same_Some y (Dates.year d) e), sym is, d.year_in)
  dated (Some y) None None day later e is = absurd (none-some (Dates.month d) is.0)
  dated (Some y) None (Some m) None later e is = absurd (none-some (Dates.day d) is.1)
  dated (Some y) None (Some m) (Some n) later e is = (
    (sym (same_Some y (Dates.year d) e), sym (same_Some m (Dates.month d) is.0), sym (same_Some n (Dates.day d) is.1)),
    d.year_in,
  )

  clock_made : IsConstructed (time_refusal t.hour t.minute t.second t.nanosecond) (HasClock t.hour t.minute t.second t.nanosecond) (Ok t)
  clock_made =
      rw (
        le-leb t.hour 23 (omega (arith, t.hour_in)),
        le-leb t.minute 59 (omega (arith, t.minute_in)),
        le-leb t.second 59 (omega (arith, t.second_in)),
        le-leb t.nanosecond 999_999_999 (omega (arith, t.nanosecond_in)),
      ) (refl, refl, refl, refl)

  pub offset_made : (m s : ℤ) → m ≡ o.minutes → s ≡ o.seconds
      → IsConstructed (offset_refusal o.hours m s) (Offsets.HasOffset o.hours m s) (Ok o)
  offset_made m s minutes seconds =
      rw (minutes, seconds, size_fits 25 o.hours o.hours_in, size_fits 59 o.minutes o.minutes_in, size_fits 59 o.seconds o.seconds_in)
      (refl, o.one_sign.0, o.one_sign.1)

  -- its second is no leap second
  no_leap : (h m s n : Option ℕ) → option_and_then (λ hour. clock_at hour m s n) h ≡ Some (clock t)
      → option_map_or (λ second. second == 60) s false ≡ false
  no_leap h m s n e = let second = t.second_in in grind (arith, nat_tests)

  module _ (r : Record) (all : HasAll r v) where
    not_leap : is_leap_second r ≡ false
    not_leap = let none = no_leap (hour_of r) r.minute r.second r.subsecond all.time in grind arith

    is_dated : IsDated greatest_year r (Ok d)
    unfolding IsDated
    is_dated = dated (full_year r) r.ordinal r.month r.day _ all.date.0 all.date.1

    is_timed : IsTimed (replace_leap_second r) (Ok t)
    unfolding IsTimed
    is_timed =
        let same : replace_leap_second r ≡ r = ap (λ leap. if leap then record r { second = Some 59; subsecond = Some 999_999_999 } else r) not_leap in
        subst (λ q. IsTimed q (Ok t)) (sym same) (on_some (clock_of r) (clock t) _ _ all.time clock_made)

    is_offset : IsOffset r (Ok o)
    unfolding IsOffset
    is_offset =
        on_some r.offset_hour o.hours _ _ all.offset.0 (offset_made _ _ all.offset.1 all.offset.2)

    moment : IsMoment greatest_year r (Ok v)
    unfolding IsMoment IsMomentOfParts
    moment =
        on_none r.unix_timestamp_nanos _ _ all.no_count
        (inr (d, is_dated, inr (t, is_timed, inr (o, is_offset, ((refl, refl, refl), λ leap. absurd (let none = not_leap in cc))))))

pub says_all_told : AllValuesDetermine
says_all_told v tree defaults after stops told all = record {
  stops = stops;
  after = after;
  puts = put_all_told v (pieces tree) empty after told;
  is = moment v (completed defaults after) all;
}

pub signs_tell : SignsDetermine
signs_tell o = (
  sym (signed-minutes o.hours o.minutes o.seconds o.one_sign.0 o.one_sign.1),
  sym (signed-seconds o.hours o.minutes o.seconds o.one_sign.0 o.one_sign.1),
)
