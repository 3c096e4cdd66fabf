-- Moments that records resolve to, so that a wrong rule in the definitions fails the check. Facts that depend on the range of years are proved for the years to
-- 9999 and to 999999.
use Rattle.std.proofs.Common.{◌≡◌, ℕ, true, false, IsTrue, Some, None, Result, Ok, Err, refl, sym, ap, subst, ◌∙◌, inr, inl, arith, codes, ℤ, pos, neg_ℤ}
use Rattle.std.proofs.lemmas.Bool.Decides.{not_from_Decides}
use Rattle.std.proofs.lemmas.Bool.{false≢true}
use Rattle.std.proofs.lemmas.Int.{ints}
use Rattle.time_values.specs.declared.date.Date.{Date}
use Rattle.time_values.specs.declared.month.Month.TheVariants.{January, December}
use Rattle.time_values.specs.declared.offset_date_time.OffsetDateTime.{OffsetDateTime}
use Rattle.time_values.specs.declared.plain_date_time.PlainDateTime.{PlainDateTime}
use Rattle.time_values.specs.declared.time.Time.{Time}
use Rattle.time_values.specs.declared.timestamp.Timestamp.{Timestamp}
use Rattle.time_values.specs.declared.utc_date_time.UtcDateTime.{UtcDateTime}
use Rattle.time_values.specs.declared.utc_offset.UtcOffset.{UtcOffset}
use Rattle.time_values.specs.Dates.{IsDateWithin}
use Rattle.time_values.specs.Instants.{IsInstant, IsLeapSecondMoment, IsLastNanosecondOfMonth, clock_nanos, instant}
use Rattle.time_values.specs.Refusal.{Refusal, insufficient, range}
use Rattle.time_values.proofs.CalendarTests.{clock_is, date, first_is, instant_decided, last_is, moment_is, offset, time, year_decided}
use Rattle.time_values.proofs.InstantLemmas.{clock_nanos_within}
use Rattle.time_values.proofs.StandardFacts.{hour_ahead, last_nanosecond, midnight, utc, y10000-01-01, y2024-02-29, y2024-03-01, y9999-12-31}
use Rattle.time_record.specs.Record.{Record, empty, put, unix_timestamp_nanos_is}
use Rattle.time_record.specs.Resolution.{IsDated, IsInstantOfParts, IsMoment, IsMomentOfParts, IsOffset, IsOffsetOrUtc, IsPlain, IsTimed, IsTimestamp}
use Rattle.time_record.specs.Resolution.{IsUtcMoment, IsUtcMomentOfParts, by_ordinal, is_leap_second, replace_leap_second}
use Rattle.time_record.proofs.ResolutionLemmas.{IsMoment-one, IsPlain-one, IsUtcMoment-one}
use Rattle.time_record.proofs.StandardFacts.{row_decided}

-- ---- Steps to a moment

module _ (Y : ℕ) (r : Record) (d : Date) (t : Time) (o : UtcOffset) (dated : IsDated Y r (Ok d)) (timed : IsTimed (replace_leap_second r) (Ok t)) where
  -- with its own offset
  at_offset : IsOffset r (Ok o) → is_leap_second r ≡ false → IsMomentOfParts Y r (Ok (record { date = d; time = t; offset = o }))
  unfolding IsMomentOfParts
  at_offset at none = inr (d, dated, inr (t, timed, inr (o, at, ((refl, refl, refl), λ leap. absurd (false≢true (sym none ∙ leap))))))

  -- and for a leap second that is at the end of a month in UTC
  at_month_end : IsOffset r (Ok o) → IsLeapSecondMoment Y (instant Y d t o) → IsMomentOfParts Y r (Ok (record { date = d; time = t; offset = o }))
  unfolding IsMomentOfParts
  at_month_end at end = inr (d, dated, inr (t, timed, inr (o, at, ((refl, refl, refl), λ leap. end))))

  module _ (at : IsOffsetOrUtc r (Ok o)) where
    -- in UTC, for a leap second at the end of a month
    in_utc : (u : UtcDateTime) → clock_nanos Y u.date u.time ≡ instant Y d t o → IsDateWithin Y u.date
        → (IsTrue (is_leap_second r) → IsLastNanosecondOfMonth u.date u.time) → IsUtcMomentOfParts Y r (Ok u)
    unfolding IsUtcMomentOfParts
    in_utc u is within end = inr (d, dated, inr (t, timed, inr (o, at, inr (u, (is, within), ((refl, refl), end)))))

    -- outside the range of dates
    beyond : (IsInstant Y (instant Y d t o) → ⊥) → IsUtcMomentOfParts Y r (Err (range (codes "year") true))
    unfolding IsUtcMomentOfParts
    beyond none = inr (d, dated, inr (t, timed, inr (o, at, inl (range (codes "year") true, (none, refl), refl))))

    -- and for a leap second that isn't at the end of a month
    misplaced : (u : UtcDateTime) → clock_nanos Y u.date u.time ≡ instant Y d t o → IsDateWithin Y u.date → IsTrue (is_leap_second r)
        → (IsLastNanosecondOfMonth u.date u.time → ⊥) → IsUtcMomentOfParts Y r (Err (range (codes "second") true))
    unfolding IsUtcMomentOfParts
    misplaced u is within leap none = inr (d, dated, inr (t, timed, inr (o, at, inr (u, (is, within), (leap, none, refl)))))

-- an instant outside a range
not_within : (Y : ℕ) (n m : ℤ) → n ≡ m → (IsInstant Y m → ⊥) → IsInstant Y n → ⊥
not_within Y n m e none within = none (subst (IsInstant Y) e within)

-- results that differ in a year or an offset's hours are different
abbrev year_of_result : Result UtcDateTime Refusal → ℤ
year_of_result (Ok u) = u.date.year
year_of_result (Err e) = pos 0

abbrev clock_year_of_result : Result OffsetDateTime Refusal → ℤ
clock_year_of_result (Ok v) = v.date.year
clock_year_of_result (Err e) = pos 0

abbrev hours_of_result : Result OffsetDateTime Refusal → ℤ
hours_of_result (Ok v) = v.offset.hours
hours_of_result (Err e) = pos 0

Ok≢Err : {V : Type 0} (v : V) (e : Refusal) → ◌≡◌ {A = Result V Refusal} (Ok v) (Err e) → ⊥
Ok≢Err v e h = cc

-- ---- Dates and times without an offset

-- the leap day of 2024, at noon
abbrev leap_noon : Record
leap_noon = record empty { year = Some (pos 2024); ordinal = Some 60; hour_24 = Some 12 }

abbrev noon : Time
noon = time 12 0 0 0 refl

abbrev noon_of_leap_day : PlainDateTime
noon_of_leap_day = record { date = y2024-02-29; time = noon }

abbrev leap_second_at_noon : Record
leap_second_at_noon = record leap_noon { minute = Some 0; second = Some 60; leap_second_allowed = true }

pub noon_of_a_leap_day : IsPlain 9_999 leap_noon (Ok noon_of_leap_day) × IsPlain 999_999 leap_noon (Ok noon_of_leap_day)
unfolding IsPlain IsDated IsTimed
noon_of_a_leap_day = (
  inr (y2024-02-29, (row_decided 9_999 refl (by_ordinal (pos 2024) 60) y2024-02-29).0 refl, inr (noon, (refl, refl, refl, refl), (refl, refl))),
  inr (y2024-02-29, (row_decided 999_999 refl (by_ordinal (pos 2024) 60) y2024-02-29).0 refl, inr (noon, (refl, refl, refl, refl), (refl, refl))),
)

-- a date alone is insufficient
pub no_hour_of_a_leap_day : IsPlain 9_999 (record leap_noon { hour_24 = None }) (Err insufficient)
unfolding IsPlain IsDated IsTimed
no_hour_of_a_leap_day =
    inr (y2024-02-29, (row_decided 9_999 refl (by_ordinal (pos 2024) 60) y2024-02-29).0 refl, inl (insufficient, refl, refl))

-- a leap second isn't replaced, even if it is allowed
pub second_60_of_a_leap_day : IsPlain 999_999 leap_second_at_noon (Err (range (codes "second") false))
unfolding IsPlain IsDated IsTimed
second_60_of_a_leap_day =
    inr (y2024-02-29, (row_decided 999_999 refl (by_ordinal (pos 2024) 60) y2024-02-29).0 refl, inl (range (codes "second") false, refl, refl))

-- the date's error is the first
pub second_60_of_no_day : IsPlain 9_999 (record leap_second_at_noon { ordinal = None }) (Err insufficient)
unfolding IsPlain IsDated
second_60_of_no_day = inl (insufficient, refl, refl)

abbrev hour_of_result : Result PlainDateTime Refusal → ℕ
hour_of_result (Ok v) = v.time.hour
hour_of_result (Err e) = 0

abbrev day_of_result : Result PlainDateTime Refusal → ℕ
day_of_result (Ok v) = v.date.day
day_of_result (Err e) = 0

pub not_midnight_of_a_leap_day : IsPlain 999_999 leap_noon (Ok (record { date = y2024-02-29; time = midnight })) → ⊥
not_midnight_of_a_leap_day h =
    omega (arith, ap hour_of_result (IsPlain-one leap_noon _ (Ok noon_of_leap_day) h noon_of_a_leap_day.1))

pub not_noon_of_the_day_after : IsPlain 999_999 leap_noon (Ok (record { date = y2024-03-01; time = noon })) → ⊥
not_noon_of_the_day_after h =
    omega (arith, ap day_of_result (IsPlain-one leap_noon _ (Ok noon_of_leap_day) h noon_of_a_leap_day.1))

pub no_date_and_time_of_second_60 : (v : PlainDateTime) → IsPlain 999_999 leap_second_at_noon (Ok v) → ⊥
no_date_and_time_of_second_60 v h = let same = IsPlain-one leap_second_at_noon (Ok v) _ h second_60_of_a_leap_day in cc

-- ---- The ends of the range of years

abbrev last_of_9999 : Record
last_of_9999 = record empty {
  year = Some (pos 9_999);
  ordinal = Some 365;
  hour_24 = Some 23;
  minute = Some 59;
  second = Some 59;
  subsecond = Some 999_999_999;
  offset_hour = Some (neg_ℤ (pos 23));
  offset_minute = Some (pos 59);
  offset_is_negative = true;
}

abbrev day_behind : UtcOffset
day_behind = offset (neg_ℤ (pos 23)) (neg_ℤ (pos 59)) (pos 0) refl

abbrev last_moment : OffsetDateTime
last_moment = record { date = y9999-12-31; time = last_nanosecond; offset = day_behind }

abbrev late : Time
late = time 23 58 59 999_999_999 refl

-- at -23:59 the last nanosecond of 9999 is a moment of both ranges
pub last_of_9999_stays : IsMoment 9_999 last_of_9999 (Ok last_moment) × IsMoment 999_999 last_of_9999 (Ok last_moment)
unfolding IsMoment IsDated IsTimed IsOffset
last_of_9999_stays = (
  at_offset 9_999 last_of_9999 y9999-12-31 last_nanosecond day_behind
      ((row_decided 9_999 refl (by_ordinal (pos 9_999) 365) y9999-12-31).0 refl) (refl, refl, refl, refl) (refl, refl, refl) refl,
  at_offset 999_999 last_of_9999 y9999-12-31 last_nanosecond day_behind
      ((row_decided 999_999 refl (by_ordinal (pos 9_999) 365) y9999-12-31).0 refl) (refl, refl, refl, refl) (refl, refl, refl) refl,
)

-- and in UTC it is a moment of the wider range alone, on 10000-01-01
pub last_of_9999_in_utc : IsUtcMoment 9_999 last_of_9999 (Err (range (codes "year") true))
    × IsUtcMoment 999_999 last_of_9999 (Ok (record { date = y10000-01-01; time = late }))
unfolding IsUtcMoment IsDated IsTimed IsOffsetOrUtc
last_of_9999_in_utc = (
  beyond 9_999 last_of_9999 y9999-12-31 last_nanosecond day_behind
      ((row_decided 9_999 refl (by_ordinal (pos 9_999) 365) y9999-12-31).0 refl) (refl, refl, refl, refl) (refl, refl, refl)
      (not_within 9_999 _ (pos 253_402_387_139_999_999_999) (moment_is 9_999 refl y9999-12-31 last_nanosecond day_behind)
      (not_from_Decides _ (instant_decided 9_999 refl (pos 253_402_387_139_999_999_999)) refl)),
  in_utc 999_999 last_of_9999 y9999-12-31 last_nanosecond day_behind
      ((row_decided 999_999 refl (by_ordinal (pos 9_999) 365) y9999-12-31).0 refl) (refl, refl, refl, refl) (refl, refl, refl)
      (record { date = y10000-01-01; time = late })
      (clock_is 999_999 refl y10000-01-01 late ∙ sym (moment_is 999_999 refl y9999-12-31 last_nanosecond day_behind))
      ((year_decided 999_999 refl (pos 10_000)).0 refl) (λ leap. absurd (false≢true leap)),
)

abbrev first_of_-9999 : Record
first_of_-9999 = record empty { year = Some (neg_ℤ (pos 9_999)); ordinal = Some 1; hour_24 = Some 0; offset_hour = Some (pos 1) }

abbrev y-9999-01-01 : Date
y-9999-01-01 = date (neg_ℤ (pos 9_999)) January 1 refl

abbrev y-10000-12-31 : Date
y-10000-12-31 = date (neg_ℤ (pos 10_000)) December 31 refl

-- at an offset of an hour, the year -9999 begins before that of UTC
pub first_of_-9999_in_utc : IsUtcMoment 9_999 first_of_-9999 (Err (range (codes "year") true))
    × IsUtcMoment 999_999 first_of_-9999 (Ok (record { date = y-10000-12-31; time = time 23 0 0 0 refl }))
unfolding IsUtcMoment IsDated IsTimed IsOffsetOrUtc
first_of_-9999_in_utc = (
  beyond 9_999 first_of_-9999 y-9999-01-01 midnight hour_ahead
      ((row_decided 9_999 refl (by_ordinal (neg_ℤ (pos 9_999)) 1) y-9999-01-01).0 refl) (refl, refl, refl, refl) (refl, refl, refl)
      (not_within 9_999 _ (neg_ℤ (pos 377_705_120_400_000_000_000)) (moment_is 9_999 refl y-9999-01-01 midnight hour_ahead)
      (not_from_Decides _ (instant_decided 9_999 refl (neg_ℤ (pos 377_705_120_400_000_000_000))) refl)),
  in_utc 999_999 first_of_-9999 y-9999-01-01 midnight hour_ahead
      ((row_decided 999_999 refl (by_ordinal (neg_ℤ (pos 9_999)) 1) y-9999-01-01).0 refl) (refl, refl, refl, refl) (refl, refl, refl)
      (record { date = y-10000-12-31; time = time 23 0 0 0 refl })
      (clock_is 999_999 refl y-10000-12-31 (time 23 0 0 0 refl) ∙ sym (moment_is 999_999 refl y-9999-01-01 midnight hour_ahead))
      ((year_decided 999_999 refl (neg_ℤ (pos 10_000))).0 refl) (λ leap. absurd (false≢true leap)),
)

-- the local midnight at which -9999 begins, at an offset of a minute
abbrev minute_early : Record
minute_early = record empty {
  year = Some (neg_ℤ (pos 9_999));
  ordinal = Some 1;
  hour_24 = Some 0;
  minute = Some 0;
  second = Some 0;
  offset_hour = Some (pos 0);
  offset_minute = Some (pos 1);
}

abbrev minute_ahead : UtcOffset
minute_ahead = offset (pos 0) (pos 1) (pos 0) refl

abbrev last_minute : Time
last_minute = time 23 59 0 0 refl

-- at an offset of a minute it begins one minute before that of UTC
pub minute_before_-9999 : IsUtcMoment 9_999 minute_early (Err (range (codes "year") true))
unfolding IsUtcMoment IsDated IsTimed IsOffsetOrUtc
minute_before_-9999 =
    beyond 9_999 minute_early y-9999-01-01 midnight minute_ahead
    ((row_decided 9_999 refl (by_ordinal (neg_ℤ (pos 9_999)) 1) y-9999-01-01).0 refl) (refl, refl, refl, refl) (refl, refl, refl)
    (not_within 9_999 _ (neg_ℤ (pos 377_705_116_860_000_000_000)) (moment_is 9_999 refl y-9999-01-01 midnight minute_ahead)
    (not_from_Decides _ (instant_decided 9_999 refl (neg_ℤ (pos 377_705_116_860_000_000_000))) refl))

pub minute_before_-9999_to_999999 : IsUtcMoment 999_999 minute_early (Ok (record { date = y-10000-12-31; time = last_minute }))
unfolding IsUtcMoment IsDated IsTimed IsOffsetOrUtc
minute_before_-9999_to_999999 =
    in_utc 999_999 minute_early y-9999-01-01 midnight minute_ahead
    ((row_decided 999_999 refl (by_ordinal (neg_ℤ (pos 9_999)) 1) y-9999-01-01).0 refl) (refl, refl, refl, refl) (refl, refl, refl)
    (record { date = y-10000-12-31; time = last_minute })
    (clock_is 999_999 refl y-10000-12-31 last_minute ∙ sym (moment_is 999_999 refl y-9999-01-01 midnight minute_ahead))
    ((year_decided 999_999 refl (neg_ℤ (pos 10_000))).0 refl) (λ leap. absurd (false≢true leap))

abbrev last_of_999999 : Record
last_of_999999 = record empty {
  year = Some (pos 999_999);
  ordinal = Some 365;
  hour_24 = Some 23;
  minute = Some 59;
  second = Some 59;
  offset_hour = Some (pos 0);
  offset_minute = Some (pos 1);
  offset_is_negative = true;
}

abbrev minute_behind : UtcOffset
minute_behind = offset (pos 0) (neg_ℤ (pos 1)) (pos 0) refl

abbrev y999999-12-31 : Date
y999999-12-31 = date (pos 999_999) December 31 refl

abbrev last_second : Time
last_second = time 23 59 59 0 refl

-- at -00:01 the last second of 999999 is a moment, but in UTC it is after the wider range
pub last_of_999999_stays : IsMoment 999_999 last_of_999999 (Ok (record { date = y999999-12-31; time = last_second; offset = minute_behind }))
unfolding IsMoment IsDated IsTimed IsOffset
last_of_999999_stays =
    at_offset 999_999 last_of_999999 y999999-12-31 last_second minute_behind
    ((row_decided 999_999 refl (by_ordinal (pos 999_999) 365) y999999-12-31).0 refl) (refl, refl, refl, refl) (refl, refl, refl) refl

pub last_of_999999_in_utc : IsUtcMoment 999_999 last_of_999999 (Err (range (codes "year") true))
unfolding IsUtcMoment IsDated IsTimed IsOffsetOrUtc
last_of_999999_in_utc =
    beyond 999_999 last_of_999999 y999999-12-31 last_second minute_behind
    ((row_decided 999_999 refl (by_ordinal (pos 999_999) 365) y999999-12-31).0 refl) (refl, refl, refl, refl) (refl, refl, refl)
    (not_within 999_999 _ (pos 31_494_784_780_859_000_000_000) (moment_is 999_999 refl y999999-12-31 last_second minute_behind)
    (not_from_Decides _ (instant_decided 999_999 refl (pos 31_494_784_780_859_000_000_000)) refl))

-- ---- The moment of a timestamp

abbrev after_9999 : ℤ
after_9999 = pos 253_402_300_800_000_000_000

abbrev stamped : Record
stamped = record empty { unix_timestamp_nanos = Some after_9999 }

-- unix second 253402300800 is 10000-01-01 in the wider range
pub second_after_9999 : IsUtcMoment 999_999 stamped (Ok (record { date = y10000-01-01; time = midnight }))
    × IsMoment 999_999 stamped (Ok (record { date = y10000-01-01; time = midnight; offset = utc }))
    × IsUtcMoment 999_999 (record stamped { subsecond = Some 7 }) (Ok (record { date = y10000-01-01; time = time 0 0 0 7 refl }))
    × IsTimestamp 999_999 stamped (Ok (record { nanoseconds = after_9999; in_range = (instant_decided 999_999 refl after_9999).0 refl }))
unfolding IsUtcMoment IsMoment IsTimestamp
second_after_9999 = (
  (midnight, clock_is 999_999 refl y10000-01-01 midnight, (refl, refl, refl, refl), (year_decided 999_999 refl (pos 10_000)).0 refl),
  (
    (midnight, clock_is 999_999 refl y10000-01-01 midnight, (refl, refl, refl, refl), (year_decided 999_999 refl (pos 10_000)).0 refl),
    (refl, refl, refl),
  ),
  (midnight, clock_is 999_999 refl y10000-01-01 midnight, (refl, refl, refl, refl), (year_decided 999_999 refl (pos 10_000)).0 refl),
  (refl, (instant_decided 999_999 refl after_9999).0 refl),
)

-- a record of the narrower range can't store it
pub put_after_9999 : (put 9_999 (unix_timestamp_nanos_is after_9999) empty ≡ None) × (put 999_999 (unix_timestamp_nanos_is after_9999) empty ≡ Some stamped)
put_after_9999 = (rw (first_is 9_999 refl, last_is 9_999 refl) refl, rw (first_is 999_999 refl, last_is 999_999 refl) refl)

-- and it is no value of the narrower range
no_stamp : IsInstant 9_999 after_9999 → ⊥
no_stamp = not_from_Decides _ (instant_decided 9_999 refl after_9999) refl

stamp_within : (d : Date) (t : Time) → clock_nanos 9_999 d t ≡ after_9999 → IsDateWithin 9_999 d → IsInstant 9_999 after_9999
stamp_within d t is within = subst (IsInstant 9_999) is (clock_nanos_within 9_999 d t refl within)

pub no_second_after_9999 : ((v : UtcDateTime) → IsUtcMoment 9_999 stamped (Ok v) → ⊥) × ((v : OffsetDateTime) → IsMoment 9_999 stamped (Ok v) → ⊥)
    × ((v : Timestamp) → IsTimestamp 9_999 stamped (Ok v) → ⊥)
unfolding IsUtcMoment IsMoment IsTimestamp
no_second_after_9999 = (
  λ v h. no_stamp (stamp_within v.date h.0 h.1 h.3),
  λ v h. no_stamp (stamp_within v.date h.0.0 h.0.1 h.0.3),
  λ v h. no_stamp (subst (IsInstant 9_999) h.0 h.1),
)

-- the record of a timestamp
abbrev stamped_at : ℤ → Record
stamped_at n = record empty { unix_timestamp_nanos = Some n }

abbrev before_-9999 : ℤ
before_-9999 = neg_ℤ (pos 377_705_116_801_000_000_000)

abbrev first_of_range : ℤ
first_of_range = neg_ℤ (pos 31_619_087_596_800_000_000_000)

abbrev last_of_range : ℤ
last_of_range = pos 31_494_784_780_799_000_000_000

abbrev y-999999-01-01 : Date
y-999999-01-01 = date (neg_ℤ (pos 999_999)) January 1 refl

-- unix second -377705116801 is the last of -10000
pub second_before_-9999 : IsMoment 999_999 (stamped_at before_-9999) (Ok (record { date = y-10000-12-31; time = last_second; offset = utc }))
unfolding IsMoment
second_before_-9999 = (
  (last_second, clock_is 999_999 refl y-10000-12-31 last_second, (refl, refl, refl, refl), (year_decided 999_999 refl (neg_ℤ (pos 10_000))).0 refl),
  (refl, refl, refl),
)

pub put_before_-9999 : (put 9_999 (unix_timestamp_nanos_is before_-9999) empty ≡ None)
    × (put 999_999 (unix_timestamp_nanos_is before_-9999) empty ≡ Some (stamped_at before_-9999))
put_before_-9999 = (rw (first_is 9_999 refl) refl, rw (first_is 999_999 refl, last_is 999_999 refl) refl)

-- the wider range begins at unix second -31619087596800 and ends with 31494784780799
pub first_second_of_-999999 : IsMoment 999_999 (stamped_at first_of_range) (Ok (record { date = y-999999-01-01; time = midnight; offset = utc }))
unfolding IsMoment
first_second_of_-999999 = (
  (midnight, clock_is 999_999 refl y-999999-01-01 midnight, (refl, refl, refl, refl), (year_decided 999_999 refl (neg_ℤ (pos 999_999))).0 refl),
  (refl, refl, refl),
)

pub last_second_of_999999 : IsMoment 999_999 (stamped_at last_of_range) (Ok (record { date = y999999-12-31; time = last_second; offset = utc }))
unfolding IsMoment
last_second_of_999999 = (
  (last_second, clock_is 999_999 refl y999999-12-31 last_second, (refl, refl, refl, refl), (year_decided 999_999 refl (pos 999_999)).0 refl),
  (refl, refl, refl),
)

pub put_ends_of_wider_range : (put 999_999 (unix_timestamp_nanos_is first_of_range) empty ≡ Some (stamped_at first_of_range))
    × (put 999_999 (unix_timestamp_nanos_is last_of_range) empty ≡ Some (stamped_at last_of_range))
put_ends_of_wider_range = (rw (first_is 999_999 refl, last_is 999_999 refl) refl, rw (first_is 999_999 refl, last_is 999_999 refl) refl)

-- the narrower range has neither end, and the wider one no second after its last
pub no_put_of_those_ends : (put 9_999 (unix_timestamp_nanos_is first_of_range) empty ≡ None)
    × (put 9_999 (unix_timestamp_nanos_is last_of_range) empty ≡ None)
    × (put 999_999 (unix_timestamp_nanos_is (pos 31_494_784_780_800_000_000_000)) empty ≡ None)
no_put_of_those_ends = (
  rw (first_is 9_999 refl) refl,
  rw (first_is 9_999 refl, last_is 9_999 refl) refl,
  rw (first_is 999_999 refl, last_is 999_999 refl) refl,
)

-- ---- Leap seconds

-- second 60 of a minute on a day of 2016
abbrev second_60 : ℕ → ℕ → ℕ → ℤ → Record
second_60 n h m hour = record empty {
  year = Some (pos 2016);
  ordinal = Some n;
  hour_24 = Some h;
  minute = Some m;
  second = Some 60;
  offset_hour = Some hour;
  leap_second_allowed = true;
}

abbrev y2016-12-30 : Date
y2016-12-30 = date (pos 2016) December 30 refl

abbrev y2016-12-31 : Date
y2016-12-31 = date (pos 2016) December 31 refl

abbrev year_end : UtcDateTime
year_end = record { date = y2016-12-31; time = last_nanosecond }

-- `1990-12-31T15:59:60-08:00`
abbrev leap_second_of_1990 : Record
leap_second_of_1990 = record (second_60 365 15 59 (neg_ℤ (pos 8))) { year = Some (pos 1990) }

abbrev y1990-12-31 : Date
y1990-12-31 = date (pos 1990) December 31 refl

abbrev before_four : Time
before_four = time 15 59 59 999_999_999 refl

abbrev eight_behind : UtcOffset
eight_behind = offset (neg_ℤ (pos 8)) (pos 0) (pos 0) refl

-- at the end of a month in UTC, it resolves to the last nanosecond before
pub leap_second_at_month_end : IsUtcMoment 9_999 (second_60 366 23 59 (pos 0)) (Ok year_end) × IsUtcMoment 999_999 (second_60 366 23 59 (pos 0)) (Ok year_end)
unfolding IsUtcMoment IsDated IsTimed IsOffsetOrUtc
leap_second_at_month_end = (
  in_utc 9_999 (second_60 366 23 59 (pos 0)) y2016-12-31 last_nanosecond utc
      ((row_decided 9_999 refl (by_ordinal (pos 2016) 366) y2016-12-31).0 refl) (refl, refl, refl, refl) (refl, refl, refl) year_end
      (clock_is 9_999 refl y2016-12-31 last_nanosecond ∙ sym (moment_is 9_999 refl y2016-12-31 last_nanosecond utc))
      ((year_decided 9_999 refl (pos 2016)).0 refl) (λ leap. (refl, refl)),
  in_utc 999_999 (second_60 366 23 59 (pos 0)) y2016-12-31 last_nanosecond utc
      ((row_decided 999_999 refl (by_ordinal (pos 2016) 366) y2016-12-31).0 refl) (refl, refl, refl, refl) (refl, refl, refl) year_end
      (clock_is 999_999 refl y2016-12-31 last_nanosecond ∙ sym (moment_is 999_999 refl y2016-12-31 last_nanosecond utc))
      ((year_decided 999_999 refl (pos 2016)).0 refl) (λ leap. (refl, refl)),
)

-- at -08:00 it is the last second before 16:00, and keeps its local time
pub leap_second_behind_utc : IsMoment 9_999 leap_second_of_1990 (Ok (record { date = y1990-12-31; time = before_four; offset = eight_behind }))
unfolding IsMoment IsDated IsTimed IsOffset
leap_second_behind_utc =
    let ends = clock_is 9_999 refl y1990-12-31 last_nanosecond ∙ sym (moment_is 9_999 refl y1990-12-31 before_four eight_behind) in
    at_month_end 9_999 leap_second_of_1990 y1990-12-31 before_four eight_behind
    ((row_decided 9_999 refl (by_ordinal (pos 1990) 365) y1990-12-31).0 refl) (refl, refl, refl, refl) (refl, refl, refl)
    (y1990-12-31, last_nanosecond, ends, (refl, refl), (year_decided 9_999 refl (pos 1990)).0 refl)

-- if leap seconds aren't allowed, the second isn't one
pub no_leap_second : IsUtcMoment 9_999 (record (second_60 366 23 59 (pos 0)) { leap_second_allowed = false }) (Err (range (codes "second") false))
unfolding IsUtcMoment IsUtcMomentOfParts IsDated IsTimed
no_leap_second =
    inr (y2016-12-31, (row_decided 9_999 refl (by_ordinal (pos 2016) 366) y2016-12-31).0 refl, inl (range (codes "second") false, refl, refl))

abbrev end_of_noon : Time
end_of_noon = time 12 0 59 999_999_999 refl

-- at noon, the day before, and at that time with an offset of an hour, it is an error
pub no_leap_second_at_noon : IsUtcMoment 9_999 (second_60 366 12 0 (pos 0)) (Err (range (codes "second") true))
    × IsUtcMoment 999_999 (second_60 366 12 0 (pos 0)) (Err (range (codes "second") true))
unfolding IsUtcMoment IsDated IsTimed IsOffsetOrUtc
no_leap_second_at_noon = (
  misplaced 9_999 (second_60 366 12 0 (pos 0)) y2016-12-31 end_of_noon utc
      ((row_decided 9_999 refl (by_ordinal (pos 2016) 366) y2016-12-31).0 refl) (refl, refl, refl, refl) (refl, refl, refl)
      (record { date = y2016-12-31; time = end_of_noon })
      (clock_is 9_999 refl y2016-12-31 end_of_noon ∙ sym (moment_is 9_999 refl y2016-12-31 end_of_noon utc))
      ((year_decided 9_999 refl (pos 2016)).0 refl) refl (λ h. omega (arith, h.0)),
  misplaced 999_999 (second_60 366 12 0 (pos 0)) y2016-12-31 end_of_noon utc
      ((row_decided 999_999 refl (by_ordinal (pos 2016) 366) y2016-12-31).0 refl) (refl, refl, refl, refl) (refl, refl, refl)
      (record { date = y2016-12-31; time = end_of_noon })
      (clock_is 999_999 refl y2016-12-31 end_of_noon ∙ sym (moment_is 999_999 refl y2016-12-31 end_of_noon utc))
      ((year_decided 999_999 refl (pos 2016)).0 refl) refl (λ h. omega (arith, h.0)),
)

pub no_leap_second_a_day_early : IsUtcMoment 9_999 (second_60 365 23 59 (pos 0)) (Err (range (codes "second") true))
unfolding IsUtcMoment IsDated IsTimed IsOffsetOrUtc
no_leap_second_a_day_early =
    misplaced 9_999 (second_60 365 23 59 (pos 0)) y2016-12-30 last_nanosecond utc
    ((row_decided 9_999 refl (by_ordinal (pos 2016) 365) y2016-12-30).0 refl) (refl, refl, refl, refl) (refl, refl, refl)
    (record { date = y2016-12-30; time = last_nanosecond })
    (clock_is 9_999 refl y2016-12-30 last_nanosecond ∙ sym (moment_is 9_999 refl y2016-12-30 last_nanosecond utc))
    ((year_decided 9_999 refl (pos 2016)).0 refl) refl (λ h. omega (arith, h.1))

abbrev hour_early : UtcDateTime
hour_early = record { date = y2016-12-31; time = time 22 59 59 999_999_999 refl }

pub no_leap_second_an_hour_early : IsUtcMoment 9_999 (second_60 366 23 59 (pos 1)) (Err (range (codes "second") true))
unfolding IsUtcMoment IsDated IsTimed IsOffsetOrUtc
no_leap_second_an_hour_early =
    misplaced 9_999 (second_60 366 23 59 (pos 1)) y2016-12-31 last_nanosecond hour_ahead
    ((row_decided 9_999 refl (by_ordinal (pos 2016) 366) y2016-12-31).0 refl) (refl, refl, refl, refl) (refl, refl, refl) hour_early
    (clock_is 9_999 refl y2016-12-31 hour_early.time ∙ sym (moment_is 9_999 refl y2016-12-31 last_nanosecond hour_ahead))
    ((year_decided 9_999 refl (pos 2016)).0 refl) refl (λ h. omega (arith, h.0))

-- so second 60 at noon resolves to no moment, and at a month's end it is neither an error nor the midnight after
pub not_those_leap_seconds : ((v : UtcDateTime) → IsUtcMoment 999_999 (second_60 366 12 0 (pos 0)) (Ok v) → ⊥)
    × (IsUtcMoment 999_999 (second_60 366 23 59 (pos 0)) (Err (range (codes "second") true)) → ⊥)
    × (IsUtcMoment 999_999 (second_60 366 23 59 (pos 0)) (Ok (record { date = date (pos 2017) January 1 refl; time = midnight })) → ⊥)
not_those_leap_seconds = (
  λ v h. Ok≢Err v _ (IsUtcMoment-one (second_60 366 12 0 (pos 0)) (Ok v) (Err (range (codes "second") true)) h no_leap_second_at_noon.1),
  λ h. Ok≢Err year_end _ (IsUtcMoment-one (second_60 366 23 59 (pos 0)) (Ok year_end) (Err (range (codes "second") true)) leap_second_at_month_end.1 h),
  λ h. omega (arith, ints, ap year_of_result (IsUtcMoment-one (second_60 366 23 59 (pos 0)) _ (Ok year_end) h leap_second_at_month_end.1)),
)

-- ---- Other values

-- at -23:59 the moment isn't one in UTC, of another year, or an error
pub not_those_moments : (IsMoment 999_999 last_of_9999 (Ok (record { date = y9999-12-31; time = last_nanosecond; offset = utc })) → ⊥)
    × (IsMoment 999_999 last_of_9999 (Ok (record { date = y10000-01-01; time = last_nanosecond; offset = day_behind })) → ⊥)
    × (IsMoment 999_999 last_of_9999 (Err (range (codes "year") true)) → ⊥)
not_those_moments = (
  λ h. omega (arith, ints, ap hours_of_result (IsMoment-one last_of_9999 _ (Ok last_moment) h last_of_9999_stays.1)),
  λ h. omega (arith, ints, ap clock_year_of_result (IsMoment-one last_of_9999 _ (Ok last_moment) h last_of_9999_stays.1)),
  λ h. Ok≢Err last_moment _ (IsMoment-one last_of_9999 (Ok last_moment) _ last_of_9999_stays.1 h),
)

-- and in UTC its year isn't that of its local time
pub not_that_moment_in_utc : IsUtcMoment 999_999 last_of_9999 (Ok (record { date = y9999-12-31; time = last_nanosecond })) → ⊥
not_that_moment_in_utc h =
    omega (arith, ints, ap year_of_result (IsUtcMoment-one last_of_9999 _ (Ok (record { date = y10000-01-01; time = late })) h last_of_9999_in_utc.1))

abbrev year_end_stamp : Timestamp
year_end_stamp = record {
  nanoseconds = pos 1_483_228_799_999_999_999;
  in_range = (instant_decided 999_999 refl (pos 1_483_228_799_999_999_999)).0 refl;
}

-- the instant of a moment in UTC, and one error in place of all of its errors
pub timestamps : IsTimestamp 9_999 (second_60 366 23 59 (pos 0)) (Ok year_end_stamp) × IsTimestamp 9_999 last_of_9999 (Err insufficient)
    × IsTimestamp 9_999 (second_60 366 12 0 (pos 0)) (Err insufficient) × IsTimestamp 9_999 empty (Err insufficient)
unfolding IsTimestamp IsInstantOfParts IsUtcMoment IsUtcMomentOfParts IsDated
timestamps = (
  (year_end, leap_second_at_month_end.0, sym (clock_is 9_999 refl y2016-12-31 last_nanosecond)),
  ((range (codes "year") true, last_of_9999_in_utc.0), refl),
  ((range (codes "second") true, no_leap_second_at_noon.0), refl),
  ((insufficient, inl (insufficient, refl, refl)), refl),
)

-- a timestamp of the wider range
abbrev stamp : (n : ℤ) → IsInstant 999_999 n → Timestamp
stamp n within = record { nanoseconds = n; in_range = within }

-- moments outside the narrower range in UTC have a timestamp in the wider one alone
pub timestamp_of_last_of_9999 : IsTimestamp 9_999 last_of_9999 (Err insufficient)
    × IsTimestamp 999_999 last_of_9999
    (Ok (stamp (pos 253_402_387_139_999_999_999) ((instant_decided 999_999 refl (pos 253_402_387_139_999_999_999)).0 refl)))
unfolding IsTimestamp IsInstantOfParts IsUtcMoment
timestamp_of_last_of_9999 = (
  ((range (codes "year") true, last_of_9999_in_utc.0), refl),
  (record { date = y10000-01-01; time = late }, last_of_9999_in_utc.1, sym (clock_is 999_999 refl y10000-01-01 late)),
)

pub timestamp_of_first_of_-9999 : IsTimestamp 9_999 first_of_-9999 (Err insufficient)
    × IsTimestamp 999_999 first_of_-9999
    (Ok (stamp (neg_ℤ (pos 377_705_120_400_000_000_000)) ((instant_decided 999_999 refl (neg_ℤ (pos 377_705_120_400_000_000_000))).0 refl)))
unfolding IsTimestamp IsInstantOfParts IsUtcMoment
timestamp_of_first_of_-9999 = (
  ((range (codes "year") true, first_of_-9999_in_utc.0), refl),
  (
    record { date = y-10000-12-31; time = time 23 0 0 0 refl },
    first_of_-9999_in_utc.1,
    sym (clock_is 999_999 refl y-10000-12-31 (time 23 0 0 0 refl)),
  ),
)

pub timestamp_of_minute_before_-9999 : IsTimestamp 9_999 minute_early (Err insufficient)
    × IsTimestamp 999_999 minute_early
    (Ok (stamp (neg_ℤ (pos 377_705_116_860_000_000_000)) ((instant_decided 999_999 refl (neg_ℤ (pos 377_705_116_860_000_000_000))).0 refl)))
unfolding IsTimestamp IsInstantOfParts IsUtcMoment
timestamp_of_minute_before_-9999 = (
  ((range (codes "year") true, minute_before_-9999), refl),
  (
    record { date = y-10000-12-31; time = last_minute },
    minute_before_-9999_to_999999,
    sym (clock_is 999_999 refl y-10000-12-31 last_minute),
  ),
)

pub not_those_timestamps : (IsTimestamp 999_999 stamped (Ok year_end_stamp) → ⊥) × (IsTimestamp 9_999 stamped (Ok year_end_stamp) → ⊥)
    × (IsTimestamp 999_999 stamped (Err insufficient) → ⊥)
unfolding IsTimestamp
not_those_timestamps = (λ h. omega (arith, ints, h.0), λ h. omega (arith, ints, h.0), λ h. h)
