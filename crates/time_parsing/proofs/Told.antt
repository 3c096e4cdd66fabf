-- The numbers that a written text has for a moment, and that they form that moment.
use Rattle.std.proofs.Common.{rules, ◌≡◌, ◌≢◌, ◌≤◌, ◌<◌, ◌-◌, ◌^◌, ℕ, zero, suc, ℤ, pos, negsuc, neg_ℤ, unsigned_abs, Bool, true, false, None, refl, sym, ap, ◌∙◌, subst, arith}
use Rattle.std.specs.Prelude.{◌==◌, ◌||◌, if◌then◌else◌, int_lt}
use Rattle.std.specs.Option.{option_or}
use Rattle.std.proofs.lemmas.Bool.{le-leb}
use Rattle.std.proofs.lemmas.Bool.Decides.{nat_tests}
use Rattle.std.proofs.lemmas.Int.{ints}
use Rattle.std.proofs.Math.Nat.{div-mul-le_self}
use Rattle.time_values.specs.Calendar.{IsBetween, greatest_year}
use Rattle.time_values.specs.Dates.{calendar_date_refusal}
use Rattle.time_values.specs.Dates as Dates
use Rattle.time_values.specs.Moments.{offset_date, offset_time, offset_of}
use Rattle.time_values.specs.Names.{month_number, month_refusal}
use Rattle.time_values.specs.Offsets as Offsets
use Rattle.time_values.specs.Offsets.{offset_refusal}
use Rattle.time_values.specs.Sign.{signed_by, same_sign}
use Rattle.time_values.specs.Times as Times
use Rattle.time_values.specs.Times.{time_refusal}
use Rattle.time_values.specs.declared.date.Date.{Date}
use Rattle.time_values.specs.declared.offset_date_time.OffsetDateTime.{OffsetDateTime}
use Rattle.time_values.specs.declared.time.Time.{Time}
use Rattle.time_values.proofs.NumberLemmas.{month_number_in}
use Rattle.time_digits.specs.Digits.{sign_byte, is_negative}
use Rattle.time_readers.specs.Direct.{moment_second, moment_nanosecond, first_refusal, IsLeapSecondValid, IsMoment, IsMade}
use Rattle.time_digits.specs.declared.Sign.{Sign}
use Rattle.time_digits.specs.declared.Sign.TheVariants.{Negative, Positive}
use Rattle.time_readers.specs.declared.direct.MomentNumbers.{MomentNumbers}
use Rattle.time_parsing.specs.Written.{kept, IsCut}
use Rattle.time_parsing.specs.exact.MomentOfNumbers.{month_short}

-- no part of a date that exists is rejected
no_date_refusal : (d : Date) → calendar_date_refusal greatest_year (Dates.year d) (month_number (Dates.month d)) (Dates.day d) ≡ None
no_date_refusal d = let year = d.year_in in let day = d.day_in in grind (arith, nat_tests)

no_month_refusal : (d : Date) → month_refusal (month_number (Dates.month d)) ≡ None
no_month_refusal d = let within = month_number_in (Dates.month d) in rw (le-leb (month_number (Dates.month d)) 12 (omega arith)) refl

-- a natural number is not below 0
not_below : (m : ℕ) → int_lt (pos m) (pos 0) ≡ false
not_below m = search rules

-- the hours and minutes of one sign, by the sign of both
pub signed_hours : (h m : ℤ) → m ≡ same_sign h m → h ≡ signed_by (int_lt h (pos 0) || int_lt m (pos 0)) (pos (unsigned_abs h))
signed_hours (pos zero) (pos m) is = rw (not_below m) refl
signed_hours (pos zero) (negsuc m) is = refl
signed_hours (pos (suc h)) (pos m) is = rw (not_below (suc h), not_below m) refl
signed_hours (pos (suc h)) (negsuc m) is = absurd (cc)
signed_hours (negsuc h) m is = refl

pub signed_minutes : (h m : ℤ) → m ≡ same_sign h m → m ≡ signed_by (int_lt h (pos 0) || int_lt m (pos 0)) (pos (unsigned_abs m))
signed_minutes (pos zero) (pos m) is = rw (not_below m) refl
signed_minutes (pos zero) (negsuc m) is = refl
signed_minutes (pos (suc h)) (pos m) is = rw (not_below (suc h), not_below m) refl
signed_minutes (pos (suc h)) (negsuc m) is = absurd (cc)
signed_minutes (negsuc h) m is = is

-- no second has no sign
pub no_second : (h m : ℤ) → pos 0 ≡ same_sign h (same_sign m (pos 0))
no_second (pos zero) (pos zero) = refl
no_second (pos zero) (pos (suc m)) = refl
no_second (pos zero) (negsuc m) = refl
no_second (pos (suc h)) (pos zero) = refl
no_second (pos (suc h)) (pos (suc m)) = refl
no_second (pos (suc h)) (negsuc m) = refl
no_second (negsuc h) (pos zero) = refl
no_second (negsuc h) (pos (suc m)) = refl
no_second (negsuc h) (negsuc m) = refl

-- the sign of an offset
abbrev pub sign_of : Bool → Sign
sign_of b = if b then Negative else Positive

pub is_negative-sign_of : (b : Bool) → is_negative (sign_of b) ≡ b
is_negative-sign_of true = refl
is_negative-sign_of false = refl

pub sign_byte-sign_of : (b : Bool) → sign_byte (sign_of b) ≡ (if b then 45 else 43)
sign_byte-sign_of true = refl
sign_byte-sign_of false = refl

-- The numbers in the text of a moment with k digits of its fraction.
abbrev pub told : ℕ → OffsetDateTime → MomentNumbers
told k v = record {
  year = unsigned_abs (Dates.year (offset_date v));
  month = month_number (Dates.month (offset_date v));
  day = Dates.day (offset_date v);
  hour = Times.hour (offset_time v);
  minute = Times.minute (offset_time v);
  second = Times.second (offset_time v);
  nanosecond = kept k (Times.nanosecond (offset_time v));
  offset_hour = Offsets.hours (offset_of v);
  offset_minute = Offsets.minutes (offset_of v);
}

not_sixty : (n : ℕ) → n < 60 → (n == 60) ≡ false
not_sixty n h = grind (arith, nat_tests)

shown-second : (k : ℕ) (v : OffsetDateTime) → moment_second (told k v) ≡ Times.second (offset_time v)
shown-second k v = rw (not_sixty (Times.second (offset_time v)) (offset_time v).second_in) refl

shown-nanosecond : (k : ℕ) (v : OffsetDateTime) → moment_nanosecond (told k v) ≡ kept k (Times.nanosecond (offset_time v))
shown-nanosecond k v = rw (not_sixty (Times.second (offset_time v)) (offset_time v).second_in) refl

pub year-said : (y : ℤ) → IsBetween (pos 0) (pos 9999) y → y ≡ pos (unsigned_abs y)
year-said (pos n) h = refl
year-said (negsuc n) h = absurd (omega (arith, ints, h))

pub year-below : (y : ℤ) → IsBetween (pos 0) (pos 9999) y → unsigned_abs y < 10 ^ 4
year-below (pos n) h = omega (arith, ints, h)
year-below (negsuc n) h = absurd (omega (arith, ints, h))

pub all_hours-below : (h : ℤ) → IsBetween (neg_ℤ (pos 25)) (pos 25) h → unsigned_abs h ≤ 25
all_hours-below (pos n) h = omega (arith, ints, h)
all_hours-below (negsuc n) h = omega (arith, ints, h)

pub hours-below : (h : ℤ) → IsBetween (neg_ℤ (pos 23)) (pos 23) h → unsigned_abs h ≤ 23
hours-below (pos n) h = omega (arith, ints, h)
hours-below (negsuc n) h = omega (arith, ints, h)

pub minutes-below : (m : ℤ) → IsBetween (neg_ℤ (pos 59)) (pos 59) m → unsigned_abs m ≤ 59
minutes-below (pos n) h = omega (arith, ints, h)
minutes-below (negsuc n) h = omega (arith, ints, h)

-- no number of the text is rejected
date-taken : (d : Date) → IsBetween (pos 0) (pos 9999) (Dates.year d) →
    option_or (month_refusal (month_number (Dates.month d)))
    (calendar_date_refusal greatest_year (pos (unsigned_abs (Dates.year d))) (month_number (Dates.month d)) (Dates.day d)) ≡ None
date-taken d year =
    let number = month_number (Dates.month d) in
    subst (λ y. option_or (month_refusal number) (calendar_date_refusal greatest_year y number (Dates.day d)) ≡ None)
    (year-said (Dates.year d) year) (rw (no_month_refusal d, no_date_refusal d) refl)

no_refusal-kept : (k : ℕ) (t : Time) →
    time_refusal (Times.hour t) (Times.minute t) (Times.second t) (kept k (Times.nanosecond t)) ≡ None
no_refusal-kept k t =
    let h = t.hour_in in let m = t.minute_in in let s = t.second_in in let n = t.nanosecond_in in
    let less = div-mul-le_self t.nanosecond (10 ^ (9 - k)) in
    rw (
      le-leb t.hour 23 (omega arith),
      le-leb t.minute 59 (omega arith),
      le-leb t.second 59 (omega arith),
      le-leb
          (kept k t.nanosecond) 999_999_999 (omega (arith, less, n)),
    ) refl

pub offset-taken : (h m : ℤ) → unsigned_abs h ≤ 25 → unsigned_abs m ≤ 59 → offset_refusal h m (pos 0) ≡ None
offset-taken h m p q = rw (le-leb (unsigned_abs h) 25 p, le-leb (unsigned_abs m) 59 q) refl

pub some_month : (d : Date) → month_number (Dates.month d) ≢ 0
some_month d is = let within = month_number_in (Dates.month d) in absurd (omega (arith, within, is))

pub some_day : (d : Date) → Dates.day d ≢ 0
some_day d is = let day = d.day_in in absurd (omega (arith, day, is))

pub day_below : (d : Date) → Dates.day d < 10 ^ 2
day_below d =
    let day = d.day_in in
    omega (arith, day, month_short (Dates.year d) (month_number (Dates.month d)))

module _ (k : ℕ) (v w : OffsetDateTime) (cut : IsCut k v w)
    (year : IsBetween (pos 0) (pos 9999) (Dates.year (offset_date v)))
    (whole : Offsets.seconds (offset_of v) ≡ pos 0) where
  all-taken : first_refusal greatest_year (told k v) ≡ None
  all-taken =
      let below = all_hours-below (Offsets.hours (offset_of v)) (offset_of v).hours_in in
      let offset = offset-taken (Offsets.hours (offset_of v)) (Offsets.minutes (offset_of v)) below (minutes-below (Offsets.minutes (offset_of v))
      (offset_of v).minutes_in) in
      rw (date-taken (offset_date v) year, shown-second k v, shown-nanosecond k v, no_refusal-kept k (offset_time v), offset) refl

  moment-told : IsMoment (told k v) w
  moment-told = record {
    date = record {
      year = ap Dates.year cut.date ∙ year-said (Dates.year (offset_date v)) year;
      month = ap (λ d. month_number (Dates.month d)) cut.date;
      day = ap Dates.day cut.date;
    };
    clock = (cut.clock.0, cut.clock.1, cut.clock.2 ∙ sym (shown-second k v), cut.clock.3 ∙ sym (shown-nanosecond k v));
    offset = (
      ap Offsets.hours cut.offset,
      ap Offsets.minutes cut.offset ∙ (offset_of v).one_sign.0,
      ap Offsets.seconds cut.offset ∙ whole ∙ no_second (Offsets.hours (offset_of v)) (Offsets.minutes (offset_of v)),
    );
  }

  no_leap_second : IsLeapSecondValid greatest_year (told k v) w
  unfolding IsLeapSecondValid
  no_leap_second leap = let below = (offset_time v).second_in in absurd (omega (arith, below, leap))

  pub made : IsMade greatest_year (told k v) w
  made = (all-taken, moment-told, no_leap_second)
