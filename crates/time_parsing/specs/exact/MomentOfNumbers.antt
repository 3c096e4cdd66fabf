-- A record with a text's numbers resolves to the moment that the numbers make, and to no other.
use Rattle.std.proofs.Common.{◌≡◌, ◌≤◌, ℕ, ℤ, pos, refl, sym, ap, ◌∙◌, subst, inl, inr, arith, Option, Some, None, Result, Ok, Err, IsTrue, MatchOption, IsOkAnd}
use Rattle.std.specs.Prelude.{◌==◌, if◌then◌else◌, unsigned_abs}
use Rattle.std.proofs.lemmas.Bool.Decides.{nat_tests}
use Rattle.std.specs.Option.{option_or}
use Rattle.std.proofs.lemmas.Bool.{le-leb, eqb-true, eq-eqb}
use Rattle.time_values.specs.Calendar.{month_length, greatest_year}
use Rattle.time_values.specs.Dates.{calendar_date_refusal, HasParts}
use Rattle.time_values.specs.Dates as Dates
use Rattle.time_values.specs.Names.{month_number, month_refusal}
use Rattle.time_values.specs.Moments.{offset_date, offset_time, offset_of}
use Rattle.time_values.specs.Offsets.{HasOffset, IsUtc, offset_refusal}
use Rattle.time_values.specs.Refusal.{Refusal, insufficient}
use Rattle.time_values.specs.Times.{HasClock, time_refusal}
use Rattle.time_values.specs.declared.date.Date.{Date}
use Rattle.time_values.specs.declared.month.Month.{Month}
use Rattle.time_values.specs.declared.offset_date_time.OffsetDateTime.{OffsetDateTime}
use Rattle.time_values.specs.declared.time.Time.{Time}
use Rattle.time_values.specs.declared.utc_offset.UtcOffset.{UtcOffset}
use Rattle.time_readers.specs.Direct.{moment_second, moment_nanosecond, date_refusal, first_refusal, HasDate, IsLeapSecondValid, IsMade}
use Rattle.time_readers.specs.declared.direct.MomentNumbers.{MomentNumbers}
use Rattle.time_record.specs.Record.{Record}
use Rattle.time_record.specs.Resolution as Resolution
use Rattle.time_record.specs.Resolution.{IsConstructed, Clock, clock_of, is_leap_second, replace_leap_second, offset_part, offset_seconds_of, IsDated, IsTimed, IsOffset, IsMomentOfParts, IsStamped, Row, by_month_and_day, first_row, HasRow, IsRowDate}

-- the clock of a text's numbers, with a leap second replaced by the last nanosecond before it
abbrev pub clock_of_numbers : MomentNumbers → Clock
clock_of_numbers s =
    record { hour = s.hour; minute = s.minute; second = moment_second s; nanosecond = moment_nanosecond s }

-- the record has the text's numbers, with the month m, 0 as the offset's second, and no timestamp; a second of 60 is a
-- leap second, which the record allows
pub record HasNumbers (r : Record) (m : Month) (s : MomentNumbers) : Type 0 where
  pub row : first_row r ≡ Some (by_month_and_day (pos s.year) m s.day)
  pub month : month_number m ≡ s.month
  pub clock : clock_of (replace_leap_second r) ≡ Some (clock_of_numbers s)
  pub hour : r.offset_hour ≡ Some s.offset_hour
  pub minute : offset_part r r.offset_minute ≡ s.offset_minute
  pub second : offset_seconds_of r ≡ pos 0
  pub leap : is_leap_second r ≡ (s.second == 60)
  pub stamp : r.unix_timestamp_nanos ≡ None

-- the first of two errors is none only if both are
or-none : (a b : Option Refusal) → option_or a b ≡ None → (a ≡ None) × (b ≡ None)
or-none None b e = (refl, e)
or-none (Some r) b e = absurd (cc)

leap_told : (r : Record) (s : MomentNumbers) → is_leap_second r ≡ (s.second == 60) → IsTrue (is_leap_second r)
    → s.second ≡ 60
leap_told r s same leap = eqb-true s.second 60 (sym same ∙ leap)

accepted : {V : Type 0} (o : Option Refusal) (P : V → Type 0) (v : V) → o ≡ None → P v → IsConstructed o P (Ok v)
accepted o P v none is = subst (λ x. IsConstructed x P (Ok v)) (sym none) is

-- if a value was constructed, there is no error, and the value has the property P
pub given : {V : Type 0} (o : Option Refusal) (P : V → Type 0) (v : V) → IsConstructed o P (Ok v) → (o ≡ None) × P v
given None P v h = (refl, h)
given (Some e) P v h = absurd h

-- a record with this first row has the date d; false if there is no row
abbrev DatedBy : Option Row → Date → Type 0
DatedBy row d =
    MatchOption row (◌≡◌ {A = Result Date Refusal} (Ok d) (Err insufficient)) (λ x. IsRowDate greatest_year x (Ok d))

to_date : (r : Record) (row : Row) (d : Date) → first_row r ≡ Some row → HasRow greatest_year row d
    → IsDated greatest_year r (Ok d)
unfolding IsDated
to_date r row d e h = subst (λ x. DatedBy x d) (sym e) h

of_date : (r : Record) (row : Row) (d : Date) → first_row r ≡ Some row → IsDated greatest_year r (Ok d)
    → HasRow greatest_year row d
unfolding IsDated
of_date r row d e h = subst (λ x. DatedBy x d) e h

-- the time has the numbers of the clock, which are in their ranges
abbrev ClockGives : Clock → Time → Type 0
ClockGives c t =
    IsConstructed (time_refusal c.hour c.minute c.second c.nanosecond)
    (HasClock c.hour c.minute c.second c.nanosecond) (Ok t)

-- a record with this clock has the time t; false if there is no clock
abbrev TimedBy : Option Clock → Time → Type 0
TimedBy clock t = MatchOption clock (◌≡◌ {A = Result Time Refusal} (Ok t) (Err insufficient)) (λ c. ClockGives c t)

to_time : (r : Record) (c : Clock) (t : Time) → clock_of r ≡ Some c → ClockGives c t → IsTimed r (Ok t)
unfolding IsTimed
to_time r c t e h = subst (λ x. TimedBy x t) (sym e) h

of_time : (r : Record) (c : Clock) (t : Time) → clock_of r ≡ Some c → IsTimed r (Ok t) → ClockGives c t
unfolding IsTimed
of_time r c t e h = subst (λ x. TimedBy x t) e h

-- the offset is that of this hour, minute and second by `HasOffset`, and they are in their ranges
abbrev OffsetGives : ℤ → ℤ → ℤ → UtcOffset → Type 0
OffsetGives h m s o = IsConstructed (offset_refusal h m s) (HasOffset h m s) (Ok o)

-- a record with these parts of an offset has the offset o; false if there is no hour
abbrev OffsetBy : Option ℤ → ℤ → ℤ → UtcOffset → Type 0
OffsetBy hour m s o =
    MatchOption hour (◌≡◌ {A = Result UtcOffset Refusal} (Ok o) (Err insufficient)) (λ h. OffsetGives h m s o)

to_offset : (r : Record) (s : MomentNumbers) (o : UtcOffset) → r.offset_hour ≡ Some s.offset_hour
    → offset_part r r.offset_minute ≡ s.offset_minute → offset_seconds_of r ≡ pos 0
    → OffsetGives s.offset_hour s.offset_minute (pos 0) o → IsOffset r (Ok o)
unfolding IsOffset
to_offset r s o hour minute second h =
    subst (λ x. OffsetBy x (offset_part r r.offset_minute) (offset_seconds_of r) o) (sym hour)
    (subst (λ x. OffsetGives s.offset_hour x (offset_seconds_of r) o) (sym minute)
    (subst (λ x. OffsetGives s.offset_hour s.offset_minute x o) (sym second) h))

of_offset : (r : Record) (s : MomentNumbers) (o : UtcOffset) → r.offset_hour ≡ Some s.offset_hour
    → offset_part r r.offset_minute ≡ s.offset_minute → offset_seconds_of r ≡ pos 0
    → IsOffset r (Ok o) → OffsetGives s.offset_hour s.offset_minute (pos 0) o
unfolding IsOffset
of_offset r s o hour minute second h =
    subst (λ x. OffsetGives s.offset_hour s.offset_minute x o) second
    (subst (λ x. OffsetGives s.offset_hour x (offset_seconds_of r) o) minute
    (subst (λ x. OffsetBy x (offset_part r r.offset_minute) (offset_seconds_of r) o) hour h))

-- the record, if its timestamp is `stamp`, has the moment v: that of its parts if there is no timestamp
abbrev MomentBy : Option ℤ → Record → OffsetDateTime → Type 0
MomentBy stamp r v =
    MatchOption stamp (IsMomentOfParts greatest_year r (Ok v))
    (λ n. IsOkAnd {E = Refusal} (Ok v)
    (λ v. IsStamped greatest_year n r.subsecond (offset_date v) (offset_time v) × IsUtc (offset_of v)))

to_parts : (r : Record) (v : OffsetDateTime) → r.unix_timestamp_nanos ≡ None → IsMomentOfParts greatest_year r (Ok v)
    → Resolution.IsMoment greatest_year r (Ok v)
unfolding Resolution.IsMoment
to_parts r v e h = subst (λ x. MomentBy x r v) (sym e) h

of_parts : (r : Record) (v : OffsetDateTime) → r.unix_timestamp_nanos ≡ None
    → Resolution.IsMoment greatest_year r (Ok v)
    → IsMomentOfParts greatest_year r (Ok v)
unfolding Resolution.IsMoment
of_parts r v e h = subst (λ x. MomentBy x r v) e h

-- if the numbers make a moment, the record with these numbers resolves to it
pub made-resolves : (r : Record) (m : Month) (s : MomentNumbers) (v : OffsetDateTime) → HasNumbers r m s
    → m ≡ Dates.month (offset_date v)
    → IsMade greatest_year s v → Resolution.IsMoment greatest_year r (Ok v)
unfolding IsMomentOfParts IsLeapSecondValid
made-resolves r m s v t same made =
    let second = moment_second s in
    let nanosecond = moment_nanosecond s in
    let refusals =
    or-none (date_refusal greatest_year s) (option_or (time_refusal s.hour s.minute second nanosecond)
    (offset_refusal s.offset_hour s.offset_minute (pos 0))) made.0 in
    let others =
    or-none (time_refusal s.hour s.minute second nanosecond)
    (offset_refusal s.offset_hour s.offset_minute (pos 0))
    refusals.1 in
    let row = by_month_and_day (pos s.year) m s.day in
    let date : HasParts (pos s.year) m s.day (offset_date v) = (made.1.date.year, sym same, made.1.date.day) in
    let clock = accepted (time_refusal s.hour s.minute second nanosecond) (HasClock s.hour s.minute second nanosecond)
    (offset_time v) others.0 made.1.clock in
    let offset = accepted (offset_refusal s.offset_hour s.offset_minute (pos 0))
    (HasOffset s.offset_hour s.offset_minute (pos 0)) (offset_of v) others.1 made.1.offset in
    to_parts r v t.stamp
    (inr (
      offset_date v,
      to_date r row (offset_date v) t.row (date, (offset_date v).year_in),
      inr (
        offset_time v,
        to_time (replace_leap_second r) (clock_of_numbers s) (offset_time v) t.clock clock,
        inr (
          offset_of v,
          to_offset r s (offset_of v) t.hour t.minute t.second offset,
          ((refl, refl, refl), λ leap. made.2 (leap_told r s t.leap leap)),
        ),
      ),
    ))

Err-Ok : {A : Type 0} (a : A) (e : Refusal) → ◌≡◌ {A = Result A Refusal} (Ok a) (Err e) → ⊥
Err-Ok a e h = cc

-- The numbers except the year and the fraction are in their ranges; but the month may be 0, or have no such day.
pub record Accepted (s : MomentNumbers) : Type 0 where
  pub month : s.month ≤ 12
  pub day : (1 ≤ s.day) × (s.day ≤ 31)
  pub hour : s.hour ≤ 23
  pub minute : s.minute ≤ 59
  pub second : s.second ≤ 60
  pub offset_hour : unsigned_abs s.offset_hour ≤ 25
  pub offset_minute : unsigned_abs s.offset_minute ≤ 59

hour_accepted : (h m s n : ℕ) → time_refusal h m s n ≡ None → h ≤ 23
hour_accepted h m s n e = grind (arith, nat_tests)

minute_accepted : (h m s n : ℕ) → time_refusal h m s n ≡ None → m ≤ 59
minute_accepted h m s n e = grind (arith, nat_tests)

second_accepted : (h m s n : ℕ) → time_refusal h m (if s == 60 then 59 else s) n ≡ None → s ≤ 60
second_accepted h m s n e = grind (arith, nat_tests)

month_accepted : (m : ℕ) → month_refusal m ≡ None → m ≤ 12
month_accepted m e = grind (arith, nat_tests)

-- no month has more than 31 days
pub month_short : (y : ℤ) (m : ℕ) → month_length y m ≤ 31
month_short y m = grind (arith, nat_tests)

day_accepted : (y : ℤ) (m d : ℕ) → calendar_date_refusal greatest_year y m d ≡ None → (1 ≤ d) × (d ≤ month_length y m)
day_accepted y m d e = (grind (arith, nat_tests), grind (arith, nat_tests))

-- the hour and the minute of an offset without an error are in their ranges
pub offset_accepted : (h m : ℤ) → offset_refusal h m (pos 0) ≡ None → (unsigned_abs h ≤ 25) × (unsigned_abs m ≤ 59)
offset_accepted h m e = (grind (arith, nat_tests), grind (arith, nat_tests))

-- numbers that no part rejects are in the ranges of `Accepted`: it excludes no year, no fraction and no month 0
pub accepted_ranges : (s : MomentNumbers) → first_refusal greatest_year s ≡ None → Accepted s
accepted_ranges s none =
    let second = moment_second s in
    let nanosecond = moment_nanosecond s in
    let clock = time_refusal s.hour s.minute second nanosecond in
    let refusals =
    or-none (date_refusal greatest_year s)
    (option_or clock (offset_refusal s.offset_hour s.offset_minute (pos 0))) none in
    let others = or-none clock (offset_refusal s.offset_hour s.offset_minute (pos 0)) refusals.1 in
    let date =
    or-none (month_refusal s.month) (calendar_date_refusal greatest_year (pos s.year) s.month s.day) refusals.0 in
    let day = day_accepted (pos s.year) s.month s.day date.1 in
    let offset = offset_accepted s.offset_hour s.offset_minute others.1 in
    record {
      month = month_accepted s.month date.0;
      day = (day.0, omega (arith, day.1, month_short (pos s.year) s.month));
      hour = hour_accepted s.hour s.minute second nanosecond others.0;
      minute = minute_accepted s.hour s.minute second nanosecond others.0;
      second = second_accepted s.hour s.minute s.second nanosecond others.0;
      offset_hour = offset.0;
      offset_minute = offset.1;
    }

-- if a date has the year, month and day of the numbers, these aren't rejected
dated-accepted : (s : MomentNumbers) (m : Month) (d : Date) → s.year ≤ greatest_year → month_number m ≡ s.month
    → month_refusal s.month ≡ None
    → HasParts (pos s.year) m s.day d → date_refusal greatest_year s ≡ None
dated-accepted s m d year month named parts =
    let length : month_length (pos s.year) s.month ≡ month_length d.year (month_number d.month) =
    ap (λ y. month_length y s.month) (sym parts.0)
    ∙ ap (month_length d.year) (sym month ∙ ap month_number (sym parts.1)) in
    let low : 1 ≤ s.day = subst (λ n. 1 ≤ n) parts.2 d.day_in.0 in
    let high : s.day ≤ month_length (pos s.year) s.month =
    subst (λ n. n ≤ month_length (pos s.year) s.month) parts.2
    (subst (λ n. d.day ≤ n) (sym length) d.day_in.1) in
    rw (
      named,
      le-leb s.year greatest_year year,
      le-leb 1 s.day low,
      le-leb s.day (month_length (pos s.year) s.month) high,
    ) refl

-- if the record's parts resolve to a moment, the text's numbers make that moment
by_parts : (r : Record) (m : Month) (s : MomentNumbers) (v : OffsetDateTime) → HasNumbers r m s → s.year ≤ greatest_year
    → month_refusal s.month ≡ None
    → IsMomentOfParts greatest_year r (Ok v) → IsMade greatest_year s v
unfolding IsMomentOfParts IsLeapSecondValid
by_parts r m s v t year named (inl (e, refused, clash)) = absurd (Err-Ok v e clash)
by_parts r m s v t year named (inr (d, dated, inl (e, refused, clash))) = absurd (Err-Ok v e clash)
by_parts r m s v t year named (inr (d, dated, inr (w, timed, inl (e, refused, clash)))) = absurd (Err-Ok v e clash)
by_parts r m s v t year named (inr (d, dated, inr (w, timed, inr (o, offset, judged)))) =
    let second = moment_second s in
    let nanosecond = moment_nanosecond s in
    let date = (of_date r (by_month_and_day (pos s.year) m s.day) d t.row dated).0 in
    let clock = given (time_refusal s.hour s.minute second nanosecond) (HasClock s.hour s.minute second nanosecond) w
    (of_time (replace_leap_second r) (clock_of_numbers s) w t.clock timed) in
    let parts =
    given (offset_refusal s.offset_hour s.offset_minute (pos 0)) (HasOffset s.offset_hour s.offset_minute (pos 0))
    o
    (of_offset r s o t.hour t.minute t.second offset) in
    let none = dated-accepted s m d year t.month named date in
    let is = judged.0 in
    let told : HasDate s (offset_date v) = record {
      year = ap Dates.year is.0 ∙ date.0;
      month = ap (λ x. month_number (Dates.month x)) is.0 ∙ (ap month_number date.1 ∙ t.month);
      day = ap Dates.day is.0 ∙ date.2;
    } in (
      rw (none, clock.0, parts.0) refl,
      record {
        date = told;
        clock = subst (HasClock s.hour s.minute second nanosecond) (sym is.1) clock.1;
        offset = subst (HasOffset s.offset_hour s.offset_minute (pos 0)) (sym is.2) parts.1;
      },
      λ leap.
          let at_end = judged.1 (t.leap ∙ eq-eqb s.second 60 leap) in
          rw (is.0, is.1, is.2) at_end,
    )

-- if the record with these numbers resolves to a moment, and their year and month are in range, they make that moment
pub resolves-made : (r : Record) (m : Month) (s : MomentNumbers) (v : OffsetDateTime) → HasNumbers r m s
    → s.year ≤ greatest_year
    → month_refusal s.month ≡ None
    → Resolution.IsMoment greatest_year r (Ok v) → IsMade greatest_year s v
resolves-made r m s v t year named moment = by_parts r m s v t year named (of_parts r v t.stamp moment)
