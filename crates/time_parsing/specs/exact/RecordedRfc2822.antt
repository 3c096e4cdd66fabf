-- The record of a mail date, parsed over an empty one.
use Rattle.std.specs.Prelude.{◌≡◌, ℕ, List, [], ◌∷◌, ◌++◌, Some, refl, ◌==◌, if◌then◌else◌, unsigned_abs, is_none, unwrap_or}
use Rattle.std.proofs.Common.{◌≤◌, pos, Bool, true, false, sym, ap, ◌∙◌, subst, arith, Option, None, Result, Ok, Err, IfSome}
use Rattle.std.proofs.lemmas.Bool.{le-leb}
use Rattle.std.proofs.lemmas.Option.{same_Some}
use Rattle.time_values.specs.Dates as Dates
use Rattle.time_values.specs.Names.{month_number, month_refusal}
use Rattle.time_values.specs.Moments.{offset_date}
use Rattle.time_values.specs.Calendar.{greatest_year}
use Rattle.time_values.specs.declared.month.Month.{Month}
use Rattle.time_values.specs.declared.offset_date_time.OffsetDateTime.{OffsetDateTime}
use Rattle.time_values.specs.declared.weekday.Weekday.{Weekday}
use Rattle.time_values.specs.declared.error.Parse.{Parse}
use Rattle.time_values.proofs.NumberLemmas.{same_month}
use Rattle.time_digits.specs.declared.Sign.{Sign}
use Rattle.time_components.proofs.NumberLemmas.{each_month}
use Rattle.time_readers.specs.Direct.{DirectRfc2822, IsDirectRfc2822, RefusesRfc2822, rfc2822_numbers, first_refusal}
use Rattle.time_readers.specs.Rfc2822.{InRanges}
use Rattle.time_readers.specs.declared.rfc2822.Numbers.{Numbers}
use Rattle.time_readers.proofs.MailRanges.{HasForm-in_places, HasForm-zone}
use Rattle.time_readers.proofs.RangedMail.{ranged_mail}
use Rattle.time_record.specs.Record.{Record, Entry, InRange, put_all, put_here, empty, day_is, month_is, year_is}
use Rattle.time_record.specs.Resolution.{IsMoment, clock_of, replace_leap_second, offset_seconds_of, offset_part, is_leap_second}
use Rattle.time_parsing.specs.Outcome.{IsOutcome, IsMomentOutcome, direct, seen}
use Rattle.time_parsing.specs.Rfc2822.{entries, weekday_entries, date_entries, second_entries, time_entries, offset_entries, Reads, Refuses}
use Rattle.time_parsing.specs.Rfc3339.{without_offset_sign, with_leap_second}
use Rattle.time_parsing.specs.exact.MomentOfNumbers.{HasNumbers, clock_of_numbers, accepted_ranges, made-resolves, resolves-made}

-- ---- Entries that are all in their ranges, stored in a record in turn

-- the record with the entries stored in turn, whether their values are in range or not
abbrev pub put_each : List Entry → Record → Record
put_each [] r = r
put_each (e ∷ es) r = put_each es (put_here e r)

-- the value of each entry is in the range of its option
abbrev pub AllInRange : ℕ → List Entry → Type 0
AllInRange Y [] = Unit {0}
AllInRange Y (e ∷ es) = InRange Y e × AllInRange Y es

-- if each value is in its range, storing the entries succeeds, and the result is `put_each`
pub put-each : (Y : ℕ) (es : List Entry) (r : Record) → AllInRange Y es → put_all Y es r ≡ Some (put_each es r)
put-each Y [] r all = refl
put-each Y (e ∷ es) r (one, others) = rw one (put-each Y es (put_here e r) others)

-- if the values of both lists are in their ranges, those of the joined list are
pub in_range-append : (Y : ℕ) (es fs : List Entry) → AllInRange Y es → AllInRange Y fs → AllInRange Y (es ++ fs)
in_range-append Y [] fs all others = others
in_range-append Y (e ∷ es) fs (one, all) others = (one, in_range-append Y es fs all others)

-- the record that a mail date with these numbers has over an empty one: for a zone name, which has no sign, the minute
-- and the second of the offset are 0
abbrev recorded : Numbers → Record
recorded n = record (with_leap_second (without_offset_sign empty)) {
  weekday = n.weekday;
  day = Some n.day;
  month = Some n.month;
  year = Some (pos n.year);
  hour_24 = Some n.hour;
  minute = Some n.minute;
  second = n.second;
  offset_hour = Some n.offset_hour;
  offset_minute = Some (if is_none n.offset_sign then pos 0 else n.offset_minute);
  offset_second = if is_none n.offset_sign then Some (pos 0) else None;
}

weekday-in_range : (o : Option Weekday) → AllInRange greatest_year (weekday_entries o)
weekday-in_range None = tt
weekday-in_range (Some w) = (refl, tt)

second-in_range : (o : Option ℕ) → IfSome o (λ v. v ≤ 60) → AllInRange greatest_year (second_entries o)
second-in_range None h = tt
second-in_range (Some v) h = (le-leb v 60 h, tt)

offset-in_range : (n : Numbers) (s : Option Sign) → InRanges n → AllInRange greatest_year (offset_entries s n)
offset-in_range n None i = (le-leb (unsigned_abs n.offset_hour) 25 i.offset_hour.1, (refl, (refl, tt)))
offset-in_range n (Some s) i =
    let minute = le-leb (unsigned_abs n.offset_minute) 59 i.offset_minute.1 in
    (le-leb (unsigned_abs n.offset_hour) 25 i.offset_hour.1, (minute, tt))

entries-in_range : (n : Numbers) → n.year ≤ greatest_year → InRanges n → IfSome n.second (λ v. v ≤ 60)
    → AllInRange greatest_year (entries n)
entries-in_range n year i second =
    let date =
    in_range-append greatest_year (weekday_entries n.weekday)
    (day_is n.day ∷ month_is n.month ∷ year_is (pos n.year) ∷ [])
    (weekday-in_range n.weekday)
    (rw (le-leb 1 n.day i.day.0, le-leb n.day 31 i.day.1) refl, (refl, (le-leb n.year greatest_year year, tt))) in
    let time : AllInRange greatest_year (time_entries n) =
    (le-leb n.hour 23 i.hour.1, (le-leb n.minute 59 i.minute.1, second-in_range n.second second)) in
    in_range-append greatest_year (date_entries n ++ time_entries n) (offset_entries n.offset_sign n)
    (in_range-append greatest_year (date_entries n) (time_entries n) date time) (offset-in_range n n.offset_sign i)

same-recorded : (n : Numbers) (w : Option Weekday) (o : Option ℕ) (s : Option Sign)
    → n.weekday ≡ w → n.second ≡ o → n.offset_sign ≡ s
    → put_each (entries n) (with_leap_second (without_offset_sign empty)) ≡ recorded n
same-recorded n None None None sw so ss = rw (sw, so, ss) refl
same-recorded n None None (Some s) sw so ss = rw (sw, so, ss) refl
same-recorded n None (Some v) None sw so ss = rw (sw, so, ss) refl
same-recorded n None (Some v) (Some s) sw so ss = rw (sw, so, ss) refl
same-recorded n (Some w) None None sw so ss = rw (sw, so, ss) refl
same-recorded n (Some w) None (Some s) sw so ss = rw (sw, so, ss) refl
same-recorded n (Some w) (Some v) None sw so ss = rw (sw, so, ss) refl
same-recorded n (Some w) (Some v) (Some s) sw so ss = rw (sw, so, ss) refl

put-recorded : (n : Numbers) → n.year ≤ greatest_year → InRanges n → IfSome n.second (λ v. v ≤ 60)
    → put_all greatest_year (entries n) (with_leap_second (without_offset_sign empty)) ≡ Some (recorded n)
put-recorded n year i second =
    put-each greatest_year (entries n) (with_leap_second (without_offset_sign empty)) (entries-in_range n year i second)
    ∙ ap Some (same-recorded n n.weekday n.second n.offset_sign refl refl refl)

clock-recorded : (n : Numbers) (o : Option ℕ) (b : Bool) → n.second ≡ o → (unwrap_or o 0 == 60) ≡ b
    → clock_of (replace_leap_second (recorded n)) ≡ Some (clock_of_numbers (rfc2822_numbers n))
clock-recorded n None b so leap = rw so refl
clock-recorded n (Some v) true so leap = rw (so, leap) refl
clock-recorded n (Some v) false so leap = rw (so, leap) refl

leap-recorded : (n : Numbers) (o : Option ℕ) → n.second ≡ o
    → is_leap_second (recorded n) ≡ (unwrap_or n.second 0 == 60)
leap-recorded n None so = rw so refl
leap-recorded n (Some v) so = rw so refl

minute-recorded : (n : Numbers) (s : Option Sign) → n.offset_sign ≡ s → (s ≡ None → n.offset_minute ≡ pos 0)
    → offset_part (recorded n) (recorded n).offset_minute ≡ n.offset_minute
minute-recorded n None ss none = rw ss (sym (none refl))
minute-recorded n (Some s) ss none = rw ss refl

second-recorded : (n : Numbers) (s : Option Sign) → n.offset_sign ≡ s → offset_seconds_of (recorded n) ≡ pos 0
second-recorded n None ss = rw ss refl
second-recorded n (Some s) ss = rw ss refl

tells : (n : Numbers) → (n.offset_sign ≡ None → n.offset_minute ≡ pos 0) → HasNumbers (recorded n) n.month
    (rfc2822_numbers n)
tells n none = record {
  row = refl;
  month = refl;
  clock = clock-recorded n n.second (unwrap_or n.second 0 == 60) refl refl;
  hour = refl;
  minute = minute-recorded n n.offset_sign refl none;
  second = second-recorded n n.offset_sign refl;
  leap = leap-recorded n n.second refl;
  stamp = refl;
}

-- if the second, or 0 for a missing one, is at most 60, then a second that isn't missing is 0 to 60
second_within : (o : Option ℕ) → unwrap_or o 0 ≤ 60 → IfSome o (λ v. (0 ≤ v) × (v ≤ 60))
second_within None h = tt
second_within (Some v) h = (omega arith, h)

second_of : (o : Option ℕ) → IfSome o (λ v. (0 ≤ v) × (v ≤ 60)) → IfSome o (λ v. v ≤ 60)
second_of None h = tt
second_of (Some v) h = h.1

-- numbers that no part rejects are in their ranges
in_ranges : (n : Numbers) → first_refusal greatest_year (rfc2822_numbers n) ≡ None → InRanges n
in_ranges n none =
    let a = accepted_ranges (rfc2822_numbers n) none in
    record {
      day = a.day;
      hour = (omega arith, a.hour);
      minute = (omega arith, a.minute);
      second = second_within n.second a.second;
      offset_hour = (omega arith, a.offset_hour);
      offset_minute = (omega arith, a.offset_minute);
    }

-- a moment of the direct path is that of a parse over an empty record
pub direct-value : (bytes : List ℕ) (v : OffsetDateTime) → IsDirectRfc2822 greatest_year bytes v
    → IsOutcome (IsMoment greatest_year) (Reads greatest_year) (Refuses greatest_year) bytes empty (Ok v)
direct-value bytes v (n, form, last, made) =
    let places = HasForm-in_places false bytes [] n form in
    let ranges = in_ranges n made.0 in
    let month : n.month ≡ Dates.month (offset_date v) =
    same_month n.month (Dates.month (offset_date v)) (sym made.1.date.month) in (
      recorded n,
      (
        n,
        (ranged_mail bytes [] n).1 (form, ranges),
        put-recorded n (omega (arith, places.year)) ranges
            (second_of n.second ranges.second),
      ),
      made-resolves (recorded n) n.month (rfc2822_numbers n) v (tells n
          (HasForm-zone false bytes [] n form)) month made,
    )

month_named : (m : Month) → month_refusal (month_number m) ≡ None
month_named = each_month (λ m. month_refusal (month_number m) ≡ None)
    (refl, refl, refl, refl, refl, refl, refl, refl, refl, refl, refl, refl)

-- a moment of a parse over an empty record is that of the direct path
pub record-value : (bytes : List ℕ) (v : OffsetDateTime)
    → IsOutcome (IsMoment greatest_year) (Reads greatest_year) (Refuses greatest_year) bytes empty (Ok v)
    → IsDirectRfc2822 greatest_year bytes v
record-value bytes v (r, (n, form, put), moment) =
    let formed = (ranged_mail bytes [] n).0 form in
    let places = HasForm-in_places true bytes [] n form in
    let ranges = formed.1 in
    let told =
    put-recorded n (omega (arith, places.year)) ranges
    (second_of n.second ranges.second) in
    let same : r ≡ recorded n = same_Some r (recorded n) (sym put ∙ told) in (
      n,
      formed.0,
      refl,
      resolves-made (recorded n) n.month (rfc2822_numbers n) v (tells n (HasForm-zone true bytes [] n form))
          (omega (arith, places.year)) (month_named n.month)
          (subst (λ (x : Record). IsMoment greatest_year x (Ok v)) same moment),
    )

-- a result of the direct path, a moment or an error, is an outcome of a parse without defaults
pub direct-outcome : (bytes : List ℕ) (result : Result OffsetDateTime Parse)
    → DirectRfc2822 greatest_year bytes result
    → IsMomentOutcome greatest_year (direct (RefusesRfc2822 greatest_year)) (Reads greatest_year)
    (Refuses greatest_year) bytes None
    (seen result)
direct-outcome bytes (Ok v) answer = direct-value bytes v answer
direct-outcome bytes (Err e) answer = answer
