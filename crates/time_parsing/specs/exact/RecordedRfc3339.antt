-- The record of an RFC 3339 text, parsed over an empty one.
use Rattle.std.proofs.Common.{◌≡◌, ◌≢◌, ◌≤◌, ℕ, pos, Bool, true, false, refl, sym, ap, ◌∙◌, subst, arith, List, [], Option, Some, None, Result, Ok, Err, IfSome}
use Rattle.std.specs.Prelude.{◌==◌, ◌++◌, ◌∷◌, if◌then◌else◌, unsigned_abs, nat_le}
use Rattle.std.proofs.lemmas.Bool.{le-leb}
use Rattle.std.proofs.lemmas.Bool.Decides.{nat_tests}
use Rattle.std.proofs.lemmas.Option.{same_Some}
use Rattle.time_values.specs.Dates as Dates
use Rattle.time_values.specs.Names.{month_number, month_refusal}
use Rattle.time_values.specs.Moments.{offset_date}
use Rattle.time_values.specs.Calendar.{greatest_year}
use Rattle.time_values.specs.Sign.{signed_by}
use Rattle.time_values.specs.declared.month.Month.{Month}
use Rattle.time_values.specs.declared.offset_date_time.OffsetDateTime.{OffsetDateTime}
use Rattle.time_values.specs.declared.error.Parse.{Parse}
use Rattle.time_readers.specs.Direct.{DirectRfc3339, IsDirectRfc3339, RefusesRfc3339, rfc3339_numbers, first_refusal, minute_refusal}
use Rattle.time_readers.specs.Rfc3339.{InRanges}
use Rattle.time_readers.specs.declared.rfc3339.Numbers.{Numbers}
use Rattle.time_readers.proofs.RangedForms.{HasForm-in_places, ranged_forms}
use Rattle.time_readers.proofs.MailRanges.{minute_stands, signed-abs}
use Rattle.time_record.specs.Record.{Record, Entry, empty, put_all, offset_second_is}
use Rattle.time_record.specs.Resolution.{IsMoment, clock_of, replace_leap_second, offset_seconds_of}
use Rattle.time_parsing.specs.Outcome.{IsOutcome, IsMomentOutcome, direct, seen}
use Rattle.time_parsing.specs.Rfc3339.{entries, date_entries, time_entries, subsecond_entries, numeric_offset_entries, offset_entries, without_offset_sign, with_leap_second, Reads, Refuses}
use Rattle.time_parsing.specs.exact.RecordedRfc2822.{AllInRange, put_each, put-each, in_range-append}
use Rattle.time_parsing.specs.exact.MomentOfNumbers.{HasNumbers, clock_of_numbers, accepted_ranges, made-resolves, resolves-made}

-- the record that a text with these numbers has over an empty one; m is its month
abbrev recorded : Numbers → Month → Record
recorded n m = record (with_leap_second (without_offset_sign empty)) {
  year = Some (pos n.year);
  month = Some m;
  day = Some n.day;
  hour_24 = Some n.hour;
  minute = Some n.minute;
  second = Some n.second;
  subsecond = n.subsecond;
  offset_hour = Some (signed_by n.offset_is_negative (pos n.offset_hour));
  offset_minute = Some (signed_by n.offset_is_negative (pos n.offset_minute));
  offset_second = if n.is_utc then Some (pos 0) else None;
}

near : (b : Bool) (v most : ℕ) → v ≤ most → nat_le (unsigned_abs (signed_by b (pos v))) most ≡ true
near b v most h = rw (signed-abs b v) (le-leb v most h)

subsecond-in_range : (o : Option ℕ) → IfSome o (λ v. v ≤ 999999999) → AllInRange greatest_year (subsecond_entries o)
subsecond-in_range None h = tt
subsecond-in_range (Some v) h = (le-leb v 999999999 h, tt)

second-in_range : (b : Bool) (es : List Entry) → AllInRange greatest_year es
    → AllInRange greatest_year (if b then es ++ offset_second_is (pos 0) ∷ [] else es)
second-in_range true es all = in_range-append greatest_year es (offset_second_is (pos 0) ∷ []) all (refl, tt)
second-in_range false es all = all

entries-in_range : (n : Numbers) (m : Month) → n.year ≤ greatest_year → InRanges n
    → IfSome n.subsecond (λ v. v ≤ 999999999) → n.offset_hour ≤ 25 → AllInRange greatest_year (entries n m)
entries-in_range n m year i subsecond hour =
    let offset : AllInRange greatest_year (numeric_offset_entries n) = (
      near n.offset_is_negative n.offset_hour 25 hour,
      (near n.offset_is_negative n.offset_minute 59 i.offset_minute.1, tt),
    ) in
    let others =
    in_range-append greatest_year (subsecond_entries n.subsecond) (offset_entries n)
    (subsecond-in_range n.subsecond subsecond) (second-in_range n.is_utc (numeric_offset_entries n) offset) in
    let date : AllInRange greatest_year (date_entries n m) =
    (le-leb n.year greatest_year year, (refl, (rw (le-leb 1 n.day i.day.0, le-leb n.day 31 i.day.1) refl, tt))) in
    in_range-append greatest_year (date_entries n m) (time_entries n ++ offset_entries n) date
    (le-leb n.hour 23 i.hour.1, (le-leb n.minute 59 i.minute.1, (le-leb n.second 60 i.second.1, others)))

same-recorded : (n : Numbers) (m : Month) (o : Option ℕ) (u : Bool) → n.subsecond ≡ o → n.is_utc ≡ u
    → put_each (entries n m) (with_leap_second (without_offset_sign empty)) ≡ recorded n m
same-recorded n m None true so su = rw (so, su) refl
same-recorded n m None false so su = rw (so, su) refl
same-recorded n m (Some v) true so su = rw (so, su) refl
same-recorded n m (Some v) false so su = rw (so, su) refl

put-recorded : (n : Numbers) (m : Month) → n.year ≤ greatest_year → InRanges n
    → IfSome n.subsecond (λ v. v ≤ 999999999) → n.offset_hour ≤ 25
    → put_all greatest_year (entries n m) (with_leap_second (without_offset_sign empty)) ≡ Some (recorded n m)
put-recorded n m year i subsecond hour =
    put-each greatest_year (entries n m) (with_leap_second (without_offset_sign empty))
    (entries-in_range n m year i subsecond hour) ∙ ap Some (same-recorded n m n.subsecond n.is_utc refl refl)

clock-recorded : (n : Numbers) (m : Month) (b : Bool) (o : Option ℕ) → (n.second == 60) ≡ b → n.subsecond ≡ o
    → clock_of (replace_leap_second (recorded n m)) ≡ Some (clock_of_numbers (rfc3339_numbers n))
clock-recorded n m true o leap so = rw leap refl
clock-recorded n m false None leap so = rw (leap, so) refl
clock-recorded n m false (Some v) leap so = rw (leap, so) refl

second-recorded : (n : Numbers) (m : Month) (u : Bool) → n.is_utc ≡ u → offset_seconds_of (recorded n m) ≡ pos 0
second-recorded n m true su = rw su refl
second-recorded n m false su = rw su refl

tells : (n : Numbers) (m : Month) → month_number m ≡ n.month → HasNumbers (recorded n m) m (rfc3339_numbers n)
tells n m month = record {
  row = refl;
  month = month;
  clock = clock-recorded n m (n.second == 60) n.subsecond refl refl;
  hour = refl;
  minute = refl;
  second = second-recorded n m n.is_utc refl;
  leap = refl;
  stamp = refl;
}

-- numbers that no part rejects are in their ranges
in_ranges : (n : Numbers) → n.month ≢ 0 → first_refusal greatest_year (rfc3339_numbers n) ≡ None
    → n.offset_minute ≤ 59 → InRanges n
in_ranges n some none minute =
    let a = accepted_ranges (rfc3339_numbers n) none in
    record {
      month = (omega (arith, some), a.month);
      day = a.day;
      hour = (omega arith, a.hour);
      minute = (omega arith, a.minute);
      second = (omega arith, a.second);
      offset_minute = (omega arith, minute);
    }

minute_within : (n : Numbers) → minute_refusal n ≡ None → n.offset_minute ≤ 59
minute_within n e = grind (arith, nat_tests)

-- a moment of the direct path is that of a parse over an empty record
pub direct-value : (bytes : List ℕ) (v : OffsetDateTime) → IsDirectRfc3339 greatest_year bytes v
    → IsOutcome (IsMoment greatest_year) (Reads greatest_year) (Refuses greatest_year) bytes empty (Ok v)
direct-value bytes v (n, form, last, made) =
    let m = Dates.month (offset_date v) in
    let minute = minute_within n last in
    let places = HasForm-in_places false bytes [] n form in
    let ranges = in_ranges n places.month_not_zero made.0 minute in
    let month = made.1.date.month in (
      recorded n m,
      (
        n,
        m,
        (ranged_forms bytes [] n).1 (form, ranges),
        month,
        put-recorded n m (omega (arith, places.year)) ranges places.subsecond
            (omega (arith, places.offset_hour)),
      ),
      made-resolves (recorded n m) m (rfc3339_numbers n) v (tells n m month) refl made,
    )

-- a moment of a parse over an empty record is that of the direct path
pub record-value : (bytes : List ℕ) (v : OffsetDateTime)
    → IsOutcome (IsMoment greatest_year) (Reads greatest_year) (Refuses greatest_year) bytes empty (Ok v)
    → IsDirectRfc3339 greatest_year bytes v
record-value bytes v (r, (n, m, form, month, put), moment) =
    let formed = (ranged_forms bytes [] n).0 form in
    let places = HasForm-in_places true bytes [] n form in
    let ranges = formed.1 in
    let told =
    put-recorded n m (omega (arith, places.year)) ranges places.subsecond
    (omega (arith, places.offset_hour)) in
    let same : r ≡ recorded n m = same_Some r (recorded n m) (sym put ∙ told) in
    let named : month_refusal n.month ≡ None = rw (le-leb n.month 12 ranges.month.1) refl in (
      n,
      formed.0,
      minute_stands n ranges.offset_minute.1,
      resolves-made (recorded n m) m (rfc3339_numbers n) v (tells n m month) (omega (arith, places.year)) named
          (subst (λ (x : Record). IsMoment greatest_year x (Ok v)) same moment),
    )

-- a result of the direct path, a moment or an error, is an outcome of a parse without defaults
pub direct-outcome : (bytes : List ℕ) (result : Result OffsetDateTime Parse)
    → DirectRfc3339 greatest_year bytes result
    → IsMomentOutcome greatest_year (direct (RefusesRfc3339 greatest_year)) (Reads greatest_year)
    (Refuses greatest_year) bytes None
    (seen result)
direct-outcome bytes (Ok v) answer = direct-value bytes v answer
direct-outcome bytes (Err e) answer = answer
