-- The parts of an ISO 8601 text are what is read after each of them.
use Rattle.std.specs.Prelude.{MatchResult, ◌==◌, nat_le, unsigned_abs, option_map, is_some}
use Rattle.std.specs.Borrow.{Bor}
use Rattle.std.proofs.Common.{◌≡◌, ◌∙◌, refl, sym, ap, ◌⊎◌, inl, inr, ℕ, List, true, false, Option, Some, None, Result, Ok, Err, ◌≤◌, ℤ, pos, subst}
use Rattle.std.proofs.Common.{arith, [], ◌∷◌, length, IfSome}
use Rattle.std.proofs.lemmas.Option.{none-some, same_Some}
use Rattle.std.proofs.lemmas.Bool.{le-leb, eqb-true}
use Rattle.std.proofs.lemmas.Bool.Decides.{nat_tests}
use Rattle.time_values.specs.Refusal.{Refusal, refusal_of_description}
use Rattle.time_values.specs.declared.error.ParseFromDescription.{ParseFromDescription}
use Rattle.time_values.specs.Dates as Dates
use Rattle.time_values.specs.Names.{month_number}
use Rattle.time_values.specs.Moments.{plain_date, plain_time, offset_date, offset_time, offset_of}
use Rattle.time_values.specs.Offsets.{HasOffset, offset_refusal}
use Rattle.time_values.specs.Calendar.{greatest_year}
use Rattle.time_values.specs.Times as Times
use Rattle.time_values.specs.declared.date.Date.{Date}
use Rattle.time_values.specs.declared.offset_date_time.OffsetDateTime.{OffsetDateTime}
use Rattle.time_values.specs.declared.plain_date_time.PlainDateTime.{PlainDateTime}
use Rattle.time_values.specs.declared.time.Time.{Time}
use Rattle.time_values.specs.declared.utc_offset.UtcOffset.{UtcOffset}
use Rattle.time_readers.specs.IsoPieces.{Found, byte, sign}
use Rattle.time_readers.specs.declared.iso8601.ExtendedKind.TheVariants.{Unknown}
use Rattle.time_readers.specs.IsoDates.{IsoDate, date_text}
use Rattle.time_readers.specs.IsoGrammar.{offset_by_pieces}
use Rattle.time_readers.specs.IsoOffsets.{offset_text, offset_found}
use Rattle.time_readers.specs.IsoTimes.{time_text}
use Rattle.time_readers.specs.declared.iso8601.ExtendedKind.{ExtendedKind}
use Rattle.time_readers.specs.declared.iso8601.OffsetNumbers.{OffsetNumbers}
use Rattle.time_readers.specs.declared.iso8601.OffsetNumbers.TheVariants.{Zulu, Numeric}
use Rattle.time_readers.specs.declared.iso8601.TimeNumbers.{TimeNumbers}
use Rattle.time_readers.proofs.IsoTimes.{offset_by_pieces_is}
use Rattle.time_record.specs.Record.{Record, empty}
use Rattle.time_record.specs.Resolution.{IsDated, IsTimed, IsOffset, IsPlain, IsMoment, IsMomentOfParts, replace_leap_second}
use Rattle.time_parsing.specs.Iso8601.{date_over, time_over, offset_over, reading, Reads, iso_date_of, time_numbers_of, IsOffsetOfNumbers}
use Rattle.time_parsing.specs.IsoSteps.{after_time, answer}
use Rattle.time_parsing.specs.Rfc3339.{with_leap_second}
use Rattle.time_parsing.specs.exact.MomentOfNumbers.{given, month_short, offset_accepted}

Ok-Err : {A : Type 0} (a : A) (e : Refusal) → ◌≡◌ {A = Result A Refusal} (Err e) (Ok a) → ⊥
Ok-Err a e h = cc

same_Ok : {A : Type 0} (a b : A) → ◌≡◌ {A = Result A Refusal} (Ok a) (Ok b) → a ≡ b
same_Ok a b h = cc

same_Err : {A : Type 0} (e f : Refusal) → ◌≡◌ {A = Result A Refusal} (Err e) (Err f) → e ≡ f
same_Err e f h = cc

module _ (Y : ℕ) (b : List ℕ) (r : Record) where
  -- both definitions have one rest and record, or the date's error
  abbrev Agree : Type 0
  Agree =
      ((p : List ℕ × Record) × (answer Y b r ≡ Ok p) × (reading Y b r ≡ Some p))
      ⊎ ((e : Refusal) × (answer Y b r ≡ Err e) × (reading Y b r ≡ None) × (date_over Y b r ≡ Err e))

  -- a date
  module _ (d : Found Record) (date : date_over Y b r ≡ Ok d) where
    after_both : (t : Found Record) (o : Option (Found Record)) → time_over Y true d.kind d.rest d.value ≡ Some t
        → offset_over Y t.kind t.rest t.value ≡ o → Agree
    unfolding answer reading after_time
    after_both t None time offset = inl ((t.rest, t.value), rw (date, time, offset) refl, rw (date, time, offset) refl)
    after_both t (Some f) time offset = inl ((f.rest, f.value), rw (date, time, offset) refl, rw (date, time, offset) refl)

    with_date : (t : Option (Found Record)) → time_over Y true d.kind d.rest d.value ≡ t → Agree
    unfolding answer reading
    with_date None time = inl ((d.rest, d.value), rw (date, time) refl, rw (date, time) refl)
    with_date (Some t) time = after_both t (offset_over Y t.kind t.rest t.value) time refl

  -- no date
  module _ (fault : Refusal) (date : date_over Y b r ≡ Err fault) where
    time_alone : (t : Found Record) (o : Option (Found Record)) → time_over Y false Unknown b r ≡ Some t
        → offset_over Y t.kind t.rest t.value ≡ o → Agree
    unfolding answer reading after_time
    time_alone t None time offset = inl ((t.rest, t.value), rw (date, time, offset) refl, rw (date, time, offset) refl)
    time_alone t (Some f) time offset = inl ((f.rest, f.value), rw (date, time, offset) refl, rw (date, time, offset) refl)

    offset_alone : (o : Option (Found Record)) → time_over Y false Unknown b r ≡ None → offset_over Y Unknown b r ≡ o → Agree
    unfolding answer reading
    offset_alone None time offset = inr (fault, rw (date, time, offset) refl, rw (date, time, offset) refl, date)
    offset_alone (Some f) time offset = inl ((f.rest, f.value), rw (date, time, offset) refl, rw (date, time, offset) refl)

    no_date : (t : Option (Found Record)) → time_over Y false Unknown b r ≡ t → Agree
    no_date None time = offset_alone (offset_over Y Unknown b r) time refl
    no_date (Some t) time = time_alone t (offset_over Y t.kind t.rest t.value) time refl

  by_date : (d : Result (Found Record) Refusal) → date_over Y b r ≡ d → Agree
  by_date (Ok d) date = with_date d date (time_over Y true d.kind d.rest d.value) refl
  by_date (Err fault) date = no_date fault date (time_over Y false Unknown b r) refl

  agree : Agree
  agree = by_date (date_over Y b r) refl

  pub read-answered : (p : List ℕ × Record) → reading Y b r ≡ Some p → answer Y b r ≡ Ok p
  read-answered p h =
      elim agree [
        | inl (q, said, read) ↦ said ∙ ap (λ x. Ok x) (same_Some q p (sym read ∙ h))
        | inr (e, said, none, date) ↦ absurd (none-some p (sym none ∙ h))
      ]

  pub answered-read : (p : List ℕ × Record) → answer Y b r ≡ Ok p → reading Y b r ≡ Some p
  answered-read p h =
      elim agree [
        | inl (q, said, read) ↦ read ∙ ap (λ x. Some x) (same_Ok q p (sym said ∙ h))
        | inr (e, said, none, date) ↦ absurd (Ok-Err p e (sym said ∙ h))
      ]

  answered-refused : (e : Refusal) → answer Y b r ≡ Err e → (reading Y b r ≡ None) × (date_over Y b r ≡ Err e)
  answered-refused e h =
      elim agree [
        | inl (q, said, read) ↦ absurd (Ok-Err q e (sym h ∙ said))
        | inr (f, said, none, date) ↦ (none, date ∙ ap (λ x. Err x) (same_Err {A = List ℕ × Record} f e (sym said ∙ h)))
      ]

  -- the result of a call
  pub answered : (q : Record) (result : Result (Bor (List ℕ)) ParseFromDescription)
      → MatchResult result (λ rest. answer Y b r ≡ Ok (rest.now, q)) (λ e. answer Y b r ≡ Err (refusal_of_description e))
      → MatchResult result (λ rest. reading Y b r ≡ Some (rest.now, q))
      (λ e. (reading Y b r ≡ None) × (date_over Y b r ≡ Err (refusal_of_description e)))
  answered q (Ok rest) h = answered-read (rest.now, q) h
  answered q (Err e) h = answered-refused (refusal_of_description e) h

-- ---- The record of an ISO 8601 text with the parts of a value resolves to that value

-- The whole text is read over an empty record, which then resolves to that date and time; if there is an offset, it
-- resolves to the moment of all three.
abbrev pub IsWholeText : List ℕ → PlainDateTime → Option UtcOffset → Type 0
IsWholeText bytes p o =
    (r : Record) × Reads greatest_year bytes empty [] r × IsPlain greatest_year r (Ok p)
    × IfSome o (λ o. (v : OffsetDateTime) → offset_date v ≡ plain_date p → offset_time v ≡ plain_time p → offset_of v ≡ o
    → IsMoment greatest_year r (Ok v))

-- the record of a date, a time and an offset
abbrev recorded : Date → Time → Option ℤ → Option ℤ → Option ℤ → Record
recorded d t hour minute second = record (with_leap_second empty) {
  year = Some (Dates.year d);
  month = Some (Dates.month d);
  day = Some (Dates.day d);
  hour_24 = Some (Times.hour t);
  minute = Some (Times.minute t);
  second = Some (Times.second t);
  subsecond = Some (Times.nanosecond t);
  offset_hour = hour;
  offset_minute = minute;
  offset_second = second;
}

year_within : (d : Date) → nat_le (unsigned_abs (Dates.year d)) greatest_year ≡ true
year_within d = let year = d.year_in in grind (arith, nat_tests)

day_within : (d : Date) → Dates.day d ≤ 31
day_within d = omega (arith, d.day_in.1, month_short (Dates.year d) (month_number (Dates.month d)))

no_leap : (t : Time) → (Times.second t == 60) ≡ false
no_leap t = let second = t.second_in in grind (arith, nat_tests)

pub no_bytes : (bytes : List ℕ) → (length bytes == 0) ≡ true → bytes ≡ []
no_bytes [] e = refl
no_bytes (b ∷ bytes) e = absurd (omega (arith, eqb-true (length (b ∷ bytes)) 0 e))

-- the date and the time are stored
parts_put : (bytes between rest : List ℕ) (k l : ExtendedKind) (x : IsoDate) (y : TimeNumbers) (d : Date) (t : Time)
    → date_text bytes ≡ Ok (record { rest = between; value = x; kind = k })
    → time_text true k between ≡ Some (record { rest = rest; value = y; kind = l })
    → x ≡ iso_date_of d → y ≡ time_numbers_of t
    → answer greatest_year bytes (with_leap_second empty)
    ≡ Ok (after_time greatest_year l rest (recorded d t None None None))
unfolding answer date_over time_over
parts_put bytes between rest k l x y d t date time said told =
    rw (
      date,
      said,
      year_within d,
      le-leb 1 (Dates.day d) d.day_in.0,
      le-leb (Dates.day d) 31 (day_within d),
      time,
      told,
      le-leb (Times.hour t) 23 (omega (arith, t.hour_in)),
      le-leb (Times.minute t) 59 (omega (arith, t.minute_in)),
      le-leb (Times.second t) 60 (omega (arith, t.second_in)),
      le-leb (Times.nanosecond t) 999999999 (omega (arith, t.nanosecond_in)),
    ) refl

dated : (d : Date) (t : Time) (h m s : Option ℤ) → IsDated greatest_year (recorded d t h m s) (Ok d)
unfolding IsDated
dated d t h m s = ((refl, refl, refl), d.year_in)

timed : (d : Date) (t : Time) (h m s : Option ℤ) → IsTimed (recorded d t h m s) (Ok t)
unfolding IsTimed
timed d t h m s =
    rw (
      le-leb (Times.hour t) 23 (omega (arith, t.hour_in)),
      le-leb (Times.minute t) 59 (omega (arith, t.minute_in)),
      le-leb (Times.second t) 59 (omega (arith, t.second_in)),
      le-leb (Times.nanosecond t) 999999999 (omega (arith, t.nanosecond_in)),
    ) (refl, refl, refl, refl)

stood_in : (d : Date) (t : Time) (h m s : Option ℤ) → IsTimed (replace_leap_second (recorded d t h m s)) (Ok t)
stood_in d t h m s = rw (no_leap t) (timed d t h m s)

no_offset : (l : ExtendedKind) → offset_text l [] ≡ None
unfolding offset_by_pieces byte sign
no_offset l = offset_by_pieces_is l []

nothing_after : (l : ExtendedKind) (rest : List ℕ) (r : Record) → rest ≡ [] → after_time greatest_year l rest r ≡ ([], r)
unfolding after_time offset_over
nothing_after l rest r end = rw (end, no_offset l) refl

unsaid : false ≡ true → ⊥
unsaid clash = cc

-- the moment of the record
resolves : (h m s : Option ℤ) (v : OffsetDateTime)
    → IsOffset (recorded (offset_date v) (offset_time v) h m s) (Ok (offset_of v))
    → IsMoment greatest_year (recorded (offset_date v) (offset_time v) h m s) (Ok v)
unfolding IsMoment IsMomentOfParts
resolves h m s v offset =
    let d = offset_date v in
    let t = offset_time v in
    inr (
      d,
      dated d t h m s,
      inr (t, stood_in d t h m s, inr (offset_of v, offset, ((refl, refl, refl), λ leap. absurd (unsaid (rw (no_leap t) at leap))))),
    )

-- the date and time of the record
plain_resolves : (h m s : Option ℤ) (p : PlainDateTime)
    → IsPlain greatest_year (recorded (plain_date p) (plain_time p) h m s) (Ok p)
unfolding IsPlain
plain_resolves h m s p =
    let d = plain_date p in
    let t = plain_time p in
    inr (d, dated d t h m s, inr (t, timed d t h m s, (refl, refl)))

-- a date and a time with no bytes after them
pub plain-whole : (bytes between rest : List ℕ) (k l : ExtendedKind) (x : IsoDate) (y : TimeNumbers) (p : PlainDateTime)
    → date_text bytes ≡ Ok (record { rest = between; value = x; kind = k })
    → time_text true k between ≡ Some (record { rest = rest; value = y; kind = l })
    → rest ≡ []
    → x ≡ iso_date_of (plain_date p) → y ≡ time_numbers_of (plain_time p)
    → IsWholeText bytes p None
plain-whole bytes between rest k l x y p date time end said told =
    let d = plain_date p in
    let t = plain_time p in
    let r = recorded d t None None None in (
      r,
      answered-read greatest_year bytes (with_leap_second empty) ([], r)
          (parts_put bytes between rest k l x y d t date time said told ∙ ap (λ q. Ok q) (nothing_after l rest r end)),
      plain_resolves None None None p,
      tt,
    )

with_its_kind : (l : ExtendedKind) (after rest : List ℕ) (n : OffsetNumbers) (f : Option (Found OffsetNumbers)) → offset_text l after ≡ f
    → option_map {U = List ℕ × OffsetNumbers} (λ (g : Found OffsetNumbers). (g.rest, g.value)) f ≡ Some (rest, n)
    → (k : ExtendedKind) × (offset_text l after ≡ Some (record { rest = rest; value = n; kind = k }))
with_its_kind l after rest n None is h = absurd (none-some (rest, n) h)
with_its_kind l after rest n (Some f) is h =
    let same = same_Some (f.rest, f.value) (rest, n) h in
    (f.kind, is ∙ ap (λ (z : List ℕ × OffsetNumbers). Some (record { rest = z.0; value = z.1; kind = f.kind })) same)

-- the text of an offset that is found, with the kind after it
found_text : (l : ExtendedKind) (after rest : List ℕ) (n : OffsetNumbers) → offset_found l after ≡ Some (rest, n)
    → (k : ExtendedKind) × (offset_text l after ≡ Some (record { rest = rest; value = n; kind = k }))
found_text l after rest n h = with_its_kind l after rest n (offset_text l after) refl h

-- the offset is stored after them, in components that resolve to it
offset_put : (l k : ExtendedKind) (after rest : List ℕ) (n : OffsetNumbers) (o : UtcOffset)
    → offset_text l after ≡ Some (record { rest = rest; value = n; kind = k }) → IsOffsetOfNumbers n o
    → (h m s : Option ℤ)
    × ((d : Date) (t : Time) → after_time greatest_year l after (recorded d t None None None) ≡ (rest, recorded d t h m s))
    × ((d : Date) (t : Time) → IsOffset (recorded d t h m s) (Ok o)) × (is_some h ≡ true)
unfolding after_time offset_over IsOffset
offset_put l k after rest Zulu o text said =
    (Some (pos 0), Some (pos 0), Some (pos 0), λ d t. rw text refl, λ d t. said, refl)
offset_put l k after rest (Numeric hour minute) o text said =
    let parts = given (offset_refusal hour minute (pos 0)) (HasOffset hour minute (pos 0)) o said in
    let ranges = offset_accepted hour minute parts.0 in (
      Some hour,
      Some minute,
      None,
      λ d t. rw (text, le-leb (unsigned_abs hour) 25 ranges.0, le-leb (unsigned_abs minute) 59 ranges.1) refl,
      λ d t. said,
      refl,
    )

-- The bytes before `rest` are read over an empty record. It then has a year and the hour of an offset, and resolves to
-- that date and time, and to the moment of both with that offset.
abbrev pub IsFrontText : List ℕ → List ℕ → PlainDateTime → UtcOffset → Type 0
IsFrontText bytes rest p o =
    (r : Record) × Reads greatest_year bytes empty rest r × IsPlain greatest_year r (Ok p)
    × ((v : OffsetDateTime) → offset_date v ≡ plain_date p → offset_time v ≡ plain_time p → offset_of v ≡ o
    → IsMoment greatest_year r (Ok v))
    × (is_some r.year ≡ true) × (is_some r.offset_hour ≡ true)

-- a date, a time and an offset with the rest after them
pub moment-front : (bytes between after rest : List ℕ) (k l : ExtendedKind) (x : IsoDate) (y : TimeNumbers) (n : OffsetNumbers)
    (p : PlainDateTime) (o : UtcOffset)
    → date_text bytes ≡ Ok (record { rest = between; value = x; kind = k })
    → time_text true k between ≡ Some (record { rest = after; value = y; kind = l })
    → offset_found l after ≡ Some (rest, n)
    → x ≡ iso_date_of (plain_date p) → y ≡ time_numbers_of (plain_time p) → IsOffsetOfNumbers n o
    → IsFrontText bytes rest p o
moment-front bytes between after rest k l x y n p o date time offset said told shown =
    let d = plain_date p in
    let t = plain_time p in
    let text = found_text l after rest n offset in
    let put = offset_put l text.0 after rest n o text.1 shown in
    let h = put.0 in
    let m = put.1 in
    let s = put.2 in (
      recorded d t h m s,
      answered-read greatest_year bytes (with_leap_second empty) (rest, recorded d t h m s)
          (parts_put bytes between after k l x y d t date time said told ∙ ap (λ q. Ok q) (put.3 d t)),
      plain_resolves h m s p,
      λ v same_date same_time same_offset.
          subst (λ e. IsMoment greatest_year (recorded e t h m s) (Ok v)) same_date
          (subst (λ u. IsMoment greatest_year (recorded (offset_date v) u h m s) (Ok v)) same_time
          (resolves h m s v (subst (λ q. IsOffset (recorded (offset_date v) (offset_time v) h m s) (Ok q)) (sym same_offset)
          (put.4 (offset_date v) (offset_time v))))),
      refl,
      put.5,
    )

-- a date, a time and an offset with no bytes after them
pub moment-whole : (bytes between after : List ℕ) (k l : ExtendedKind) (x : IsoDate) (y : TimeNumbers) (n : OffsetNumbers)
    (p : PlainDateTime) (o : UtcOffset)
    → date_text bytes ≡ Ok (record { rest = between; value = x; kind = k })
    → time_text true k between ≡ Some (record { rest = after; value = y; kind = l })
    → offset_found l after ≡ Some ([], n)
    → x ≡ iso_date_of (plain_date p) → y ≡ time_numbers_of (plain_time p) → IsOffsetOfNumbers n o
    → IsWholeText bytes p (Some o)
moment-whole bytes between after k l x y n p o date time offset said told shown =
    let front = moment-front bytes between after [] k l x y n p o date time offset said told shown in
    (front.0, front.1, front.2, front.3)
