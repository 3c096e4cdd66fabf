-- The numbers of a mail date are in the ranges of their places.
use Rattle.std.specs.Prelude.{MatchResult, IsTrue, ◌↔◌, codes}
use Rattle.std.proofs.Common.{◌≡◌, ◌∙◌, ◌<◌, ◌≤◌, Bool, true, ℕ, ℤ, List, [], pos, false, refl, sym, ap, inr, subst, Option, Some, None, Result, Ok, Err, zero, suc, ◌⊎◌, ◌∷◌, ◌++◌, take, drop, inl, arith, rules, IfSome, unsigned_abs}
use Rattle.std.proofs.lemmas.Bool.{le-leb, lt-leb}
use Rattle.time_values.specs.Dates as Dates
use Rattle.time_values.specs.Dates.{calendar_date_refusal}
use Rattle.time_values.specs.Names.{month_number, month_refusal}
use Rattle.time_values.specs.declared.date.Date.{Date}
use Rattle.time_values.specs.declared.time.Time.{Time}
use Rattle.time_values.specs.declared.utc_offset.UtcOffset.{UtcOffset}
use Rattle.time_values.specs.declared.month.Month.{Month}
use Rattle.time_values.specs.Refusal.{Refusal, range, Constructs, refusal_of_range, refusal_of}
use Rattle.time_values.specs.Moments.{offset_date, offset_time, offset_of}
use Rattle.time_values.specs.Offsets.{HasOffset, offset_refusal}
use Rattle.time_values.specs.Times.{HasClock, time_refusal}
use Rattle.time_values.specs.declared.offset_date_time.OffsetDateTime.{OffsetDateTime}
use Rattle.time_values.specs.declared.error.Parse.{Parse}
use Rattle.time_values.specs.declared.error.ComponentRange.{ComponentRange}
use Rattle.time_values.specs.Sign.{signed_by}
use Rattle.time_values.proofs.NumberLemmas.{Constructs-Err, Constructs-Ok}
use Rattle.time_digits.specs.Digits.{Form, is_negative}
use Rattle.time_digits.specs.declared.Sign.{Sign}
use Rattle.time_digits.proofs.Runs.{IsDigitRun-below}
use Rattle.time_readers.specs.Direct.{moment_second, moment_nanosecond, date_refusal, first_refusal, HasDate, IsMoment, IsLeapSecondValid, IsMade, IsNotMade, IsRefusedAfter, IsDirect, RefusesDirectly, minute_refusal}
use Rattle.time_readers.specs.declared.rfc3339.Numbers.{Numbers}
use Rattle.time_readers.specs.declared.direct.MomentNumbers.{MomentNumbers}
use Rattle.time_readers.specs.Readers.{MatchesPlaces, IsWithin}
use Rattle.time_readers.specs.declared.rfc2822.Numbers.{Numbers as MailNumbers}
use Rattle.time_readers.specs.declared.rfc2822.Place.{Place}
use Rattle.time_readers.specs.declared.rfc2822.Place.TheVariants.{WeekdayName, Day, DayBlanks, MonthName, MonthBlanks, Year, YearBlanks, Hour, HourColon, Minute, Second, TimeBlanks, OffsetHour, OffsetMinute, EndBlanks}
use Rattle.time_readers.specs.Rfc2822.{PlaceSyntax, HasForm, IsZone, IsSignedHour, IsOffsetMinute, IsYear, IsSecond, places, nothing_read}
use Rattle.time_readers.proofs.Walking.{Alone, Ignores, said, said_after}
use Rattle.time_readers.proofs.MailOffset.{zone-near}
use Rattle.time_readers.proofs.ToSecond.{within}

-- ---- The error of a moment, by the results of its constructors

-- the error of the month is the error of the date
pub month_refused : (Y : ℕ) (s : MomentNumbers) (e : ComponentRange) → Constructs (month_refusal s.month) (λ m. month_number m ≡ s.month) (Err e)
    → Constructs (date_refusal Y s) (HasDate s) (Err e)
month_refused Y s e h = rw (Constructs-Err (month_refusal s.month) (λ m. month_number m ≡ s.month) e h) refl

parts_said : (s : MomentNumbers) (m : Month) (o : Option Refusal) (r : Result Date ComponentRange) → month_number m ≡ s.month
    → Constructs o (Dates.HasParts (pos s.year) m s.day) r → Constructs o (HasDate s) r
parts_said s m None (Ok v) is h = record { year = h.0; month = ap month_number h.1 ∙ is; day = h.2 }
parts_said s m None (Err e) is h = h
parts_said s m (Some f) (Ok v) is h = h
parts_said s m (Some f) (Err e) is h = h

-- the date that is made from the month of that number has the numbers' year, month and day
pub date_made : (Y : ℕ) (s : MomentNumbers) (y : ℤ) (m : Month) (r : Result Date ComponentRange) → y ≡ pos s.year
    → Constructs (month_refusal s.month) (λ m. month_number m ≡ s.month) (Ok m)
    → Constructs (calendar_date_refusal Y y (month_number m) s.day) (Dates.HasParts y m s.day) r
    → Constructs (date_refusal Y s) (HasDate s) r
date_made Y s y m r year month made =
    let h = Constructs-Ok (month_refusal s.month) (λ m. month_number m ≡ s.month) m month in
    let refusal = λ (n : ℕ). calendar_date_refusal Y (pos s.year) n s.day in
    let parts = subst (λ y. Constructs (calendar_date_refusal Y y (month_number m) s.day) (Dates.HasParts y m s.day) r) year made in
    rw h.0 (parts_said s m (refusal s.month) r h.1 (subst (λ n. Constructs (refusal n) (Dates.HasParts (pos s.year) m s.day) r) h.1 parts))

-- the error of the first rejected part is the error of the moment
pub date_first : (Y : ℕ) (s : MomentNumbers) (e : ComponentRange) → Constructs (date_refusal Y s) (HasDate s) (Err e)
    → first_refusal Y s ≡ Some (refusal_of_range e)
date_first Y s e date = rw (Constructs-Err (date_refusal Y s) (HasDate s) e date) refl

pub clock_first : (Y : ℕ) (s : MomentNumbers) (d : Date) (e : ComponentRange) → Constructs (date_refusal Y s) (HasDate s) (Ok d)
    → Constructs (time_refusal s.hour s.minute (moment_second s) (moment_nanosecond s))
    (HasClock s.hour s.minute (moment_second s) (moment_nanosecond s)) (Err e)
    → first_refusal Y s ≡ Some (refusal_of_range e)
clock_first Y s d e date clock =
    let second = moment_second s in
    let nanosecond = moment_nanosecond s in
    rw (
      (Constructs-Ok (date_refusal Y s) (HasDate s) d date).0,
      Constructs-Err (time_refusal s.hour s.minute second nanosecond) (HasClock s.hour s.minute second nanosecond) e clock,
    ) refl

pub offset_first : (Y : ℕ) (s : MomentNumbers) (d : Date) (t : Time) (e : ComponentRange) → Constructs (date_refusal Y s) (HasDate s) (Ok d)
    → Constructs (time_refusal s.hour s.minute (moment_second s) (moment_nanosecond s))
    (HasClock s.hour s.minute (moment_second s) (moment_nanosecond s)) (Ok t)
    → Constructs (offset_refusal s.offset_hour s.offset_minute (pos 0)) (HasOffset s.offset_hour s.offset_minute (pos 0)) (Err e)
    → first_refusal Y s ≡ Some (refusal_of_range e)
offset_first Y s d t e date clock offset =
    let second = moment_second s in
    let nanosecond = moment_nanosecond s in
    let hours = s.offset_hour in
    let minutes = s.offset_minute in
    rw (
      (Constructs-Ok (date_refusal Y s) (HasDate s) d date).0,
      (Constructs-Ok (time_refusal s.hour s.minute second nanosecond) (HasClock s.hour s.minute second nanosecond) t clock).0,
      Constructs-Err (offset_refusal hours minutes (pos 0)) (HasOffset hours minutes (pos 0)) e offset,
    ) refl

-- a moment of accepted parts is the moment of the numbers
pub of_parts : (Y : ℕ) (s : MomentNumbers) (d : Date) (t : Time) (o : UtcOffset) (v : OffsetDateTime)
    → offset_date v ≡ d → offset_time v ≡ t → offset_of v ≡ o
    → Constructs (date_refusal Y s) (HasDate s) (Ok d)
    → Constructs (time_refusal s.hour s.minute (moment_second s) (moment_nanosecond s))
    (HasClock s.hour s.minute (moment_second s) (moment_nanosecond s)) (Ok t)
    → Constructs (offset_refusal s.offset_hour s.offset_minute (pos 0)) (HasOffset s.offset_hour s.offset_minute (pos 0))
    (Ok o)
    → (first_refusal Y s ≡ None) × IsMoment s v
of_parts Y s d t o v is_date is_time is_offset date clock offset =
    let second = moment_second s in
    let nanosecond = moment_nanosecond s in
    let hours = s.offset_hour in
    let minutes = s.offset_minute in
    let has_date = Constructs-Ok (date_refusal Y s) (HasDate s) d date in
    let has_clock = Constructs-Ok (time_refusal s.hour s.minute second nanosecond) (HasClock s.hour s.minute second nanosecond) t clock in
    let has_offset = Constructs-Ok (offset_refusal hours minutes (pos 0)) (HasOffset hours minutes (pos 0)) o offset in (
      rw (has_date.0, has_clock.0, has_offset.0) refl,
      record {
        date = subst (HasDate s) (sym is_date) has_date.1;
        clock = subst (HasClock s.hour s.minute second nanosecond) (sym is_time) has_clock.1;
        offset = subst (HasOffset hours minutes (pos 0)) (sym is_offset) has_offset.1;
      },
    )

-- the result after all places match and the last place's range is kept
pub after : {P N : Type 0} (form : Form N) (fails : List ℕ → P → Type 0) (fault : P → Refusal) (last : N → Option Refusal)
    (says : N → MomentNumbers) (Y : ℕ) (bytes rest : List ℕ) (n : N) (result : Result OffsetDateTime Parse)
    → form bytes rest n → last n ≡ None
    → MatchResult result (λ v. (rest ≡ []) × IsMade Y (says n) v)
    (λ e. IsRefusedAfter Y None (says n) rest (refusal_of e))
    → MatchResult result (λ v. IsDirect form last says Y bytes v)
    (λ e. RefusesDirectly form fails fault last says Y bytes (refusal_of e))
after form fails fault last says Y bytes rest n (Ok v) stands none made =
    (n, subst (λ r. form bytes r n) made.0 stands, none, made.1)
after form fails fault last says Y bytes rest n (Err e) stands none refused = inr (rest, (n, stands, rw none refused))

-- an offset's minute up to 59 is in range
pub minute_stands : (n : Numbers) → n.offset_minute ≤ 59 → minute_refusal n ≡ None
minute_stands n h = rw (le-leb n.offset_minute 59 h) refl

pub minute_past : (n : Numbers) → 59 < n.offset_minute → minute_refusal n ≡ Some (range (codes "minutes") false)
minute_past n h = rw (lt-leb n.offset_minute 59 h) refl

-- the error of a leap second where none may be
pub not_made : (Y : ℕ) (s : MomentNumbers) (v : OffsetDateTime) (b : Bool) → (first_refusal Y s ≡ None) × IsMoment s v
    → (IsTrue b ↔ IsLeapSecondValid Y s v) → b ≡ false → IsNotMade Y s (range (codes "second") true)
not_made Y s v b shown tells is =
    inr (shown.0, refl, (v, shown.1, λ stands. let h : false ≡ true = sym is ∙ tells.1 stands in cc))

-- the numbers n with those that place p may set taken from m
abbrev pub with_place : Place → MailNumbers → MailNumbers → MailNumbers
with_place WeekdayName n m = record n { weekday = m.weekday }
with_place Day n m = record n { day = m.day }
with_place MonthName n m = record n { month = m.month }
with_place Year n m = record n { year = m.year; year_is_full = m.year_is_full }
with_place Hour n m = record n { hour = m.hour }
with_place Minute n m = record n { minute = m.minute }
with_place Second n m = record n { second = m.second }
with_place OffsetHour n m = record n { offset_sign = m.offset_sign; offset_hour = m.offset_hour }
with_place OffsetMinute n m = record n { offset_minute = m.offset_minute }
with_place _ n m = n

minute_alone : (check_ranges : Bool) (sign : Option Sign) (n m : MailNumbers) (text after : List ℕ) → IsOffsetMinute check_ranges sign n text after m
    → m ≡ record n { offset_minute = m.offset_minute }
minute_alone check_ranges None n m text after a = a.1 ∙ ap (λ x. record n { offset_minute = x.offset_minute }) (sym a.1)
minute_alone check_ranges (Some sign) n m text after a = a.2 ∙ ap (λ x. record n { offset_minute = x.offset_minute }) (sym a.2)

pub alone : (check_ranges : Bool) → Alone (PlaceSyntax check_ranges) with_place
alone check_ranges WeekdayName n m text after a = a.2 ∙ ap (λ x. record n { weekday = x.weekday }) (sym a.2)
alone check_ranges Day n m text after a = a.3 ∙ ap (λ x. record n { day = x.day }) (sym a.3)
alone check_ranges DayBlanks n m text after a = a.1
alone check_ranges MonthName n m text after a = a.2 ∙ ap (λ x. record n { month = x.month }) (sym a.2)
alone check_ranges MonthBlanks n m text after a = a.1
alone check_ranges Year n m text after a = a.3 ∙ ap (λ x. record n { year = x.year; year_is_full = x.year_is_full }) (sym a.3)
alone check_ranges YearBlanks n m text after a = a.1
alone check_ranges Hour n m text after a = a.2 ∙ ap (λ x. record n { hour = x.hour }) (sym a.2)
alone check_ranges HourColon n m text after a = a.1
alone check_ranges Minute n m text after a = a.2 ∙ ap (λ x. record n { minute = x.minute }) (sym a.2)
alone check_ranges Second n m text after a = a.2 ∙ ap (λ x. record n { second = x.second }) (sym a.2)
alone check_ranges TimeBlanks n m text after a = a.1
alone check_ranges OffsetHour n m text after (inl z) = z.2 ∙ ap (λ x. record n { offset_sign = x.offset_sign; offset_hour = x.offset_hour }) (sym z.2)
alone check_ranges OffsetHour n m text after (inr s) = s.says ∙ ap (λ x. record n { offset_sign = x.offset_sign; offset_hour = x.offset_hour }) (sym s.says)
alone check_ranges OffsetMinute n m text after a = minute_alone check_ranges n.offset_sign n m text after a
alone check_ranges EndBlanks n m text after a = a.1

year_within : (full : Bool) (text after : List ℕ) (v : ℕ) → IsYear full text after v → (1900 ≤ v) × (v ≤ 9999)
year_within true text after v is = (is.1, omega (arith, IsDigitRun-below 4 4 text after v is.0))
year_within false text after v is =
    let below = IsDigitRun-below 2 2 text after is.1.0 is.1.1 in
    let value = is.1.2 in
    (grind arith, grind arith)

second_within : (check_ranges : Bool) (text after : List ℕ) (v : Option ℕ) → IsSecond check_ranges text after v → IfSome v (IsWithin check_ranges 0 60)
second_within check_ranges text after None is = tt
second_within check_ranges text after (Some v) is = is.4.1

pub signed-abs : (b : Bool) (v : ℕ) → unsigned_abs (signed_by b (pos v)) ≡ v
signed-abs false v = refl
signed-abs true zero = refl
signed-abs true (suc v) = refl

-- a number with its sign is as far from 0 as without it
signed_within : (check_ranges b : Bool) (most v : ℕ) → IsWithin check_ranges 0 most v → IsWithin check_ranges 0 most (unsigned_abs (signed_by b (pos v)))
signed_within check_ranges b most v is = subst (IsWithin check_ranges 0 most) (sym (signed-abs b v)) is

hour_within : (check_ranges : Bool) (n m : MailNumbers) (text after : List ℕ) → IsZone n text after m ⊎ IsSignedHour check_ranges n text after m
    → IsWithin check_ranges 0 25 (unsigned_abs m.offset_hour)
hour_within check_ranges n m text after (inl zone) =
    let near = zone-near (text ++ after) zone.0 after zone.1 in
    let same : m.offset_hour ≡ zone.0 = ap (λ x. x.offset_hour) zone.2 in
    subst (λ v. IsWithin check_ranges 0 25 (unsigned_abs v)) (sym same) (within check_ranges 0 25 (unsigned_abs zone.0) (omega arith) (omega arith))
hour_within check_ranges n m text after (inr signed) =
    let same : m.offset_hour ≡ signed_by (is_negative signed.sign) (pos signed.hour) = ap (λ x. x.offset_hour) signed.says in
    subst (λ v. IsWithin check_ranges 0 25 (unsigned_abs v)) (sym same)
    (signed_within check_ranges (is_negative signed.sign) 25 signed.hour signed.run.1)

minute_within : (check_ranges : Bool) (sign : Option Sign) (n m : MailNumbers) (text after : List ℕ) → n.offset_minute ≡ pos 0
    → IsOffsetMinute check_ranges sign n text after m → IsWithin check_ranges 0 59 (unsigned_abs m.offset_minute)
minute_within check_ranges None n m text after none a =
    let same : m.offset_minute ≡ pos 0 = ap (λ x. x.offset_minute) a.1 ∙ none in
    subst (λ v. IsWithin check_ranges 0 59 (unsigned_abs v)) (sym same) (within check_ranges 0 59 0 (omega arith) (omega arith))
minute_within check_ranges (Some sign) n m text after none a =
    let same : m.offset_minute ≡ signed_by (is_negative sign) (pos a.0) = ap (λ x. x.offset_minute) a.2 in
    subst (λ v. IsWithin check_ranges 0 59 (unsigned_abs v)) (sym same) (signed_within check_ranges (is_negative sign) 59 a.0 a.1.1)

-- bounds of the numbers of a text, tighter with range checks
pub record InPlaces (check_ranges : Bool) (n : MailNumbers) : Type 0 where
  pub day : IsWithin check_ranges 1 31 n.day
  pub year : (1900 ≤ n.year) × (n.year ≤ 9999)
  pub hour : IsWithin check_ranges 0 23 n.hour
  pub minute : IsWithin check_ranges 0 59 n.minute
  pub second : IfSome n.second (IsWithin check_ranges 0 60)
  pub offset_hour : IsWithin check_ranges 0 25 (unsigned_abs n.offset_hour)
  pub offset_minute : IsWithin check_ranges 0 59 (unsigned_abs n.offset_minute)

-- a property of a place's number holds of that number of the whole text
told : {X : Type 0} (f : MailNumbers → X) (Q : X → Type 0) (check_ranges : Bool) (before : List Place) (p : Place) (after : List Place)
    (n : MailNumbers) (bytes rest : List ℕ) → MatchesPlaces (PlaceSyntax check_ranges) (before ++ p ∷ after) nothing_read bytes rest n
    → Ignores with_place f before → Ignores with_place f after
    → ((j k : MailNumbers) (text mid : List ℕ) → f j ≡ f nothing_read → PlaceSyntax check_ranges p j text mid k → Q (f k)) → Q (f n)
told f Q check_ranges before p after n bytes rest s =
    said (PlaceSyntax check_ranges) with_place f Q (alone check_ranges) before p after nothing_read n bytes rest s

-- the numbers of a text are in the ranges of their places
pub HasForm-in_places : (check_ranges : Bool) (bytes rest : List ℕ) (n : MailNumbers) → HasForm check_ranges bytes rest n → InPlaces check_ranges n
HasForm-in_places check_ranges bytes rest n s = record {
  day =
      told (λ x. x.day) (IsWithin check_ranges 1 31) check_ranges (take 1 places) Day (drop 2 places) n bytes rest s (search rules) (search rules)
      (λ j k text mid start a. subst (IsWithin check_ranges 1 31) (sym (ap (λ x. x.day) a.3)) a.2);
  year =
      let within = λ (v : ℕ). (1900 ≤ v) × (v ≤ 9999) in
      told (λ x. x.year) within check_ranges (take 5 places) Year (drop 6 places) n bytes rest s (search rules) (search rules)
      (λ j k text mid start a. subst within (sym (ap (λ x. x.year) a.3)) (year_within a.0 text mid a.1 a.2));
  hour =
      told (λ x. x.hour) (IsWithin check_ranges 0 23) check_ranges (take 7 places) Hour (drop 8 places) n bytes rest s (search rules) (search rules)
      (λ j k text mid start a. subst (IsWithin check_ranges 0 23) (sym (ap (λ x. x.hour) a.2)) a.1.1);
  minute =
      told (λ x. x.minute) (IsWithin check_ranges 0 59) check_ranges (take 9 places) Minute (drop 10 places) n bytes rest s (search rules) (search rules)
      (λ j k text mid start a. subst (IsWithin check_ranges 0 59) (sym (ap (λ x. x.minute) a.2)) a.1.1);
  second =
      let within = λ (v : Option ℕ). IfSome v (IsWithin check_ranges 0 60) in
      told (λ x. x.second) within check_ranges (take 10 places) Second (drop 11 places) n bytes rest s (search rules) (search rules)
      (λ j k text mid start a. subst within (sym (ap (λ x. x.second) a.2)) (second_within check_ranges text mid a.0 a.1));
  offset_hour =
      let within = λ (v : ℤ). IsWithin check_ranges 0 25 (unsigned_abs v) in
      told (λ x. x.offset_hour) within check_ranges (take 12 places) OffsetHour (drop 13 places) n bytes rest s (search rules) (search rules)
      (λ j k text mid start a. hour_within check_ranges j k text mid a);
  offset_minute =
      let within = λ (v : ℤ). IsWithin check_ranges 0 59 (unsigned_abs v) in
      told (λ x. x.offset_minute) within check_ranges (take 13 places) OffsetMinute (drop 14 places) n bytes rest s (search rules) (search rules)
      (λ j k text mid start a. minute_within check_ranges j.offset_sign j k text mid start a);
}

zone_said : (check_ranges : Bool) (s : Option Sign) (j k : MailNumbers) (text mid : List ℕ) → j.offset_sign ≡ s → j.offset_minute ≡ pos 0
    → IsOffsetMinute check_ranges s j text mid k → k.offset_sign ≡ None → k.offset_minute ≡ pos 0
zone_said check_ranges None j k text mid sign start a none = ap (λ x. x.offset_minute) a.1 ∙ start
zone_said check_ranges (Some s) j k text mid sign start a none =
    let same : k.offset_sign ≡ Some s = ap (λ x. x.offset_sign) a.2 ∙ sign in
    absurd (cc)

-- after a zone name, which has no sign, the minute is 0
pub HasForm-zone : (check_ranges : Bool) (bytes rest : List ℕ) (n : MailNumbers) → HasForm check_ranges bytes rest n
    → n.offset_sign ≡ None → n.offset_minute ≡ pos 0
HasForm-zone check_ranges bytes rest n s =
    said_after (PlaceSyntax check_ranges) with_place (λ x. x.offset_minute) (λ x. (x.offset_sign, x.offset_minute))
    (λ (x : Option Sign × ℤ). x.0 ≡ None → x.1 ≡ pos 0) (alone check_ranges) (take 13 places) OffsetMinute (drop 14 places)
    nothing_read n bytes rest s (search rules) (search rules)
    (λ j k text mid start a. zone_said check_ranges j.offset_sign j k text mid refl start a)
