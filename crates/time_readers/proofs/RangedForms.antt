-- Texts of RFC 3339 with range checks are those without them whose numbers are in range.
use Rattle.std.proofs.Common.{◌≡◌, ◌≢◌, ℕ, ◌≤◌, List, [], ◌∷◌, ◌++◌, take, drop, ap, sym, ◌∙◌, subst, inl, inr, arith, rules, Bool, true, false, Option, Some, None, IfSome}
use Rattle.time_digits.specs.Digits.{IsDigitRun}
use Rattle.time_digits.proofs.Runs.{IsDigitRun-below}
use Rattle.time_digits.proofs.Fractions.{fraction_nanoseconds-below}
use Rattle.time_readers.specs.Readers.{MatchesPlaces, IsWithin}
use Rattle.time_readers.specs.declared.rfc3339.Numbers.{Numbers}
use Rattle.time_readers.specs.declared.rfc3339.Place.{Place}
use Rattle.time_readers.specs.declared.rfc3339.Place.TheVariants.{Year, YearDash, Month, MonthDash, Day, Separator, Hour, HourColon, Minute, MinuteColon, Second, Subsecond, OffsetHour, OffsetColon, OffsetMinute}
use Rattle.time_readers.specs.Rfc3339.{PlaceSyntax, HasForm, IsSubsecond, IsOffsetMinute, places, nothing_read, InRanges}
use Rattle.time_readers.specs.Laws.{RangedForms}
use Rattle.time_readers.proofs.Walking.{Alone, Ignores, said, Back, along, back_by}

-- ---- The numbers of a text are in the ranges of their places, since a later place doesn't change an earlier number

-- the numbers n with those that place p may set taken from m
abbrev pub with_place : Place → Numbers → Numbers → Numbers
with_place Year n m = record n { year = m.year }
with_place Month n m = record n { month = m.month }
with_place Day n m = record n { day = m.day }
with_place Hour n m = record n { hour = m.hour }
with_place Minute n m = record n { minute = m.minute }
with_place Second n m = record n { second = m.second }
with_place Subsecond n m = record n { subsecond = m.subsecond }
with_place OffsetHour n m = record n { is_utc = m.is_utc; offset_is_negative = m.offset_is_negative; offset_hour = m.offset_hour }
with_place OffsetMinute n m = record n { offset_minute = m.offset_minute }
with_place _ n m = n

minute_alone : (check_ranges utc : Bool) (n m : Numbers) (text after : List ℕ) → IsOffsetMinute check_ranges utc n text after m
    → m ≡ record n { offset_minute = m.offset_minute }
minute_alone check_ranges true n m text after a = a.1 ∙ ap (λ x. record n { offset_minute = x.offset_minute }) (sym a.1)
minute_alone check_ranges false n m text after a = a.2 ∙ ap (λ x. record n { offset_minute = x.offset_minute }) (sym a.2)

-- a place sets only its own number
pub alone : (check_ranges : Bool) → Alone (PlaceSyntax check_ranges) with_place
alone check_ranges Year n m text after a = a.2 ∙ ap (λ x. record n { year = x.year }) (sym a.2)
alone check_ranges YearDash n m text after a = a.1
alone check_ranges Month n m text after a = a.3 ∙ ap (λ x. record n { month = x.month }) (sym a.3)
alone check_ranges MonthDash n m text after a = a.1
alone check_ranges Day n m text after a = a.2 ∙ ap (λ x. record n { day = x.day }) (sym a.2)
alone check_ranges Separator n m text after a = a.1
alone check_ranges Hour n m text after a = a.2 ∙ ap (λ x. record n { hour = x.hour }) (sym a.2)
alone check_ranges HourColon n m text after a = a.1
alone check_ranges Minute n m text after a = a.2 ∙ ap (λ x. record n { minute = x.minute }) (sym a.2)
alone check_ranges MinuteColon n m text after a = a.1
alone check_ranges Second n m text after a = a.2 ∙ ap (λ x. record n { second = x.second }) (sym a.2)
alone check_ranges Subsecond n m text after a = a.2 ∙ ap (λ x. record n { subsecond = x.subsecond }) (sym a.2)
alone check_ranges OffsetHour n m text after (inl z) =
    z.1 ∙ ap (λ x. record n { is_utc = x.is_utc; offset_is_negative = x.offset_is_negative; offset_hour = x.offset_hour }) (sym z.1)
alone check_ranges OffsetHour n m text after (inr s) =
    s.says ∙ ap (λ x. record n { is_utc = x.is_utc; offset_is_negative = x.offset_is_negative; offset_hour = x.offset_hour }) (sym s.says)
alone check_ranges OffsetColon n m text after a = a.1
alone check_ranges OffsetMinute n m text after a = minute_alone check_ranges n.is_utc n m text after a

-- a property of a place's number holds of that number of the whole text
told : {X : Type 0} (f : Numbers → X) (Q : X → Type 0) (check_ranges : Bool) (before : List Place) (p : Place) (after : List Place)
    (n : Numbers) (bytes rest : List ℕ) → MatchesPlaces (PlaceSyntax check_ranges) (before ++ p ∷ after) nothing_read bytes rest n
    → Ignores with_place f before → Ignores with_place f after
    → ((j k : Numbers) (text mid : List ℕ) → f j ≡ f nothing_read → PlaceSyntax check_ranges p j text mid k → Q (f k)) → Q (f n)
told f Q check_ranges before p after n bytes rest s =
    said (PlaceSyntax check_ranges) with_place f Q (alone check_ranges) before p after nothing_read n bytes rest s

year_within : (text after : List ℕ) (v : ℕ) → IsDigitRun 4 4 text after v → v ≤ 9999
year_within text after v run = omega (arith, IsDigitRun-below 4 4 text after v run)

subsecond_within : (text after : List ℕ) (v : Option ℕ) → IsSubsecond text after v → IfSome v (λ n. n ≤ 999999999)
subsecond_within text after None s = tt
subsecond_within text after (Some v) s = omega (arith, s.2.is, fraction_nanoseconds-below s.0 s.2.digits)

zero_within : (check_ranges : Bool) → IsWithin check_ranges 0 59 0
zero_within true = (omega arith, omega arith)
zero_within false = tt

minute_within : (check_ranges utc : Bool) (n m : Numbers) (text after : List ℕ) → n.offset_minute ≡ 0 → IsOffsetMinute check_ranges utc n text after m
    → IsWithin check_ranges 0 59 m.offset_minute
minute_within check_ranges true n m text after none a =
    subst (IsWithin check_ranges 0 59) (sym (ap (λ x. x.offset_minute) a.1 ∙ none)) (zero_within check_ranges)
minute_within check_ranges false n m text after none a = subst (IsWithin check_ranges 0 59) (sym (ap (λ x. x.offset_minute) a.2)) a.1.1

-- bounds of the numbers of a text, tighter with range checks
pub record InPlaces (check_ranges : Bool) (n : Numbers) : Type 0 where
  pub year : n.year ≤ 9999
  pub month_not_zero : n.month ≢ 0
  pub month : IsWithin check_ranges 1 12 n.month
  pub day : IsWithin check_ranges 1 31 n.day
  pub hour : IsWithin check_ranges 0 23 n.hour
  pub minute : IsWithin check_ranges 0 59 n.minute
  pub second : IsWithin check_ranges 0 60 n.second
  pub subsecond : IfSome n.subsecond (λ v. v ≤ 999999999)
  pub offset_hour : n.offset_hour ≤ 23
  pub offset_minute : IsWithin check_ranges 0 59 n.offset_minute

-- the numbers of a text are in the ranges of their places
pub HasForm-in_places : (check_ranges : Bool) (bytes rest : List ℕ) (n : Numbers) → HasForm check_ranges bytes rest n → InPlaces check_ranges n
HasForm-in_places check_ranges bytes rest n s = record {
  year = told (λ x. x.year) (λ v. v ≤ 9999) check_ranges [] Year (drop 1 places) n bytes rest s (search rules) (search rules)
      (λ j k text mid start a. rw a.2 (year_within text mid a.0 a.1));
  month_not_zero = told (λ x. x.month) (λ v. v ≢ 0) check_ranges (take 2 places) Month (drop 3 places) n bytes rest s (search rules) (search rules)
      (λ j k text mid start a. rw a.3 a.2);
  month = told (λ x. x.month) (IsWithin check_ranges 1 12) check_ranges (take 2 places) Month (drop 3 places) n bytes rest s (search rules) (search rules)
      (λ j k text mid start a. subst (IsWithin check_ranges 1 12) (sym (ap (λ x. x.month) a.3)) a.1.1);
  day = told (λ x. x.day) (IsWithin check_ranges 1 31) check_ranges (take 4 places) Day (drop 5 places) n bytes rest s (search rules) (search rules)
      (λ j k text mid start a. subst (IsWithin check_ranges 1 31) (sym (ap (λ x. x.day) a.2)) a.1.1);
  hour = told (λ x. x.hour) (IsWithin check_ranges 0 23) check_ranges (take 6 places) Hour (drop 7 places) n bytes rest s (search rules) (search rules)
      (λ j k text mid start a. subst (IsWithin check_ranges 0 23) (sym (ap (λ x. x.hour) a.2)) a.1.1);
  minute = told (λ x. x.minute) (IsWithin check_ranges 0 59) check_ranges (take 8 places) Minute (drop 9 places) n bytes rest s
      (search rules) (search rules)
      (λ j k text mid start a. subst (IsWithin check_ranges 0 59) (sym (ap (λ x. x.minute) a.2)) a.1.1);
  second = told (λ x. x.second) (IsWithin check_ranges 0 60) check_ranges (take 10 places) Second (drop 11 places) n bytes rest s
      (search rules) (search rules)
      (λ j k text mid start a. subst (IsWithin check_ranges 0 60) (sym (ap (λ x. x.second) a.2)) a.1.1);
  subsecond = told (λ x. x.subsecond) (λ v. IfSome v (λ w. w ≤ 999999999)) check_ranges (take 11 places) Subsecond
      (drop 12 places) n bytes rest s (search rules) (search rules)
      (λ j k text mid start a. subst (λ v. IfSome v (λ w. w ≤ 999999999)) (sym (ap (λ x. x.subsecond) a.2)) (subsecond_within text mid a.0 a.1));
  offset_hour = told (λ x. x.offset_hour) (λ v. v ≤ 23) check_ranges (take 12 places) OffsetHour (drop 13 places) n bytes rest s
      (search rules) (search rules)
      (λ j k text mid start a. elim a [
        | inl zulu ↦ let none : k.offset_hour ≡ 0 = ap (λ x. x.offset_hour) zulu.1 ∙ start in omega arith
        | inr signed ↦ let same : k.offset_hour ≡ signed.hour = ap (λ x. x.offset_hour) signed.says in omega (arith, signed.run.1)
      ]);
  offset_minute = told (λ x. x.offset_minute) (IsWithin check_ranges 0 59) check_ranges (take 14 places) OffsetMinute [] n bytes rest s
      (search rules) (search rules)
      (λ j k text mid start a. minute_within check_ranges j.is_utc j k text mid start a);
}

-- the number of a place is in its range
abbrev In : Place → Numbers → Type 0
In Month m = IsWithin true 1 12 m.month
In Day m = IsWithin true 1 31 m.day
In Hour m = IsWithin true 0 23 m.hour
In Minute m = IsWithin true 0 59 m.minute
In Second m = IsWithin true 0 60 m.second
In OffsetMinute m = IsWithin true 0 59 m.offset_minute
In _ m = Unit {0}

minute : (utc : Bool) (n m : Numbers) (text ranged_after : List ℕ) → IsWithin true 0 59 m.offset_minute
    → IsOffsetMinute false utc n text ranged_after m → IsOffsetMinute true utc n text ranged_after m
minute true n m text ranged_after i a = a
minute false n m text ranged_after i a = (a.0, (a.1.0, subst (IsWithin true 0 59) (ap (λ x. x.offset_minute) a.2) i), a.2)

-- a text of a place without range checks matches with them, if its number is in range
ranged_check_ranges : (p : Place) (n m : Numbers) (text ranged_after : List ℕ)
    → In p m → PlaceSyntax false p n text ranged_after m → PlaceSyntax true p n text ranged_after m
ranged_check_ranges Year n m text ranged_after i a = a
ranged_check_ranges YearDash n m text ranged_after i a = a
ranged_check_ranges Month n m text ranged_after i a = (a.0, (a.1.0, subst (IsWithin true 1 12) (ap (λ x. x.month) a.3) i), a.2, a.3)
ranged_check_ranges MonthDash n m text ranged_after i a = a
ranged_check_ranges Day n m text ranged_after i a = (a.0, (a.1.0, subst (IsWithin true 1 31) (ap (λ x. x.day) a.2) i), a.2)
ranged_check_ranges Separator n m text ranged_after i a = a
ranged_check_ranges Hour n m text ranged_after i a = (a.0, (a.1.0, subst (IsWithin true 0 23) (ap (λ x. x.hour) a.2) i), a.2)
ranged_check_ranges HourColon n m text ranged_after i a = a
ranged_check_ranges Minute n m text ranged_after i a = (a.0, (a.1.0, subst (IsWithin true 0 59) (ap (λ x. x.minute) a.2) i), a.2)
ranged_check_ranges MinuteColon n m text ranged_after i a = a
ranged_check_ranges Second n m text ranged_after i a = (a.0, (a.1.0, subst (IsWithin true 0 60) (ap (λ x. x.second) a.2) i), a.2)
ranged_check_ranges Subsecond n m text ranged_after i a = a
ranged_check_ranges OffsetHour n m text ranged_after i a = a
ranged_check_ranges OffsetColon n m text ranged_after i a = a
ranged_check_ranges OffsetMinute n m text ranged_after i a = minute n.is_utc n m text ranged_after i a

any_minute : (utc : Bool) (n m : Numbers) (text ranged_after : List ℕ)
    → IsOffsetMinute true utc n text ranged_after m → IsOffsetMinute false utc n text ranged_after m
any_minute true n m text ranged_after a = a
any_minute false n m text ranged_after a = (a.0, (a.1.0, tt), a.2)

-- a text of a place with range checks matches without them
formed : (p : Place) (n m : Numbers) (text ranged_after : List ℕ) → PlaceSyntax true p n text ranged_after m → PlaceSyntax false p n text ranged_after m
formed Year n m text ranged_after a = a
formed YearDash n m text ranged_after a = a
formed Month n m text ranged_after a = (a.0, (a.1.0, tt), a.2, a.3)
formed MonthDash n m text ranged_after a = a
formed Day n m text ranged_after a = (a.0, (a.1.0, tt), a.2)
formed Separator n m text ranged_after a = a
formed Hour n m text ranged_after a = (a.0, (a.1.0, tt), a.2)
formed HourColon n m text ranged_after a = a
formed Minute n m text ranged_after a = (a.0, (a.1.0, tt), a.2)
formed MinuteColon n m text ranged_after a = a
formed Second n m text ranged_after a = (a.0, (a.1.0, tt), a.2)
formed Subsecond n m text ranged_after a = a
formed OffsetHour n m text ranged_after a = a
formed OffsetColon n m text ranged_after a = a
formed OffsetMinute n m text ranged_after a = any_minute n.is_utc n m text ranged_after a

-- the places after a place don't change its number
ranged_after : {X : Type 0} (f : Numbers → X) (Q : X → Type 0) (ps : List Place) → Ignores with_place f ps
    → (k m : Numbers) (bytes rest : List ℕ) → MatchesPlaces (PlaceSyntax false) ps k bytes rest m → Q (f m) → Q (f k)
ranged_after f Q = back_by (PlaceSyntax false) with_place f Q (alone false)

back : Back (PlaceSyntax false) In places
back = (
  λ k m b r s i. tt,
  (
    λ k m b r s i. tt,
    (
      ranged_after (λ n. n.month) (IsWithin true 1 12) (drop 3 places) (search rules),
      (
        λ k m b r s i. tt,
        (
          ranged_after (λ n. n.day) (IsWithin true 1 31) (drop 5 places) (search rules),
          (
            λ k m b r s i. tt,
            (
              ranged_after (λ n. n.hour) (IsWithin true 0 23) (drop 7 places) (search rules),
              (
                λ k m b r s i. tt,
                (
                  ranged_after (λ n. n.minute) (IsWithin true 0 59) (drop 9 places) (search rules),
                  (
                    λ k m b r s i. tt,
                    (
                      ranged_after (λ n. n.second) (IsWithin true 0 60) (drop 11 places) (search rules),
                      (
                        λ k m b r s i. tt,
                        (
                          λ k m b r s i. tt,
                          (
                            λ k m b r s i. tt,
                            (ranged_after (λ n. n.offset_minute) (IsWithin true 0 59) [] tt, tt),
                          ),
                        ),
                      ),
                    ),
                  ),
                ),
              ),
            ),
          ),
        ),
      ),
    ),
  ),
)

all_back : (ps : List Place) → Back (PlaceSyntax true) (λ p n. Unit {0}) ps
all_back [] = tt
all_back (p ∷ ps) = (λ k m b r s i. tt, all_back ps)

in_place : (n : Numbers) → InRanges n → (p : Place) → In p n
in_place n i Month = i.month
in_place n i Day = i.day
in_place n i Hour = i.hour
in_place n i Minute = i.minute
in_place n i Second = i.second
in_place n i OffsetMinute = i.offset_minute
in_place n i Year = tt
in_place n i YearDash = tt
in_place n i MonthDash = tt
in_place n i Separator = tt
in_place n i HourColon = tt
in_place n i MinuteColon = tt
in_place n i Subsecond = tt
in_place n i OffsetHour = tt
in_place n i OffsetColon = tt

in_ranges : (bytes rest : List ℕ) (n : Numbers) → HasForm true bytes rest n → InRanges n
in_ranges bytes rest n s =
    let i = HasForm-in_places true bytes rest n s in
    record { month = i.month; day = i.day; hour = i.hour; minute = i.minute; second = i.second; offset_minute = i.offset_minute }

pub ranged_forms : RangedForms (HasForm true) (HasForm false) InRanges
ranged_forms bytes rest n = (
  λ s. (
    along (PlaceSyntax true) (PlaceSyntax false) (λ p m. Unit {0}) (λ p m k text ranged_after i a. formed p m k text ranged_after a) places
        nothing_read n bytes rest (all_back places) (λ p. tt) s,
    in_ranges bytes rest n s,
  ),
  λ s. along (PlaceSyntax false) (PlaceSyntax true) In ranged_check_ranges places nothing_read n bytes rest back (in_place n s.1) s.0,
)
