-- Mail dates with range checks are those without them whose numbers are in range.
use Rattle.std.proofs.Common.{◌⊎◌, ℕ, List, [], ◌∷◌, ap, drop, subst, inl, inr, rules, Bool, true, false, Option, Some, None, IfSome, pos, unsigned_abs}
use Rattle.time_values.specs.Sign.{signed_by}
use Rattle.time_digits.specs.Digits.{is_negative}
use Rattle.time_readers.specs.Laws.{RangedForms}
use Rattle.time_readers.specs.Readers.{MatchesPlaces, IsWithin}
use Rattle.time_readers.specs.Rfc2822.{PlaceSyntax, HasForm, InRanges, IsSecond, IsZone, IsSignedHour, IsOffsetMinute, places, nothing_read}
use Rattle.time_digits.specs.declared.Sign.{Sign}
use Rattle.time_readers.specs.declared.rfc2822.Numbers.{Numbers}
use Rattle.time_readers.specs.declared.rfc2822.Place.{Place}
use Rattle.time_readers.specs.declared.rfc2822.Place.TheVariants.{WeekdayName, Day, DayBlanks, MonthName, MonthBlanks, Year, YearBlanks, Hour, HourColon, Minute, Second, TimeBlanks, OffsetHour, OffsetMinute, EndBlanks}
use Rattle.time_readers.proofs.MailRanges.{with_place, alone, signed-abs, HasForm-in_places}
use Rattle.time_readers.proofs.Walking.{Back, Ignores, along, back_by}

-- the number of a place is in its range
abbrev In : Place → Numbers → Type 0
In Day m = IsWithin true 1 31 m.day
In Hour m = IsWithin true 0 23 m.hour
In Minute m = IsWithin true 0 59 m.minute
In Second m = IfSome m.second (IsWithin true 0 60)
In OffsetHour m = IsWithin true 0 25 (unsigned_abs m.offset_hour)
In OffsetMinute m = IsWithin true 0 59 (unsigned_abs m.offset_minute)
In _ m = Unit {0}

second : (text after : List ℕ) (v : Option ℕ) → IfSome v (IsWithin true 0 60) → IsSecond false text after v → IsSecond true text after v
second text after None i s = s
second text after (Some v) i s = (s.0, s.1, s.2, s.3, (s.4.0, i))

-- a number is in range if the absolute value of the signed number is
unsigned : (most : ℕ) (b : Bool) (v : ℕ) → IsWithin true 0 most (unsigned_abs (signed_by b (pos v))) → IsWithin true 0 most v
unsigned most b v i = subst (IsWithin true 0 most) (signed-abs b v) i

hour : (n m : Numbers) (text after : List ℕ) → IsWithin true 0 25 (unsigned_abs m.offset_hour)
    → IsZone n text after m ⊎ IsSignedHour false n text after m → IsZone n text after m ⊎ IsSignedHour true n text after m
hour n m text after i (inl z) = inl z
hour n m text after i (inr s) =
    let within = subst (λ v. IsWithin true 0 25 (unsigned_abs v)) (ap (λ x. x.offset_hour) s.says) i in
    inr (record {
      no_zone = s.no_zone;
      sign = s.sign;
      digits = s.digits;
      hour = s.hour;
      cut = s.cut;
      run = (s.run.0, unsigned 25 (is_negative s.sign) s.hour within);
      says = s.says;
    })

minute : (sign : Option Sign) (n m : Numbers) (text after : List ℕ) → IsWithin true 0 59 (unsigned_abs m.offset_minute)
    → IsOffsetMinute false sign n text after m → IsOffsetMinute true sign n text after m
minute None n m text after i a = a
minute (Some s) n m text after i a =
    let within = subst (λ v. IsWithin true 0 59 (unsigned_abs v)) (ap (λ x. x.offset_minute) a.2) i in
    (a.0, (a.1.0, unsigned 59 (is_negative s) a.0 within), a.2)

-- a text of a place without range checks matches with them, if its number is in range
check_ranges : (p : Place) (n m : Numbers) (text after : List ℕ) → In p m → PlaceSyntax false p n text after m → PlaceSyntax true p n text after m
check_ranges WeekdayName n m text after i a = a
check_ranges Day n m text after i a = (a.0, a.1, subst (IsWithin true 1 31) (ap (λ x. x.day) a.3) i, a.3)
check_ranges DayBlanks n m text after i a = a
check_ranges MonthName n m text after i a = a
check_ranges MonthBlanks n m text after i a = a
check_ranges Year n m text after i a = a
check_ranges YearBlanks n m text after i a = a
check_ranges Hour n m text after i a = (a.0, (a.1.0, subst (IsWithin true 0 23) (ap (λ x. x.hour) a.2) i), a.2)
check_ranges HourColon n m text after i a = a
check_ranges Minute n m text after i a = (a.0, (a.1.0, subst (IsWithin true 0 59) (ap (λ x. x.minute) a.2) i), a.2)
check_ranges Second n m text after i a =
    (a.0, second text after a.0 (subst (λ v. IfSome v (IsWithin true 0 60)) (ap (λ x. x.second) a.2) i) a.1, a.2)
check_ranges TimeBlanks n m text after i a = a
check_ranges OffsetHour n m text after i a = hour n m text after i a
check_ranges OffsetMinute n m text after i a = minute n.offset_sign n m text after i a
check_ranges EndBlanks n m text after i a = a

any_second : (text after : List ℕ) (v : Option ℕ) → IsSecond true text after v → IsSecond false text after v
any_second text after None s = s
any_second text after (Some v) s = (s.0, s.1, s.2, s.3, (s.4.0, tt))

any_hour : (n m : Numbers) (text after : List ℕ)
    → IsZone n text after m ⊎ IsSignedHour true n text after m → IsZone n text after m ⊎ IsSignedHour false n text after m
any_hour n m text after (inl z) = inl z
any_hour n m text after (inr s) = inr (record {
  no_zone = s.no_zone;
  sign = s.sign;
  digits = s.digits;
  hour = s.hour;
  cut = s.cut;
  run = (s.run.0, tt);
  says = s.says;
})

any_minute : (sign : Option Sign) (n m : Numbers) (text after : List ℕ)
    → IsOffsetMinute true sign n text after m → IsOffsetMinute false sign n text after m
any_minute None n m text after a = a
any_minute (Some s) n m text after a = (a.0, (a.1.0, tt), a.2)

-- a text of a place with range checks matches without them
formed : (p : Place) (n m : Numbers) (text after : List ℕ) → PlaceSyntax true p n text after m → PlaceSyntax false p n text after m
formed WeekdayName n m text after a = a
formed Day n m text after a = (a.0, a.1, tt, a.3)
formed DayBlanks n m text after a = a
formed MonthName n m text after a = a
formed MonthBlanks n m text after a = a
formed Year n m text after a = a
formed YearBlanks n m text after a = a
formed Hour n m text after a = (a.0, (a.1.0, tt), a.2)
formed HourColon n m text after a = a
formed Minute n m text after a = (a.0, (a.1.0, tt), a.2)
formed Second n m text after a = (a.0, any_second text after a.0 a.1, a.2)
formed TimeBlanks n m text after a = a
formed OffsetHour n m text after a = any_hour n m text after a
formed OffsetMinute n m text after a = any_minute n.offset_sign n m text after a
formed EndBlanks n m text after a = a

-- the places after a place don't change its number
after : {X : Type 0} (f : Numbers → X) (Q : X → Type 0) (ps : List Place) → Ignores with_place f ps
    → (k m : Numbers) (bytes rest : List ℕ) → MatchesPlaces (PlaceSyntax false) ps k bytes rest m → Q (f m) → Q (f k)
after f Q = back_by (PlaceSyntax false) with_place f Q (alone false)

back : Back (PlaceSyntax false) In places
back = (
  λ k m b r s i. tt,
  (
    after (λ n. n.day) (IsWithin true 1 31) (drop 2 places) (search rules),
    (
      λ k m b r s i. tt,
      (
        λ k m b r s i. tt,
        (
          λ k m b r s i. tt,
          (
            λ k m b r s i. tt,
            (
              λ k m b r s i. tt,
              (
                after (λ n. n.hour) (IsWithin true 0 23) (drop 8 places) (search rules),
                (
                  λ k m b r s i. tt,
                  (
                    after (λ n. n.minute) (IsWithin true 0 59) (drop 10 places) (search rules),
                    (
                      after (λ n. n.second) (λ v. IfSome v (IsWithin true 0 60)) (drop 11 places) (search rules),
                      (
                        λ k m b r s i. tt,
                        (
                          after (λ n. n.offset_hour) (λ v. IsWithin true 0 25 (unsigned_abs v)) (drop 13 places) (search rules),
                          (
                            after (λ n. n.offset_minute) (λ v. IsWithin true 0 59 (unsigned_abs v)) (drop 14 places) (search rules),
                            (λ k m b r s i. tt, tt),
                          ),
                        ),
                      ),
                    ),
                  ),
                ),
              ),
            ),
          ),
        ),
      ),
    ),
  ),
)

all_back : (ps : List Place) → Back (PlaceSyntax true) (λ p n. Unit {0}) ps
all_back [] = tt
all_back (p ∷ ps) = (λ k m b r s i. tt, all_back ps)

in_place : (n : Numbers) → InRanges n → (p : Place) → In p n
in_place n i Day = i.day
in_place n i Hour = i.hour
in_place n i Minute = i.minute
in_place n i Second = i.second
in_place n i OffsetHour = i.offset_hour
in_place n i OffsetMinute = i.offset_minute
in_place n i WeekdayName = tt
in_place n i DayBlanks = tt
in_place n i MonthName = tt
in_place n i MonthBlanks = tt
in_place n i Year = tt
in_place n i YearBlanks = tt
in_place n i HourColon = tt
in_place n i TimeBlanks = tt
in_place n i EndBlanks = tt

in_ranges : (bytes rest : List ℕ) (n : Numbers) → HasForm true bytes rest n → InRanges n
in_ranges bytes rest n s =
    let i = HasForm-in_places true bytes rest n s in
    record {
      day = i.day;
      hour = i.hour;
      minute = i.minute;
      second = i.second;
      offset_hour = i.offset_hour;
      offset_minute = i.offset_minute;
    }

pub ranged_mail : RangedForms (HasForm true) (HasForm false) InRanges
ranged_mail bytes rest n = (
  λ s. (
    along (PlaceSyntax true) (PlaceSyntax false) (λ p m. Unit {0}) (λ p m k text after i a. formed p m k text after a) places
        nothing_read n bytes rest (all_back places) (λ p. tt) s,
    in_ranges bytes rest n s,
  ),
  λ s. along (PlaceSyntax false) (PlaceSyntax true) In check_ranges places nothing_read n bytes rest back (in_place n s.1) s.0,
)
