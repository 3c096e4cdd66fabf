-- A written text parses back.
use Rattle.std.specs.Prelude.{if◌then◌else◌, ◌==◌, ◌||◌, ◌&&◌, int_lt, unwrap_or}
use Rattle.std.specs.Ordering.{int_eq}
use Rattle.std.proofs.Common.{◌≡◌, ◌≢◌, ◌≤◌, ◌<◌, ◌+◌, ◌-◌, ◌*◌, ◌^◌, ◌/◌, ◌%◌, ℕ, zero, suc, List, [], ◌∷◌, ◌++◌, take, false, true, Option, Some, None, refl, sym, ap, subst, ◌∙◌, inl, inr, arith, codes, append-nil, rules, ℤ, pos, neg_ℤ, unsigned_abs, Bool, append_assoc}
use Rattle.std.proofs.lemmas.Bool.Decides.{nat_tests}
use Rattle.std.proofs.lemmas.List.{take_all}
use Rattle.time_values.specs.DisplayTexts.{fixed, fraction_display}
use Rattle.time_values.specs.Calendar.{IsBetween, greatest_year}
use Rattle.time_values.specs.Dates as Dates
use Rattle.time_values.specs.Moments.{offset_date, offset_time, offset_of}
use Rattle.time_values.specs.Names.{month_number}
use Rattle.time_values.specs.Offsets as Offsets
use Rattle.time_values.specs.Offsets.{HasOffset, offset_refusal}
use Rattle.time_values.specs.Sign.{signed_by}
use Rattle.time_values.specs.Times as Times
use Rattle.time_values.specs.Times.{time_refusal}
use Rattle.time_values.specs.declared.offset_date_time.OffsetDateTime.{OffsetDateTime}
use Rattle.time_values.proofs.NumberLemmas.{month_number_in}
use Rattle.time_formatting.specs.WellKnown.{is_behind, is_none, numeric_text, offset_text, moment_text, count_of}
use Rattle.time_formatting.specs.declared.parts.FractionDigits.{FractionDigits}
use Rattle.time_formatting.specs.declared.parts.FractionDigits.TheVariants.{Auto, Exactly}
use Rattle.time_formatting.specs.declared.parts.Unwritable.TheVariants.{Year, OffsetHour, OffsetSecond}
use Rattle.time_formatting.proofs.KeptDigits.{fixed-length, take-fixed, front-below, significant-bound, keeps-auto}
use Rattle.time_digits.specs.Digits.{sign_byte, is_negative, AllDigits, digits_value, NoDigitFirst, IsDigitRun, IsFraction}
use Rattle.time_digits.specs.declared.Sign.{Sign}
use Rattle.time_digits.specs.declared.Sign.TheVariants.{Negative, Positive}
use Rattle.time_digits.proofs.Runs.{AllDigits-push, digits_value-push}
use Rattle.time_readers.specs.Readers.{Format, MatchesPlaces}
use Rattle.time_readers.specs.Rfc3339.{PlaceSyntax, HasForm, IsSubsecond, NoDotFirst, nothing_read, time_places, offset_places}
use Rattle.time_readers.specs.declared.rfc3339.Numbers.{Numbers}
use Rattle.time_readers.specs.declared.rfc3339.Place.TheVariants.{Year as PlaceYear, YearDash, Month, MonthDash, Day, Separator, Hour, HourColon, Minute, MinuteColon, Second, Subsecond, OffsetHour as PlaceOffsetHour, OffsetColon, OffsetMinute}
use Rattle.time_readers.specs.Direct.{IsMade, IsDirectRfc3339, RefusesRfc3339, rfc3339_numbers}
use Rattle.time_readers.proofs.MailRanges.{minute_stands}
use Rattle.time_parsing.specs.Written.{kept, IsCut, written, ReadsBack, KeepsAll}
use Rattle.time_parsing.specs.Outcome.{direct}
use Rattle.time_parsing.specs.exact.RecordedRfc3339.{direct-value}
use Rattle.time_parsing.specs.Rfc3339.{Reads, Refuses}
use Rattle.time_parsing.proofs.Told.{told, made, sign_of, signed_hours, signed_minutes, sign_byte-sign_of, is_negative-sign_of, year-below, hours-below, minutes-below, some_month, day_below}

-- ---- A written text has the form of RFC 3339

-- k digits of a number that has no more are a run with its value
fixed-digits : (k n : ℕ) → AllDigits (fixed k n)
unfolding fixed
fixed-digits zero n = tt
fixed-digits (suc k) n = AllDigits-push (fixed k (n / 10)) (48 + n % 10) (fixed-digits k (n / 10)) (omega arith, omega arith)

fixed-value : (k n : ℕ) → n < 10 ^ k → digits_value (fixed k n) ≡ n
unfolding fixed
fixed-value zero n h = omega arith
fixed-value (suc k) n h =
    let is = fixed-value k (n / 10) (omega arith) in
    digits_value-push (fixed k (n / 10)) (48 + n % 10) ∙ omega arith

pub fixed-run : (k n : ℕ) (rest : List ℕ) → n < 10 ^ k → IsDigitRun k k (fixed k n) rest n
fixed-run k n rest h = let is = fixed-length k n in record {
  digits = fixed-digits k n;
  enough = omega arith;
  within = omega arith;
  ends = inl is;
  is = sym (fixed-value k n h);
}

-- k digits are a fraction
fixed-fraction : (k n : ℕ) (rest : List ℕ) → 1 ≤ k → k ≤ 9 → n < 10 ^ k → NoDigitFirst rest
    → IsFraction (fixed k n) rest (n * 10 ^ (9 - k))
fixed-fraction k n rest some few below ends =
    let long = fixed-length k n in record {
      digits = fixed-digits k n;
      enough = omega (arith, long, some);
      ends = ends;
      is = ap (λ v. v * 10 ^ (9 - k)) (sym (fixed-value k n below))
          ∙ ap (λ text. digits_value text * 10 ^ (9 - k)) (sym (take_all 9 (fixed k n) (omega (arith, long, few))))
          ∙ ap (λ i. digits_value (take 9 (fixed k n)) * 10 ^ (9 - i)) (sym long);
    }

-- the first k of nine digits are a fraction
pub written-fraction : (k n : ℕ) (rest : List ℕ) → 1 ≤ k → k ≤ 9 → n < 10 ^ 9 → NoDigitFirst rest
    → IsFraction (take k (fixed 9 n)) rest (kept k n)
written-fraction k n rest some few below ends =
    let sum : 9 ≡ k + (9 - k) = omega (arith, few) in
    subst (λ text. IsFraction text rest (kept k n)) (sym (take-fixed (9 - k) k 9 n sum))
    (fixed-fraction k (n / 10 ^ (9 - k)) rest some few (front-below (9 - k) k 9 n sum below) ends)

-- the value of a fraction with k digits
abbrev pub said : ℕ → ℕ → Option ℕ
said k n = if k == 0 then None else Some (kept k n)

pub not_zero : (k : ℕ) → (suc k == 0) ≡ false
not_zero k = grind (arith, nat_tests)

pub fraction-stands : (k n : ℕ) (rest : List ℕ) → k ≤ 9 → n < 10 ^ 9 → NoDigitFirst rest → NoDotFirst rest
    → IsSubsecond (fraction_display k n) rest (said k n)
fraction-stands zero n rest few below ends point = (refl, point)
fraction-stands (suc k) n rest few below ends point =
    rw (not_zero k) (take (suc k) (fixed 9 n), refl, written-fraction (suc k) n rest (omega arith) few below ends)

-- a place whose text precedes those of the later places
pub MatchesPlaces-text : {P N : Type 0} (A : Format P N) (p : P) (ps : List P) (n k m : N) (text after rest : List ℕ) →
    A p n text after k → MatchesPlaces A ps k after rest m → MatchesPlaces A (p ∷ ps) n (text ++ after) rest m
unfolding MatchesPlaces
MatchesPlaces-text A p ps n k m text after rest h s = (after, k, (text, refl, h), s)

pub MatchesPlaces-none : {P N : Type 0} (A : Format P N) (n : N) (bytes : List ℕ) → MatchesPlaces A [] n bytes bytes n
unfolding MatchesPlaces
MatchesPlaces-none A n bytes = (refl, refl)

module _ (y mo d h mi s : ℕ) (subsecond : Option ℕ) where
  -- the numbers after the month, the date, and the time
  abbrev numbered : Numbers
  numbered = record nothing_read { year = y; month = mo }

  abbrev dated : Numbers
  dated = record nothing_read { year = y; month = mo; day = d }

  abbrev pub timed : Numbers
  timed = record dated { hour = h; minute = mi; second = s; subsecond = subsecond }

  -- the numbers after the offset: `Z`, or sign, hour and minute
  abbrev pub zulu : Numbers
  zulu = record timed { is_utc = true }

  abbrev signed : Sign → ℕ → Numbers
  signed sign oh = record timed { offset_is_negative = is_negative sign; offset_hour = oh }

  abbrev pub numeric : Sign → ℕ → ℕ → Numbers
  numeric sign oh om = record timed { offset_is_negative = is_negative sign; offset_hour = oh; offset_minute = om }

  pub zulu-stands : MatchesPlaces (PlaceSyntax false) offset_places timed (codes "Z") [] zulu
  zulu-stands =
      MatchesPlaces-text (PlaceSyntax false) PlaceOffsetHour _ timed zulu _ (codes "Z") _ [] (inl ((90, refl, refl), refl))
      (MatchesPlaces-text (PlaceSyntax false) OffsetColon _ zulu zulu _ [] _ [] (refl, refl)
      (MatchesPlaces-text (PlaceSyntax false) OffsetMinute [] zulu zulu _ [] [] [] (refl, refl) (MatchesPlaces-none (PlaceSyntax false) zulu [])))

  pub numeric-stands : (sign : Sign) (oh om : ℕ) → oh ≤ 23 → om < 10 ^ 2 →
      MatchesPlaces (PlaceSyntax false) offset_places timed ((sign_byte sign ∷ fixed 2 oh) ++ (codes ":" ++ fixed 2 om)) [] (numeric sign oh om)
  numeric-stands sign oh om hours minutes =
      MatchesPlaces-text (PlaceSyntax false) PlaceOffsetHour _ timed (signed sign oh) _ (sign_byte sign ∷ fixed 2 oh) _ []
      (inr (record {
        sign = sign;
        digits = fixed 2 oh;
        hour = oh;
        cut = refl;
        run = (
          fixed-run 2 oh _ (omega (arith, hours)),
          (omega arith, hours),
        );
        says = refl;
      }))
      (MatchesPlaces-text (PlaceSyntax false) OffsetColon _ (signed sign oh) (signed sign oh) _ (codes ":") _ [] (refl, refl)
      (subst (λ text. MatchesPlaces (PlaceSyntax false) (OffsetMinute ∷ []) (signed sign oh) text [] (numeric sign oh om)) (append-nil (fixed 2 om))
      (MatchesPlaces-text (PlaceSyntax false) OffsetMinute [] (signed sign oh) (numeric sign oh om) _ (fixed 2 om) [] []
      (om, (fixed-run 2 om [] minutes, tt), refl) (MatchesPlaces-none (PlaceSyntax false) (numeric sign oh om) []))))

  module _ (fraction offset : List ℕ) where
    abbrev pub time_bytes : List ℕ
    time_bytes = codes "T" ++ (fixed 2 h ++ (codes ":" ++ (fixed 2 mi ++ (codes ":" ++ (fixed 2 s ++ (fraction ++ offset))))))

    abbrev pub bytes : List ℕ
    bytes = fixed 4 y ++ (codes "-" ++ (fixed 2 mo ++ (codes "-" ++ (fixed 2 d ++ time_bytes))))

    module _ (all : Numbers) (stands : IsSubsecond fraction offset subsecond) (ends : MatchesPlaces (PlaceSyntax false) offset_places timed offset [] all)
        (clock : (h < 10 ^ 2) × (mi < 10 ^ 2) × (s < 10 ^ 2)) where
      time-stands : MatchesPlaces (PlaceSyntax false) (time_places ++ offset_places) dated time_bytes [] all
      time-stands =
          MatchesPlaces-text (PlaceSyntax false) Separator _ dated dated _ (codes "T") _ [] (refl, refl)
          (MatchesPlaces-text (PlaceSyntax false) Hour _ dated (record dated { hour = h }) _ (fixed 2 h) _ [] (h, (fixed-run 2 h _ clock.0, tt), refl)
          (MatchesPlaces-text (PlaceSyntax false) HourColon _ (record dated { hour = h }) (record dated { hour = h }) _ (codes ":") _ [] (refl, refl)
          (MatchesPlaces-text (PlaceSyntax false) Minute _ (record dated { hour = h }) (record dated { hour = h; minute = mi }) _ (fixed 2 mi) _ []
          (mi, (fixed-run 2 mi _ clock.1, tt), refl)
          (MatchesPlaces-text (PlaceSyntax false) MinuteColon _ (record dated { hour = h; minute = mi }) (record dated { hour = h; minute = mi }) _
          (codes ":") _ []
          (refl, refl)
          (MatchesPlaces-text (PlaceSyntax false) Second _ (record dated { hour = h; minute = mi }) (record dated { hour = h; minute = mi; second = s }) _
          (fixed 2 s) _ []
          (s, (fixed-run 2 s _ clock.2, tt), refl)
          (MatchesPlaces-text (PlaceSyntax false) Subsecond _ (record dated { hour = h; minute = mi; second = s }) timed _ fraction offset []
          (subsecond, stands, refl) ends))))))

      pub written_form : y < 10 ^ 4 → mo ≢ 0 → mo < 10 ^ 2 → d < 10 ^ 2 → HasForm false bytes [] all
      written_form year some_month month day =
          MatchesPlaces-text (PlaceSyntax false) PlaceYear _ nothing_read (record nothing_read { year = y }) _ (fixed 4 y) _ [] (y, fixed-run 4 y _ year, refl)
          (MatchesPlaces-text (PlaceSyntax false) YearDash _ (record nothing_read { year = y }) (record nothing_read { year = y }) _ (codes "-") _ []
          (refl, refl)
          (MatchesPlaces-text (PlaceSyntax false) Month _ (record nothing_read { year = y }) numbered _ (fixed 2 mo) _ []
          (mo, (fixed-run 2 mo _ month, tt), some_month, refl)
          (MatchesPlaces-text (PlaceSyntax false) MonthDash _ numbered numbered _ (codes "-") _ [] (refl, refl)
          (MatchesPlaces-text (PlaceSyntax false) Day _ numbered dated _ (fixed 2 d) time_bytes [] (d, (fixed-run 2 d _ day, tt), refl) time-stands))))

-- no error applies to a text
pub writable : (y h s : ℤ) →
    (if int_lt y (pos 0) || int_lt (pos 9999) y then Some Year else
    if int_lt h (neg_ℤ (pos 23)) || int_lt (pos 23) h then Some OffsetHour else
    if int_eq s (pos 0) then None else Some OffsetSecond) ≡ None
    → IsBetween (pos 0) (pos 9999) y × IsBetween (neg_ℤ (pos 23)) (pos 23) h × (s ≡ pos 0)
writable y h s is = search rules

-- how many digits are written
pub few-digits : (digits : FractionDigits) (n : ℕ) → count_of digits n ≤ 9
few-digits Auto n = significant-bound 9 n
few-digits (Exactly k) n = search rules

-- k digits have the value that they keep
said-kept : (k n : ℕ) → n < 10 ^ 9 → unwrap_or (said k n) 0 ≡ kept k n
said-kept zero n below = omega (arith, below)
said-kept (suc k) n below = rw (not_zero k) refl

-- a sign is no digit, and no point
pub no_digit : (sign : Sign) (rest : List ℕ) → NoDigitFirst (sign_byte sign ∷ rest)
no_digit Negative rest = λ h. omega (arith, h)
no_digit Positive rest = λ h. omega (arith, h)

no_point : (sign : Sign) (rest : List ℕ) → NoDotFirst (sign_byte sign ∷ rest)
no_point Negative rest = λ h. omega (arith, h)
no_point Positive rest = λ h. omega (arith, h)

-- neither hours nor minutes
pub none-is : (h m : ℤ) → (int_eq h (pos 0) && int_eq m (pos 0)) ≡ true → (h ≡ pos 0) × (m ≡ pos 0)
none-is h m is = search rules

-- thirteen texts, one after another
pub flat : (a b c d e f g h i j k l m : List ℕ) →
    a ++ b ++ c ++ d ++ e ++ f ++ (g ++ h ++ i ++ j ++ k) ++ l ++ m
    ≡ a ++ (b ++ (c ++ (d ++ (e ++ (f ++ (g ++ (h ++ (i ++ (j ++ (k ++ (l ++ m)))))))))))
flat a b c d e f g h i j k l m = simp append_assoc refl

module _ (k : ℕ) (few : k ≤ 9) (v w : OffsetDateTime) (cut : IsCut k v w)
    (year : IsBetween (pos 0) (pos 9999) (Dates.year (offset_date v)))
    (hours : IsBetween (neg_ℤ (pos 23)) (pos 23) (Offsets.hours (offset_of v)))
    (whole : Offsets.seconds (offset_of v) ≡ pos 0) where
  -- the text of the moment with that offset
  abbrev pub with_offset : List ℕ → List ℕ
  with_offset offset =
      bytes (unsigned_abs (Dates.year (offset_date v))) (month_number (Dates.month (offset_date v))) (Dates.day (offset_date v))
      (Times.hour (offset_time v)) (Times.minute (offset_time v)) (Times.second (offset_time v))
      (said k (Times.nanosecond (offset_time v))) (fraction_display k (Times.nanosecond (offset_time v))) offset

  -- it is the moment of the offset's numbers
  stands-with : (offset : List ℕ) (all : Numbers) → NoDigitFirst offset → NoDotFirst offset →
      MatchesPlaces (PlaceSyntax false) offset_places (timed (unsigned_abs (Dates.year (offset_date v))) (month_number (Dates.month (offset_date v)))
      (Dates.day (offset_date v)) (Times.hour (offset_time v)) (Times.minute (offset_time v)) (Times.second (offset_time v))
      (said k (Times.nanosecond (offset_time v)))) offset [] all →
      all.offset_minute ≤ 59 → rfc3339_numbers all ≡ told k v → IsDirectRfc3339 greatest_year (with_offset offset) w
  stands-with offset all digit point ends minute is =
      let d = offset_date v in
      let t = offset_time v in
      let month = month_number_in (Dates.month d) in
      let h = t.hour_in in let m = t.minute_in in let s = t.second_in in
      let form = written_form (unsigned_abs (Dates.year d)) (month_number (Dates.month d)) (Dates.day d)
      (Times.hour t) (Times.minute t) (Times.second t) (said k (Times.nanosecond t)) (fraction_display k (Times.nanosecond t)) offset all
      (fraction-stands k (Times.nanosecond t) offset few t.nanosecond_in digit point) ends
      (omega (arith, h), omega (arith, m), omega (arith, s))
      (year-below (Dates.year d) year) (some_month d) (omega (arith, month)) (day_below d) in
      (all, form, minute_stands all minute, subst (λ said. IsMade greatest_year said w) (sym is) (made k v w cut year whole))

  -- the text with the offset UTC, and with another offset
  zulu-back : is_none (offset_of v) ≡ true → IsDirectRfc3339 greatest_year (with_offset (codes "Z")) w
  zulu-back none =
      let parts = none-is (Offsets.hours (offset_of v)) (Offsets.minutes (offset_of v)) none in
      stands-with (codes "Z") (zulu _ _ _ _ _ _ _) (λ h. omega (arith, h)) (λ h. omega (arith, h)) (zulu-stands _ _ _ _ _ _ _) (omega arith)
      (λ j. record {
        year = unsigned_abs (Dates.year (offset_date v));
        month = month_number (Dates.month (offset_date v));
        day = Dates.day (offset_date v);
        hour = Times.hour (offset_time v);
        minute = Times.minute (offset_time v);
        second = Times.second (offset_time v);
        nanosecond = said-kept k (Times.nanosecond (offset_time v)) (offset_time v).nanosecond_in j;
        offset_hour = sym parts.0 j;
        offset_minute = sym parts.1 j;
      })

  pub numeric-back : IsDirectRfc3339 greatest_year (with_offset (numeric_text (offset_of v))) w
  numeric-back =
      let o = offset_of v in
      let sign = sign_of (is_behind o) in
      let oh = unsigned_abs (Offsets.hours o) in
      let om = unsigned_abs (Offsets.minutes o) in
      let minutes = minutes-below (Offsets.minutes o) o.minutes_in in
      let hour : signed_by (is_negative sign) (pos oh) ≡ Offsets.hours o =
      ap (λ b. signed_by b (pos oh)) (is_negative-sign_of (is_behind o)) ∙ sym (signed_hours (Offsets.hours o) (Offsets.minutes o) o.one_sign.0) in
      let minute : signed_by (is_negative sign) (pos om) ≡ Offsets.minutes o =
      ap (λ b. signed_by b (pos om)) (is_negative-sign_of (is_behind o)) ∙ sym (signed_minutes (Offsets.hours o) (Offsets.minutes o) o.one_sign.0) in
      let text : (sign_byte sign ∷ fixed 2 oh) ++ (codes ":" ++ fixed 2 om) ≡ numeric_text o =
      ap (λ b. (b ∷ fixed 2 oh) ++ (codes ":" ++ fixed 2 om)) (sign_byte-sign_of (is_behind o))
      ∙ sym (append_assoc (_ ∷ fixed 2 oh) (codes ":") (fixed 2 om)) in
      subst (λ offset. IsDirectRfc3339 greatest_year (with_offset offset) w) text
      (stands-with ((sign_byte sign ∷ fixed 2 oh) ++ (codes ":" ++ fixed 2 om)) (numeric _ _ _ _ _ _ _ sign oh om)
      (no_digit sign (fixed 2 oh ++ (codes ":" ++ fixed 2 om))) (no_point sign (fixed 2 oh ++ (codes ":" ++ fixed 2 om)))
      (numeric-stands _ _ _ _ _ _ _ sign oh om (hours-below (Offsets.hours o) hours) (omega (arith, minutes))) minutes
      (λ j. record {
        year = unsigned_abs (Dates.year (offset_date v));
        month = month_number (Dates.month (offset_date v));
        day = Dates.day (offset_date v);
        hour = Times.hour (offset_time v);
        minute = Times.minute (offset_time v);
        second = Times.second (offset_time v);
        nanosecond = said-kept k (Times.nanosecond (offset_time v)) (offset_time v).nanosecond_in j;
        offset_hour = hour j;
        offset_minute = minute j;
      }))

  by_none : (b : Bool) → is_none (offset_of v) ≡ b →
      IsDirectRfc3339 greatest_year (with_offset (if b then codes "Z" else numeric_text (offset_of v))) w
  by_none true none = zulu-back none
  by_none false some = numeric-back

  written-back : IsDirectRfc3339 greatest_year (moment_text k v) w
  written-back =
      subst (λ text. IsDirectRfc3339 greatest_year text w) (sym (flat (fixed 4 _) (codes "-") (fixed 2 _) (codes "-") (fixed 2 _) (codes "T")
      (fixed 2 _) (codes ":")
      (fixed 2 _) (codes ":") (fixed 2 _) (fraction_display k (Times.nanosecond (offset_time v))) (offset_text (offset_of v))))
      (by_none (is_none (offset_of v)) refl)

pub read_back : ReadsBack greatest_year (direct (RefusesRfc3339 greatest_year)) (Reads greatest_year) (Refuses greatest_year)
read_back digits v w none cut =
    let is = writable (Dates.year (offset_date v)) (Offsets.hours (offset_of v)) (Offsets.seconds (offset_of v)) none in
    let few = few-digits digits (Times.nanosecond (offset_time v)) in
    let back = written-back (written digits v) few v w cut is.0 is.1 is.2 in
    let value = direct-value (moment_text (written digits v) v) w back in
    (value, value)

pub auto-keeps : KeepsAll Auto
auto-keeps n below = keeps-auto n

pub nine-keeps : KeepsAll (Exactly 9)
nine-keeps n below = omega arith

-- with nine digits a moment is kept whole
pub all_digits : (v : OffsetDateTime) → IsCut 9 v v
all_digits v = record {
  date = refl;
  clock = (refl, refl, refl, sym (nine-keeps (Times.nanosecond (offset_time v)) (offset_time v).nanosecond_in));
  offset = refl;
}
