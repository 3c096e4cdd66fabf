-- A written mail date has the form of RFC 2822.
use Rattle.std.specs.Prelude.{◌||◌, if◌then◌else◌}
use Rattle.std.specs.Ordering.{int_eq}
use Rattle.std.proofs.Common.{◌≡◌, ◌≤◌, ◌<◌, ◌^◌, ℕ, pos, List, [], ◌∷◌, ◌++◌, get_or, false, true, Some, None, refl, inl, inr, arith, rules, int_lt, ℤ, negsuc, unsigned_abs, sym, ap, ◌∙◌, subst, append_assoc, append-nil, codes}
use Rattle.std.proofs.lemmas.Int.{ints}
use Rattle.time_values.specs.Sign.{signed_by}
use Rattle.time_values.specs.declared.month.Month.{Month}
use Rattle.time_values.specs.declared.month.Month.TheVariants.{January, February, March, April, May, June, July, August, September, October, November, December}
use Rattle.time_values.specs.declared.weekday.Weekday.{Weekday}
use Rattle.time_values.specs.declared.weekday.Weekday.TheVariants.{Monday, Tuesday, Wednesday, Thursday, Friday, Saturday, Sunday}
use Rattle.time_values.specs.DisplayTexts.{fixed}
use Rattle.time_values.specs.Calendar.{IsBetween, greatest_year}
use Rattle.time_values.specs.Dates as Dates
use Rattle.time_values.specs.Moments.{offset_date, offset_time, offset_of}
use Rattle.time_values.specs.Names.{month_number}
use Rattle.time_values.specs.Offsets as Offsets
use Rattle.time_values.specs.Times as Times
use Rattle.time_values.specs.declared.offset_date_time.OffsetDateTime.{OffsetDateTime}
use Rattle.time_formatting.specs.WellKnown.{short_weekday, short_month, is_behind, mail_text}
use Rattle.time_formatting.specs.declared.parts.Unwritable.TheVariants.{Year, OffsetSecond}
use Rattle.time_formatting.proofs.KeptDigits.{fixed-length}
use Rattle.time_digits.specs.Digits.{sign_byte, is_negative, IsDigitRun}
use Rattle.time_digits.specs.declared.Sign.{Sign}
use Rattle.time_digits.specs.declared.Sign.TheVariants.{Negative, Positive}
use Rattle.time_readers.specs.MailBlanks.{fws, cfws, opt_cfws, opt_cfws_colon_opt_cfws, zone_literal}
use Rattle.time_readers.specs.Readers.{MatchesPlaces}
use Rattle.time_readers.specs.Rfc2822.{PlaceSyntax, HasForm, nothing_read, time_places, offset_places}
use Rattle.time_readers.specs.declared.rfc2822.Numbers.{Numbers}
use Rattle.time_readers.specs.declared.rfc2822.Place.TheVariants.{WeekdayName, Day, DayBlanks, MonthName, MonthBlanks, Year as PlaceYear, YearBlanks, Hour, HourColon, Minute, Second, TimeBlanks, OffsetHour, OffsetMinute, EndBlanks}
use Rattle.time_readers.specs.Direct.{IsMade, IsDirectRfc2822, RefusesRfc2822}
use Rattle.time_readers.proofs.MailOffset.{zone-sign}
use Rattle.time_readers.proofs.OpenComments.{fws-short, cfws-short, colon-short, opt_cfws-short, opt_cfws-one, opt_cfws-empty}
use Rattle.time_parsing.specs.Outcome.{direct}
use Rattle.time_parsing.specs.exact.RecordedRfc2822.{direct-value}
use Rattle.time_parsing.specs.Rfc2822.{Reads, Refuses}
use Rattle.time_parsing.specs.Written.{kept, IsCut, ReadsMailBack}
use Rattle.time_parsing.proofs.WrittenBack.{fixed-run, MatchesPlaces-text, MatchesPlaces-none}
use Rattle.time_parsing.proofs.Told.{made, sign_of, signed_hours, signed_minutes, sign_byte-sign_of, is_negative-sign_of, year-below, all_hours-below, minutes-below, day_below}

-- a text begins with a byte that is no blank and begins no comment
abbrev IsPlain : List ℕ → Type 0
IsPlain text = 41 ≤ get_or text 0 0

-- letters, digits and a sign are such bytes
letters-plain : (w : Weekday) (rest : List ℕ) → IsPlain (short_weekday w ++ rest)
letters-plain Monday rest = omega arith
letters-plain Tuesday rest = omega arith
letters-plain Wednesday rest = omega arith
letters-plain Thursday rest = omega arith
letters-plain Friday rest = omega arith
letters-plain Saturday rest = omega arith
letters-plain Sunday rest = omega arith

month-plain : (m : Month) (rest : List ℕ) → IsPlain (short_month m ++ rest)
month-plain January rest = omega arith
month-plain February rest = omega arith
month-plain March rest = omega arith
month-plain April rest = omega arith
month-plain May rest = omega arith
month-plain June rest = omega arith
month-plain July rest = omega arith
month-plain August rest = omega arith
month-plain September rest = omega arith
month-plain October rest = omega arith
month-plain November rest = omega arith
month-plain December rest = omega arith

digits-plain : (n : ℕ) (rest : List ℕ) → IsPlain (fixed 2 n ++ rest)
unfolding fixed
digits-plain n rest = omega arith

year-plain : (n : ℕ) (rest : List ℕ) → IsPlain (fixed 4 n ++ rest)
unfolding fixed
year-plain n rest = omega arith

sign-plain : (sign : Sign) (rest : List ℕ) → IsPlain (sign_byte sign ∷ rest)
sign-plain Negative rest = omega arith
sign-plain Positive rest = omega arith

-- no blank, one, and a colon, before such a text
none-at : (text : List ℕ) → IsPlain text → opt_cfws text ≡ Some text
none-at [] h = absurd (omega (arith, h))
none-at (c ∷ text) h = opt_cfws-short (c ∷ text) h

one-at : (text : List ℕ) → IsPlain text → opt_cfws (32 ∷ text) ≡ Some text
one-at [] h = absurd (omega (arith, h))
one-at (c ∷ text) h = opt_cfws-one (32 ∷ c ∷ text) (omega arith) refl h

blank-at : (text : List ℕ) → IsPlain text → cfws (32 ∷ text) ≡ Some text
blank-at [] h = absurd (omega (arith, h))
blank-at (c ∷ text) h =
    cfws-short (32 ∷ c ∷ text) (omega arith) (inl refl, (λ e. omega (arith, h, e)), (λ e. omega (arith, h, e)), (λ e. omega (arith, h, e)))
    (λ e. omega (arith, h, e))

fold-at : (text : List ℕ) → IsPlain text → fws (32 ∷ text) ≡ Some text
fold-at [] h = absurd (omega (arith, h))
fold-at (c ∷ text) h =
    fws-short (32 ∷ c ∷ text) (omega arith) (inl refl, (λ e. omega (arith, h, e)), (λ e. omega (arith, h, e)), (λ e. omega (arith, h, e)))

colon-at : (text : List ℕ) → IsPlain text → opt_cfws_colon_opt_cfws (58 ∷ text) ≡ Some text
colon-at [] h = absurd (omega (arith, h))
colon-at (c ∷ text) h = colon-short (58 ∷ c ∷ text) (omega arith) refl h

-- no zone name begins with a sign
no_zone : (sign : Sign) (rest : List ℕ) → zone_literal (sign_byte sign ∷ rest) ≡ None
no_zone Negative rest = zone-sign (45 ∷ rest) (omega arith) (inr refl)
no_zone Positive rest = zone-sign (43 ∷ rest) (omega arith) (inl refl)

-- a run of one digit or two
day-run : (d : ℕ) (rest : List ℕ) → d < 10 ^ 2 → IsDigitRun 1 2 (fixed 2 d) rest d
day-run d rest h = let run = fixed-run 2 d rest h in let long = fixed-length 2 d in record {
  digits = run.digits;
  enough = omega (arith, long);
  within = omega (arith, long);
  ends = inl long;
  is = run.is;
}

module _ (w : Weekday) (d : ℕ) (month : Month) (y h mi s : ℕ) (sign : Sign) (oh om : ℕ) where
  -- the numbers after each part
  abbrev named : Numbers
  named = record nothing_read { weekday = Some w }

  abbrev dated : Numbers
  dated = record named { day = d; month = month; year = y; year_is_full = true }

  abbrev timed : Numbers
  timed = record dated { hour = h; minute = mi; second = Some s }

  abbrev signed : Numbers
  signed = record timed { offset_sign = Some sign; offset_hour = signed_by (is_negative sign) (pos oh) }

  abbrev pub mail_numbers : Numbers
  mail_numbers = record signed { offset_minute = signed_by (is_negative sign) (pos om) }

  abbrev offset_bytes : List ℕ
  offset_bytes = (sign_byte sign ∷ fixed 2 oh) ++ (fixed 2 om ++ [])

  abbrev time_bytes : List ℕ
  time_bytes =
      fixed 2 h ++ ((58 ∷ []) ++ (fixed 2 mi ++ ((58 ∷ fixed 2 s) ++ ((32 ∷ []) ++ offset_bytes))))

  abbrev pub mail_bytes : List ℕ
  mail_bytes =
      (short_weekday w ++ (44 ∷ 32 ∷ [])) ++ (fixed 2 d ++ ((32 ∷ []) ++ (short_month month ++ ((32 ∷ []) ++ (fixed 4 y
      ++ ((32 ∷ []) ++ time_bytes))))))

  module _ (hours : oh ≤ 25) (minutes : om < 10 ^ 2) where
    offset-stands : MatchesPlaces (PlaceSyntax false) offset_places timed offset_bytes [] mail_numbers
    offset-stands =
        MatchesPlaces-text (PlaceSyntax false) OffsetHour _ timed signed _ (sign_byte sign ∷ fixed 2 oh) _ []
        (inr (record {
          no_zone = no_zone sign _;
          sign = sign;
          digits = fixed 2 oh;
          hour = oh;
          cut = refl;
          run = (
            fixed-run 2 oh _ (omega
                (arith, hours)),
            tt,
          );
          says = refl;
        }))
        (MatchesPlaces-text (PlaceSyntax false) OffsetMinute _ signed mail_numbers _ (fixed 2 om) [] []
        (om, (fixed-run 2 om [] minutes, tt), refl)
        (MatchesPlaces-text (PlaceSyntax false) EndBlanks [] mail_numbers mail_numbers _ [] [] [] (opt_cfws-empty [] refl, refl)
        (MatchesPlaces-none (PlaceSyntax false) mail_numbers [])))

    module _ (clock : (h < 10 ^ 2) × (mi < 10 ^ 2) × (s < 10 ^ 2)) where
      time-stands : MatchesPlaces (PlaceSyntax false) (time_places ++ offset_places) dated time_bytes [] mail_numbers
      time-stands =
          MatchesPlaces-text (PlaceSyntax false) Hour _ dated (record dated { hour = h }) _ (fixed 2 h) _ [] (h, (fixed-run 2 h _ clock.0, tt), refl)
          (MatchesPlaces-text (PlaceSyntax false) HourColon _ (record dated { hour = h }) (record dated { hour = h }) _ (58 ∷ []) _ []
          (colon-at _ (digits-plain mi _), refl)
          (MatchesPlaces-text (PlaceSyntax false) Minute _ (record dated { hour = h }) (record dated { hour = h; minute = mi }) _ (fixed 2 mi) _ []
          (mi, (fixed-run 2 mi _ clock.1, tt), refl)
          (MatchesPlaces-text (PlaceSyntax false) Second _ (record dated { hour = h; minute = mi }) timed _ (58 ∷ fixed 2 s) _ []
          (Some s, (58 ∷ [], fixed 2 s, refl, colon-at _ (digits-plain s _), (fixed-run 2 s _ clock.2, tt)), refl)
          (MatchesPlaces-text (PlaceSyntax false) TimeBlanks _ timed timed _ (32 ∷ []) _ [] (
            blank-at _ (sign-plain sign (fixed 2 oh ++ (fixed 2 om
                ++ []))),
            refl,
          ) offset-stands))))

      pub mail_form : d < 10 ^ 2 → y < 10 ^ 4 → 1900 ≤ y → HasForm false mail_bytes [] mail_numbers
      mail_form day year late =
          MatchesPlaces-text (PlaceSyntax false) WeekdayName _ nothing_read named _ (short_weekday w ++ (44 ∷ 32 ∷ [])) _ []
          (Some w, ([], short_weekday w, 32 ∷ [], refl, none-at _ (letters-plain w _), refl, one-at _ (digits-plain d _)), refl)
          (MatchesPlaces-text (PlaceSyntax false) Day _ named (record named { day = d }) _ (fixed 2 d) _ [] (d, day-run d _ day, tt, refl)
          (MatchesPlaces-text (PlaceSyntax false) DayBlanks _ (record named { day = d }) (record named { day = d }) _ (32 ∷ []) _ []
          (blank-at _ (month-plain month _), refl)
          (MatchesPlaces-text (PlaceSyntax false) MonthName _ (record named { day = d }) (record named { day = d; month = month }) _ (short_month month) _ []
          (month, refl, refl)
          (MatchesPlaces-text (PlaceSyntax false) MonthBlanks _ (record named { day = d; month = month }) (record named { day = d; month = month }) _
          (32 ∷ []) _ []
          (blank-at _ (year-plain y _), refl)
          (MatchesPlaces-text (PlaceSyntax false) PlaceYear _ (record named { day = d; month = month }) dated _ (fixed 4 y) _ []
          (true, y, (fixed-run 4 y _ year, late), refl)
          (MatchesPlaces-text (PlaceSyntax false) YearBlanks _ dated dated _ (32 ∷ []) time_bytes [] (fold-at _ (digits-plain h _), refl) time-stands))))))

-- ---- A written mail date parses back

-- no error applies to a mail date
writable : (y s : ℤ)
    → (if int_lt y (pos 1900) || int_lt (pos 9999) y then Some Year else if int_eq s (pos 0) then None else Some OffsetSecond) ≡ None
    → IsBetween (pos 1900) (pos 9999) y × (s ≡ pos 0)
writable y s is = search rules

four_digits : (y : ℤ) → IsBetween (pos 1900) (pos 9999) y → IsBetween (pos 0) (pos 9999) y
four_digits y h = omega (arith, ints, h)

-- no digit of the fraction is kept
none-kept : (n : ℕ) → n < 10 ^ 9 → 0 ≡ kept 0 n
none-kept n below = omega (arith, below)

late-year : (y : ℤ) → IsBetween (pos 1900) (pos 9999) y → 1900 ≤ unsigned_abs y
late-year (pos n) h = omega (arith, ints, h)
late-year (negsuc n) h = absurd (omega (arith, ints, h))

-- the pieces of a mail date, one after another
flat : (a b c d m f y g h i j k s l z o : List ℕ) →
    a ++ b ++ c ++ d ++ m ++ f ++ y ++ g ++ (h ++ i ++ j ++ k ++ s) ++ l ++ (z ++ o)
    ≡ (a ++ b) ++ (c ++ (d ++ (m ++ (f ++ (y ++ (g ++ (h ++ (i ++ (j ++ ((k ++ s) ++ (l ++ (z ++ (o ++ [])))))))))))))
flat a b c d m f y g h i j k s l z o = simp append_assoc (ap (λ o. a ++ (b ++ (c ++ (d ++ (m ++ (f ++ (y ++ (g ++ (h ++ (i ++ (j ++ (k ++ (s ++ (l
    ++ (z ++ o))))))))))))))) (sym (append-nil o)))

module _ (v w : OffsetDateTime) (cut : IsCut 0 v w)
    (year : IsBetween (pos 1900) (pos 9999) (Dates.year (offset_date v)))
    (whole : Offsets.seconds (offset_of v) ≡ pos 0) (day : Weekday) where
  mail-back : IsDirectRfc2822 greatest_year (mail_text day v) w
  mail-back =
      let d = offset_date v in
      let t = offset_time v in
      let o = offset_of v in
      let years = four_digits (Dates.year d) year in
      let sign = sign_of (is_behind o) in
      let oh = unsigned_abs (Offsets.hours o) in
      let om = unsigned_abs (Offsets.minutes o) in
      let minutes = minutes-below (Offsets.minutes o) o.minutes_in in
      let hour : signed_by (is_negative sign) (pos oh) ≡ Offsets.hours o =
      ap (λ b. signed_by b (pos oh)) (is_negative-sign_of (is_behind o)) ∙ sym (signed_hours (Offsets.hours o) (Offsets.minutes o) o.one_sign.0) in
      let minute : signed_by (is_negative sign) (pos om) ≡ Offsets.minutes o =
      ap (λ b. signed_by b (pos om)) (is_negative-sign_of (is_behind o)) ∙ sym (signed_minutes (Offsets.hours o) (Offsets.minutes o) o.one_sign.0) in
      let h = t.hour_in in let m = t.minute_in in let s = t.second_in in
      let numbers = mail_numbers day (Dates.day d) (Dates.month d) (unsigned_abs (Dates.year d)) (Times.hour t) (Times.minute t)
      (Times.second t) sign oh om in
      let form = mail_form day (Dates.day d) (Dates.month d) (unsigned_abs (Dates.year d)) (Times.hour t) (Times.minute t) (Times.second t) sign oh om
      (all_hours-below (Offsets.hours o) o.hours_in) (omega (arith, minutes)) (omega (arith, h), omega (arith, m), omega (arith, s))
      (day_below d) (year-below (Dates.year d) years) (late-year (Dates.year d) year) in
      let text : mail_text day v ≡ mail_bytes day (Dates.day d) (Dates.month d) (unsigned_abs (Dates.year d)) (Times.hour t) (Times.minute t)
      (Times.second t) sign oh om =
      flat (short_weekday day) (codes ", ") (fixed 2 (Dates.day d)) (codes " ") (short_month (Dates.month d)) (codes " ")
      (fixed 4 (unsigned_abs (Dates.year d))) (codes " ") (fixed 2 (Times.hour t)) (codes ":") (fixed 2 (Times.minute t)) (codes ":")
      (fixed 2 (Times.second t)) (codes " ") (_ ∷ fixed 2 oh) (fixed 2 om)
      ∙ ap (λ b. (short_weekday day ++ (44 ∷ 32 ∷ [])) ++ (fixed 2 (Dates.day d) ++ ((32 ∷ []) ++ (short_month (Dates.month d) ++ ((32 ∷ []) ++
      (fixed 4 (unsigned_abs (Dates.year d))
      ++ ((32 ∷ []) ++ (fixed 2 (Times.hour t) ++ ((58 ∷ []) ++ (fixed 2 (Times.minute t) ++ ((58 ∷ fixed 2 (Times.second t)) ++ ((32 ∷ []) ++
      ((b ∷ fixed 2 oh) ++ (fixed 2 om ++ [])))))))))))))) (sym (sign_byte-sign_of (is_behind o))) in
      subst (λ bytes. IsDirectRfc2822 greatest_year bytes w) (sym text) (
        numbers,
        form,
        refl,
        subst (λ said. IsMade greatest_year said w) (λ j. record {
          year = unsigned_abs (Dates.year d);
          month = month_number (Dates.month d);
          day = Dates.day d;
          hour = Times.hour t;
          minute = Times.minute t;
          second = Times.second t;
          nanosecond = sym (none-kept (Times.nanosecond t) t.nanosecond_in) j;
          offset_hour = sym hour j;
          offset_minute = sym minute j;
        }) (made 0 v w cut years whole),
      )

pub mail_read_back : ReadsMailBack greatest_year (direct (RefusesRfc2822 greatest_year)) (Reads greatest_year) (Refuses greatest_year)
mail_read_back v w bytes none cut (day, is_day, text) =
    let is = writable (Dates.year (offset_date v)) (Offsets.seconds (offset_of v)) none in
    let value = direct-value bytes w (subst (λ bytes. IsDirectRfc2822 greatest_year bytes w) (sym text) (mail-back v w cut is.0 is.1 day)) in
    (value, value)
