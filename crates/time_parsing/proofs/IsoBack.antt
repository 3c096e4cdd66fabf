-- A written text of ISO 8601 parses back.
use Rattle.std.specs.Prelude.{if◌then◌else◌}
use Rattle.std.proofs.Common.{◌≡◌, ◌≤◌, ◌∷◌, ◌++◌, ℕ, pos, neg_ℤ, unsigned_abs, List, [], Bool, true, false, Some, Ok, refl, sym, ap, ◌∙◌, subst, arith, append_assoc, append-nil, codes}
use Rattle.std.proofs.lemmas.List.{take_all}
use Rattle.time_values.specs.Calendar.{IsBetween, greatest_year}
use Rattle.time_values.specs.Dates as Dates
use Rattle.time_values.specs.Moments.{offset_date, offset_time, offset_of}
use Rattle.time_values.specs.Names.{month_number}
use Rattle.time_values.specs.Offsets as Offsets
use Rattle.time_values.specs.Offsets.{HasOffset, IsUtc, offset_refusal}
use Rattle.time_values.specs.DisplayTexts.{fixed, fraction_display}
use Rattle.time_values.specs.Sign.{signed_by}
use Rattle.time_values.specs.Times as Times
use Rattle.time_values.specs.declared.offset_date_time.OffsetDateTime.{OffsetDateTime}
use Rattle.time_values.specs.declared.plain_date_time.PlainDateTime.{PlainDateTime}
use Rattle.time_formatting.specs.WellKnown.{is_behind, is_none, numeric_text, zone_text, basic_offset_text, basic_text, moment_text, date_text, clock_text}
use Rattle.time_formatting.specs.WellKnown as Texts
use Rattle.time_formatting.proofs.KeptDigits.{fixed-length}
use Rattle.time_digits.specs.Digits.{sign_byte, is_negative, NoDigitFirst}
use Rattle.time_digits.specs.declared.Sign.{Sign}
use Rattle.time_readers.specs.IsoPieces.{NoPointFirst, with_sign}
use Rattle.time_readers.specs.IsoDates.{calendar}
use Rattle.time_readers.specs.IsoOffsets.{offset_found}
use Rattle.time_readers.specs.declared.iso8601.ExtendedKind.TheVariants.{Basic, Extended}
use Rattle.time_readers.specs.declared.iso8601.OffsetNumbers.{OffsetNumbers}
use Rattle.time_readers.specs.declared.iso8601.OffsetNumbers.TheVariants.{Zulu, Numeric}
use Rattle.time_readers.specs.Direct.{IsDirectRfc3339, RefusesRfc3339}
use Rattle.time_record.specs.Record.{empty}
use Rattle.time_record.specs.Resolution.{IsConstructed, IsMoment}
use Rattle.time_parsing.specs.Iso8601.{Reads, Refuses, iso_date_of, time_numbers_of, IsOffsetOfNumbers}
use Rattle.time_parsing.specs.Outcome.{IsOutcome, over_record, direct}
use Rattle.time_parsing.specs.Written.{kept, IsCut, written, ReadsBack, ReadsBasicBack, canonical_text, HasCanonicalText, ReadsCanonicalBack}
use Rattle.time_parsing.specs.Rfc3339.{Reads as Rfc3339Reads, Refuses as Rfc3339Refuses}
use Rattle.time_parsing.specs.exact.RecordedRfc3339.{direct-value}
use Rattle.time_parsing.proofs.IsoForm.{extended_date, basic_date, clock, extended_time, basic_time, no_point-digits, no_point-sign, no_point-z, SecondStands, second_stands, zulu_offset, basic_zulu_offset, extended_offset, basic_offset}
use Rattle.time_parsing.proofs.IsoParts.{moment-whole}
use Rattle.time_parsing.proofs.Told.{no_second, offset-taken, sign_of, signed_hours, signed_minutes, sign_byte-sign_of, is_negative-sign_of, year-said, year-below, hours-below, minutes-below, day_below, some_day}
use Rattle.time_parsing.proofs.WrittenBack.{writable, none-is, few-digits, flat, no_digit, said, bytes, numeric-back, all_digits}

-- the pieces of a basic text, one after another
flat_basic : (a b c d e f g h : List ℕ) → a ++ b ++ c ++ d ++ e ++ f ++ g ++ h ≡ a ++ (b ++ (c ++ (d ++ (e ++ (f ++ (g ++ h))))))
flat_basic a b c d e f g h = simp append_assoc

module _ (k : ℕ) (few : k ≤ 9) (v w : OffsetDateTime) (cut : IsCut k v w)
    (year : IsBetween (pos 0) (pos 9999) (Dates.year (offset_date v)))
    (hours : IsBetween (neg_ℤ (pos 23)) (pos 23) (Offsets.hours (offset_of v)))
    (whole : Offsets.seconds (offset_of v) ≡ pos 0) where
  -- the numbers of the text are the moment's
  date_is : calendar (pos (unsigned_abs (Dates.year (offset_date v)))) (Dates.month (offset_date v)) (Dates.day (offset_date v))
      ≡ iso_date_of (offset_date w)
  date_is =
      ap (λ y. calendar y (Dates.month (offset_date v)) (Dates.day (offset_date v))) (sym (year-said (Dates.year (offset_date v)) year))
      ∙ ap iso_date_of (sym cut.date)

  time_is : clock (Times.hour (offset_time v)) (Times.minute (offset_time v)) (Times.second (offset_time v)) (kept k (Times.nanosecond (offset_time v)))
      ≡ time_numbers_of (offset_time w)
  time_is = λ i. record {
    hour = sym cut.clock.0 i;
    minute = sym cut.clock.1 i;
    second = sym cut.clock.2 i;
    subsecond = sym cut.clock.3 i;
  }

  zulu_is : is_none (offset_of v) ≡ true → IsOffsetOfNumbers Zulu (offset_of w)
  zulu_is none =
      let parts = none-is (Offsets.hours (offset_of v)) (Offsets.minutes (offset_of v)) none in
      subst IsUtc (sym cut.offset) (parts.0, parts.1, whole)

  -- the sign of the offset
  abbrev sign : Sign
  sign = sign_of (is_behind (offset_of v))

  numeric_is : IsOffsetOfNumbers (Numeric (with_sign sign (unsigned_abs (Offsets.hours (offset_of v))))
      (with_sign sign (unsigned_abs (Offsets.minutes (offset_of v))))) (offset_of w)
  numeric_is =
      let o = offset_of v in
      let h = Offsets.hours o in
      let m = Offsets.minutes o in
      let hour : signed_by (is_negative sign) (pos (unsigned_abs h)) ≡ h =
      ap (λ b. signed_by b (pos (unsigned_abs h))) (is_negative-sign_of (is_behind o)) ∙ sym (signed_hours h m o.one_sign.0) in
      let minute : signed_by (is_negative sign) (pos (unsigned_abs m)) ≡ m =
      ap (λ b. signed_by b (pos (unsigned_abs m))) (is_negative-sign_of (is_behind o)) ∙ sym (signed_minutes h m o.one_sign.0) in
      let taken = offset-taken h m (omega (arith, hours-below h hours)) (minutes-below m o.minutes_in) in
      let parts : HasOffset h m (pos 0) o = (refl, o.one_sign.0, whole ∙ no_second h m) in
      subst (IsOffsetOfNumbers (Numeric (with_sign sign (unsigned_abs h)) (with_sign sign (unsigned_abs m)))) (sym cut.offset)
      (subst (λ x. IsOffsetOfNumbers (Numeric x (with_sign sign (unsigned_abs m))) o) (sym hour)
      (subst (λ x. IsOffsetOfNumbers (Numeric h x) o) (sym minute)
      (subst (λ r. IsConstructed r (HasOffset h m (pos 0)) (Ok o)) (sym taken) parts)))

  abbrev IsBack : List ℕ → Type 0
  IsBack text = IsOutcome (IsMoment greatest_year) (Reads greatest_year) (Refuses greatest_year) text empty (Ok w)

  -- the extended text of the moment with that offset
  abbrev with_offset : List ℕ → List ℕ
  with_offset offset =
      bytes (unsigned_abs (Dates.year (offset_date v))) (month_number (Dates.month (offset_date v))) (Dates.day (offset_date v))
      (Times.hour (offset_time v)) (Times.minute (offset_time v)) (Times.second (offset_time v))
      (said k (Times.nanosecond (offset_time v))) (fraction_display k (Times.nanosecond (offset_time v))) offset

  -- the basic one, with that fraction
  abbrev basic_bytes : List ℕ → List ℕ → List ℕ
  basic_bytes fraction offset =
      fixed 4 (unsigned_abs (Dates.year (offset_date v))) ++ (fixed 2 (month_number (Dates.month (offset_date v)))
      ++ (fixed 2 (Dates.day (offset_date v)) ++ (codes "T" ++ (fixed 2 (Times.hour (offset_time v))
      ++ (fixed 2 (Times.minute (offset_time v)) ++ (fixed 2 (Times.second (offset_time v)) ++ (fraction ++ offset)))))))

  abbrev basic_with : List ℕ → List ℕ
  basic_with offset = basic_bytes (fraction_display k (Times.nanosecond (offset_time v))) offset

  module _ (offset : List ℕ) (n : OffsetNumbers) (is : IsOffsetOfNumbers n (offset_of w)) (digit : NoDigitFirst offset) (point : NoPointFirst offset) where
    abbrev seconds : List ℕ
    seconds = fixed 2 (Times.second (offset_time v)) ++ (fraction_display k (Times.nanosecond (offset_time v)) ++ offset)

    second-stands : SecondStands k (Times.second (offset_time v)) (Times.nanosecond (offset_time v)) offset
    second-stands =
        let t = offset_time v in
        second_stands k (Times.second t) (Times.nanosecond t) offset few t.second_in t.nanosecond_in digit point

    abbrev plain_of : PlainDateTime
    plain_of = record { date = offset_date w; time = offset_time w }

    extended-back : offset_found Extended offset ≡ Some ([], n) → IsBack (with_offset offset)
    extended-back text =
        let d = offset_date v in
        let t = offset_time v in
        let y = unsigned_abs (Dates.year d) in
        let h = t.hour_in in let m = t.minute_in in
        let between = 84 ∷ (fixed 2 (Times.hour t) ++ (58 ∷ (fixed 2 (Times.minute t) ++ (58 ∷ seconds)))) in
        let whole = moment-whole (with_offset offset) between offset Extended Extended (calendar (pos y) (Dates.month d) (Dates.day d))
        (clock (Times.hour t) (Times.minute t) (Times.second t) (kept k (Times.nanosecond t))) n plain_of (offset_of w)
        (extended_date y (Dates.month d) (Dates.day d) between (year-below (Dates.year d) year) (some_day d) (day_below d))
        (extended_time (Times.hour t) (Times.minute t) (Times.second t) (kept k (Times.nanosecond t)) second-stands.0 seconds offset
        (omega (arith, h)) (omega (arith, m)) second-stands.1 second-stands.2)
        text date_is time_is is in
        (whole.0, whole.1, whole.3 w refl refl refl)

    basic-back : offset_found Basic offset ≡ Some ([], n) → IsBack (basic_with offset)
    basic-back text =
        let d = offset_date v in
        let t = offset_time v in
        let y = unsigned_abs (Dates.year d) in
        let h = t.hour_in in let m = t.minute_in in
        let between = 84 ∷ (fixed 2 (Times.hour t) ++ (fixed 2 (Times.minute t) ++ seconds)) in
        let whole = moment-whole (basic_with offset) between offset Basic Basic (calendar (pos y) (Dates.month d) (Dates.day d))
        (clock (Times.hour t) (Times.minute t) (Times.second t) (kept k (Times.nanosecond t))) n plain_of (offset_of w)
        (basic_date y (Dates.month d) (Dates.day d) between (year-below (Dates.year d) year) (some_day d) (day_below d))
        (basic_time (Times.hour t) (Times.minute t) (Times.second t) (kept k (Times.nanosecond t)) second-stands.0 seconds offset
        (omega (arith, h)) (omega (arith, m)) (no_point-digits (Times.second t) (fraction_display k (Times.nanosecond t) ++ offset))
        second-stands.1 second-stands.2)
        text date_is time_is is in
        (whole.0, whole.1, whole.3 w refl refl refl)

  -- the ranges of the offset's parts
  abbrev hour_size : ℕ
  hour_size = unsigned_abs (Offsets.hours (offset_of v))

  abbrev minute_size : ℕ
  minute_size = unsigned_abs (Offsets.minutes (offset_of v))

  hour_within : hour_size ≤ 25
  hour_within = omega (arith, hours-below (Offsets.hours (offset_of v)) hours)

  minute_within : minute_size ≤ 59
  minute_within = minutes-below (Offsets.minutes (offset_of v)) (offset_of v).minutes_in

  -- `Z`, or a sign, hours and minutes
  by_none : (b : Bool) → is_none (offset_of v) ≡ b → IsBack (with_offset (if b then codes "Z" else numeric_text (offset_of v)))
  by_none true none = extended-back (codes "Z") Zulu (zulu_is none) (λ h. omega (arith, h)) (no_point-z []) zulu_offset
  by_none false some =
      let after = fixed 2 hour_size ++ (58 ∷ (fixed 2 minute_size ++ [])) in
      let text : sign_byte sign ∷ after ≡ numeric_text (offset_of v) =
      ap (λ b. b ∷ after) (sign_byte-sign_of (is_behind (offset_of v)))
      ∙ ap (λ t. Texts.offset_sign (offset_of v) ∷ (fixed 2 hour_size ++ (58 ∷ t))) (append-nil (fixed 2 minute_size))
      ∙ ap (λ t. Texts.offset_sign (offset_of v) ∷ t) (sym (append_assoc (fixed 2 hour_size) (codes ":") (fixed 2 minute_size))) in
      subst (λ offset. IsBack (with_offset offset)) text
      (extended-back (sign_byte sign ∷ after) (Numeric (with_sign sign hour_size) (with_sign sign minute_size)) numeric_is (no_digit sign after)
      (no_point-sign sign after) (extended_offset sign hour_size minute_size hour_within minute_within))

  basic_by_none : (b : Bool) → is_none (offset_of v) ≡ b → IsBack (basic_with (if b then codes "Z" else zone_text (offset_of v)))
  basic_by_none true none = basic-back (codes "Z") Zulu (zulu_is none) (λ h. omega (arith, h)) (no_point-z []) basic_zulu_offset
  basic_by_none false some =
      let after = fixed 2 hour_size ++ (fixed 2 minute_size ++ []) in
      let text : sign_byte sign ∷ after ≡ zone_text (offset_of v) =
      ap (λ b. b ∷ after) (sign_byte-sign_of (is_behind (offset_of v)))
      ∙ ap (λ t. Texts.offset_sign (offset_of v) ∷ (fixed 2 hour_size ++ t)) (append-nil (fixed 2 minute_size)) in
      subst (λ offset. IsBack (basic_with offset)) text
      (basic-back (sign_byte sign ∷ after) (Numeric (with_sign sign hour_size) (with_sign sign minute_size)) numeric_is (no_digit sign after)
      (no_point-sign sign after) (basic_offset sign hour_size minute_size hour_within minute_within))

  extended_back : IsBack (moment_text k v)
  extended_back =
      subst IsBack (sym (flat (fixed 4 _) (codes "-") (fixed 2 _) (codes "-") (fixed 2 _) (codes "T") (fixed 2 _) (codes ":")
      (fixed 2 _) (codes ":") (fixed 2 _) (fraction_display k (Times.nanosecond (offset_time v))) (Texts.offset_text (offset_of v))))
      (by_none (is_none (offset_of v)) refl)

  basic_text_back : k ≡ 0 → IsBack (basic_text v)
  basic_text_back none =
      subst IsBack (sym (flat_basic (fixed 4 _) (fixed 2 _) (fixed 2 _) (codes "T") (fixed 2 _) (fixed 2 _) (fixed 2 _) (basic_offset_text (offset_of v))))
      (subst (λ text. IsBack (basic_bytes text (basic_offset_text (offset_of v))))
      (ap (λ i. fraction_display i (Times.nanosecond (offset_time v))) none) (basic_by_none (is_none (offset_of v)) refl))

pub iso_read_back : ReadsBack greatest_year over_record (Reads greatest_year) (Refuses greatest_year)
iso_read_back digits v w none cut =
    let is = writable (Dates.year (offset_date v)) (Offsets.hours (offset_of v)) (Offsets.seconds (offset_of v)) none in
    let few = few-digits digits (Times.nanosecond (offset_time v)) in
    let value = extended_back (written digits v) few v w cut is.0 is.1 is.2 in
    (value, value)

pub basic_read_back : ReadsBasicBack greatest_year over_record (Reads greatest_year) (Refuses greatest_year)
basic_read_back v w none cut =
    let is = writable (Dates.year (offset_date v)) (Offsets.hours (offset_of v)) (Offsets.seconds (offset_of v)) none in
    let value = basic_text_back 0 (omega arith) v w cut is.0 is.1 is.2 refl in
    (value, value)

-- ---- A canonical text parses back

-- all nine digits are those of a fraction
nine-digits : (n : ℕ) → codes "." ++ fixed 9 n ≡ fraction_display 9 n
nine-digits n =
    let long = fixed-length 9 n in
    ap (λ digits. codes "." ++ digits) (sym (take_all 9 (fixed 9 n) (omega (arith, long))))

-- the digits follow what is before them
fraction-joined : (front offset : List ℕ) (n : ℕ) → front ++ codes "." ++ fixed 9 n ++ offset ≡ front ++ fraction_display 9 n ++ offset
fraction-joined front offset n =
    ap (λ text. text ++ offset) (append_assoc front (codes ".") (fixed 9 n) ∙ ap (λ text. front ++ text) (nine-digits n))

canonical-back : (v : OffsetDateTime) → HasCanonicalText v → IsDirectRfc3339 greatest_year (canonical_text v) v
canonical-back v is =
    let few : 9 ≤ 9 = omega arith in
    let d = offset_date v in
    let t = offset_time v in
    let o = offset_of v in
    let joined = fraction-joined (date_text d ++ codes "T" ++ clock_text t) (numeric_text o) (Times.nanosecond t) in
    let pieces = flat (fixed 4 (unsigned_abs (Dates.year d))) (codes "-") (fixed 2 (month_number (Dates.month d))) (codes "-")
    (fixed 2 (Dates.day d)) (codes "T") (fixed 2 (Times.hour t)) (codes ":") (fixed 2 (Times.minute t)) (codes ":")
    (fixed 2 (Times.second t)) (fraction_display 9 (Times.nanosecond t)) (numeric_text o) in
    subst (λ text. IsDirectRfc3339 greatest_year text v) (sym (joined ∙ pieces))
    (numeric-back 9 few v v (all_digits v) is.year is.hours is.whole_minutes)

pub canonical_read_back : ReadsCanonicalBack greatest_year (direct (RefusesRfc3339 greatest_year)) (Rfc3339Reads greatest_year)
    (Rfc3339Refuses greatest_year)
canonical_read_back v is =
    let value = direct-value (canonical_text v) v (canonical-back v is) in
    (value, value)
