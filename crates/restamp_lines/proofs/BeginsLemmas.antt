-- A format matches nothing from a byte that its texts can't start with.
use Rattle.time_values.specs.Calendar.{greatest_year}
use Rattle.std.proofs.Common.{◌≡◌, ℕ, zero, suc, ◌≤◌, ◌++◌, ℤ, pos, Bool, true, false, not, List, [], ◌∷◌, codes, get_or, take, drop, refl, sym, subst, arith, inl, inr, get_or-drop, get_or-take, ◌∙◌, None, Some, Err, MatchBool, MatchOption, Option, ◌&&◌, ◌||◌, ◌-ℤ◌}
use Rattle.std.specs.Char.{is_ascii_digit}
use Rattle.std.specs.Prelude.{if◌then◌else◌}
use Rattle.std.proofs.lemmas.Int.{ints}
use Rattle.std.proofs.lemmas.Bool.{and_from, and_left, or_from, or_left, or_parts, or_right, true≢false}
use Rattle.std.proofs.lemmas.List.Elements.{All-head, All-tail}
use Rattle.time_values.specs.Refusal.{Refusal, component as of_component}
use Rattle.time_values.specs.declared.offset_date_time.OffsetDateTime.{OffsetDateTime}
use Rattle.time_values.specs.declared.utc_offset.UtcOffset.{UtcOffset}
use Rattle.time_digits.specs.Digits.{Form, sign_byte, IsDigitRun, IsPaddedRun}
use Rattle.time_digits.specs.declared.Padding.{Padding}
use Rattle.time_digits.specs.declared.Padding.TheVariants as padding
use Rattle.time_digits.specs.declared.Sign.{Sign}
use Rattle.time_digits.specs.declared.Sign.TheVariants.{Negative, Positive}
use Rattle.time_components.specs.Spelling.{Value, Spells, IsSigned, SpellsTimestamp, SpellsYear}
use Rattle.time_components.specs.Tree.{steps_shape, trees_in, component}
use Rattle.time_components.specs.declared.format_description.Component.{Component}
use Rattle.time_components.specs.declared.format_description.Component.TheVariants as variant
use Rattle.time_components.specs.declared.inspect.Step.{Step}
use Rattle.time_components.specs.declared.inspect.Step.TheVariants as step
use Rattle.time_readers.specs.Readers.{MatchesPlaces}
use Rattle.time_readers.specs.Rfc3339.{FailsAt, nothing_read}
use Rattle.time_readers.specs.declared.rfc2822.Place.TheVariants as mail_place
use Rattle.time_readers.specs.declared.rfc3339.Place.TheVariants.{Year, YearDash, Month, MonthDash, Day, Separator, Hour, HourColon, Minute, MinuteColon, Second, Subsecond, OffsetHour, OffsetColon, OffsetMinute}
use Rattle.time_parsing.specs.Rfc3339Strict.{has_separator, strict_text}
use Rattle.time_record.specs.Components.{component_fault}
use Rattle.time_record.specs.Reading.{IsFault, IsFaultAll, NoReading, Reads, ReadsAll, Refuses}
use Rattle.time_record.specs.Record.{empty}
use Rattle.restamp_lines.specs.Begins.{IsInNone, IsNotIn, component_firsts, digits, format_firsts, has_year, is_in, may_be_of, numbers, padded, steps_firsts}
use Rattle.restamp_lines.specs.Job.{AreTriedAlone, MatchesAlone, MatchesFrom, is_inside}
use Rattle.restamp_formats.specs.Reading.{AreYearsTried, IsDated, IsRead, ParsesLocally, at_offset, in_year, undated, year_after}
use Rattle.restamp_formats.specs.declared.local.Clocks.{Clocks}
use Rattle.restamp_formats.specs.Reason.{unread}
use Rattle.restamp_lines.specs.declared.anywhere.firsts.Firsts.{Firsts}
use Rattle.restamp_lines.specs.declared.job.Job.{Job}
use Rattle.restamp_lines.specs.declared.job.TheConstants.{REACH}
use Rattle.restamp_formats.specs.declared.reading.Defaults.{Defaults}
use Rattle.restamp_formats.specs.declared.reading.Reading.{Reading}
use Rattle.restamp_formats.specs.declared.reading.Reading.TheVariants as reading
use Rattle.restamp_lines.proofs.MailBegins.{digit-first, mail-fails, run-first}

-- the first byte of a text
abbrev first : List ℕ → ℕ
first text = get_or text 0 0

digit-in : (f : Firsts) (x : ℕ) → is_ascii_digit x ≡ true → is_in f x ≡ true
digit-in f x h = or_left _ _ (or_left _ _ (or_left _ _ h))

-- a padded number starts with a digit, unless spaces pad it
padded-first : (p : Padding) (f : Firsts) (least most : ℕ) (text rest : List ℕ) (v : ℕ) → 1 ≤ least → IsPaddedRun p least most text rest v
    → is_in (padded p f) (first (text ++ rest)) ≡ true
padded-first padding.Space f least most text rest v some h = or_right _ _ refl
padded-first padding.Zero f least most text rest v some h = digit-in f (first (text ++ rest)) (run-first least most text rest v some h)
padded-first padding.None f least most text rest v some h = digit-in f (first (text ++ rest)) (run-first 1 most text rest v (omega arith) h)

sign-first : (p : Padding) (s : Sign) → is_in (padded p numbers) (sign_byte s) ≡ true
sign-first padding.Space s = or_right _ _ refl
sign-first _ Negative = refl
sign-first _ Positive = refl

-- a number that may have a sign starts with it or with a digit, unless spaces pad it
signed-first : (p : Padding) (mandatory : Bool) (behind : Form ℕ) (least most : ℕ) (text rest : List ℕ) (v : Sign × ℕ) → 1 ≤ least
    → IsSigned mandatory behind (IsPaddedRun p least most) text rest v → is_in (padded p numbers) (first (text ++ rest)) ≡ true
signed-first p mandatory behind least most text rest v some (inl h) = rw h.1 (sign-first p v.0)
signed-first p mandatory behind least most text rest v some (inr h) = padded-first p numbers least most text rest v.1 some h.2

year-first : (p : Padding) (mandatory : Bool) (most : ℕ) (text rest : List ℕ) (v : Value) → SpellsYear mandatory p most text rest v
    → is_in (padded p numbers) (first (text ++ rest)) ≡ true
year-first p mandatory most text rest v h = signed-first p mandatory (IsPaddedRun p 4 most) 4 4 text rest h.0 (omega arith) h.2

timestamp-first : (unit : ℕ) (mandatory : Bool) (most : ℕ) (text rest : List ℕ) (v : Value) → SpellsTimestamp unit mandatory most text rest v
    → is_in numbers (first (text ++ rest)) ≡ true
timestamp-first unit mandatory most text rest v h =
    signed-first padding.Zero mandatory (IsDigitRun 1 most) 1 most text rest h.0 (omega arith) h.2

-- a component's text starts with one of the component's first bytes
spelled-first : (c : Component) (text rest : List ℕ) (v : Value) → Spells false c text rest v → is_in (component_firsts c) (first (text ++ rest)) ≡ true
spelled-first (variant.Day m) text rest v h = padded-first m.padding digits 2 2 text rest h.0 (omega arith) h.2.0
spelled-first (variant.MonthNumerical m) text rest v h = padded-first m.padding digits 2 2 text rest _ (omega arith) h.2
spelled-first (variant.Hour24 m) text rest v h = padded-first m.padding digits 2 2 text rest h.0 (omega arith) h.2
spelled-first (variant.CalendarYearFullExtendedRange m) text rest v h = year-first m.padding m.sign_is_mandatory 6 text rest v h
spelled-first (variant.CalendarYearFullStandardRange m) text rest v h = year-first m.padding m.sign_is_mandatory 4 text rest v h
spelled-first (variant.UnixTimestampSecond m) text rest v h = timestamp-first 1_000_000_000 m.sign_is_mandatory 14 text rest v h
spelled-first (variant.UnixTimestampMillisecond m) text rest v h = timestamp-first 1_000_000 m.sign_is_mandatory 17 text rest v h
spelled-first (variant.UnixTimestampMicrosecond m) text rest v h = timestamp-first 1000 m.sign_is_mandatory 20 text rest v h
spelled-first (variant.UnixTimestampNanosecond m) text rest v h = timestamp-first 1 m.sign_is_mandatory 23 text rest v h
spelled-first _ text rest v h = or_right _ _ refl

-- no prefix of the bytes spells the component
component-unread : (c : Component) (bytes : List ℕ) → is_in (component_firsts c) (first bytes) ≡ false → NoReading greatest_year (component false c) bytes empty
unfolding Reads
component-unread c bytes none rest r' h = true≢false (sym (spelled-first c h.text rest h.value h.spells) ∙ rw h.cut at none)

-- a description rejects bytes that its text can't start with
steps-refuse : (steps : List Step) (bytes : List ℕ) → is_in (steps_firsts steps) (first bytes) ≡ false
    → (e : Refusal) × Refuses greatest_year (steps_shape steps) bytes empty e
unfolding trees_in Reads ReadsAll IsFault IsFaultAll
steps-refuse (step.Component c ∷ steps) bytes none =
    let here = component-unread c bytes none in
    (component_fault c, record { unread = λ rest r' h. here h.0 h.1 h.2; fault = inl (here, refl) })
steps-refuse _ bytes none = absurd (grind (arith, or_parts))

-- a year of RFC 3339 is four digits
year-digits : (text rest : List ℕ) (v : ℕ) → IsDigitRun 4 4 text rest v → has_year (text ++ rest) ≡ true
year-digits (a ∷ b ∷ c ∷ d ∷ text) rest v h = let all = h.digits in grind (arith, digit-first, and_from)
year-digits text rest v h = let enough = h.enough in absurd (omega arith)

-- without four digits, RFC 3339 fails at the year
year-fails : (bytes : List ℕ) → has_year bytes ≡ false → FailsAt true bytes Year
unfolding MatchesPlaces
year-fails bytes none =
    record {
      before = [];
      after = YearDash ∷ Month ∷ MonthDash ∷ Day ∷ Separator ∷ Hour ∷ HourColon ∷ Minute ∷ MinuteColon ∷ Second ∷ Subsecond
          ∷ OffsetHour ∷ OffsetColon ∷ OffsetMinute ∷ [];
      place = refl;
      mid = bytes;
      numbers = nothing_read;
      stand = (refl, refl);
      stops = λ text rest v cut h. true≢false (sym (year-digits text rest h.0 h.1) ∙ rw cut at none);
    }

-- the date of a text has the text's year
date-year : (bytes : List ℕ) → has_year (take 10 bytes) ≡ has_year bytes
date-year [] = refl
date-year (a ∷ []) = refl
date-year (a ∷ b ∷ []) = refl
date-year (a ∷ b ∷ c ∷ []) = refl
date-year (a ∷ b ∷ c ∷ d ∷ bytes) = refl

strict_year : (bytes : List ℕ) (b : Bool) → has_year (if b then bytes else take 10 bytes) ≡ has_year bytes
strict_year bytes true = refl
strict_year bytes false = date-year bytes

-- without four digits, RFC 3339 with only `T`, `t` or a space as separator fails at the year
strict-fails : (bytes : List ℕ) → has_year bytes ≡ false → FailsAt true (strict_text bytes) Year
strict-fails bytes none = year-fails (strict_text bytes) (strict_year bytes (has_separator bytes) ∙ none)

-- A format rejects bytes that its texts can't start with, whatever the defaults.
abbrev Refused : Reading → List ℕ → Type 0
Refused format text = (e : Refusal) × ((defaults : Defaults) → IsRead format true text defaults (Err e))

refused : (format : Reading) (text : List ℕ) → may_be_of format text ≡ false → Refused format text
refused reading.Rfc3339 text none = (of_component (codes "year"), λ defaults. (Err _, inl (Year, strict-fails text none, refl), refl))
refused (reading.Zoned zones) text none = (of_component (codes "year"), λ defaults. (Err _, inl (Year, strict-fails text none, refl), refl))
refused reading.Rfc2822 text none =
    (of_component (codes "day"), λ defaults. (Err _, (Err _, inl (mail_place.Day, mail-fails text none, refl), refl), refl))
refused reading.Iso8601 text none = absurd (grind (arith, or_parts))
refused (reading.Described d) text none = let h = steps-refuse d text none in (h.0, λ defaults. (Err h.0, inl h.1, refl))
refused (reading.Complete d) text none = let h = steps-refuse d text none in (h.0, λ defaults. (Err h.0, inl h.1, refl))
refused (reading.Counted d) text none = let h = steps-refuse d text none in (h.0, λ defaults. (Err h.0, inl h.1, refl))

MatchBool-from : (b : Bool) {P Q : Type 0} → (b ≡ true → P) → (b ≡ false → Q) → MatchBool b P Q
MatchBool-from true on off = on refl
MatchBool-from false on off = off refl

MatchOption-from : {A : Type 0} (o : Option A) {P : Type 0} {Q : A → Type 0} → P → ((a : A) → Q a) → MatchOption o P Q
MatchOption-from None p q = p
MatchOption-from (Some a) p q = q a

-- an offset of 0
no_offset : UtcOffset
no_offset = record {
  hours = pos 0;
  minutes = pos 0;
  seconds = pos 0;
  hours_in = (omega (arith, ints), omega (arith, ints));
  minutes_in = (omega (arith, ints), omega (arith, ints));
  seconds_in = (omega (arith, ints), omega (arith, ints));
  one_sign = (refl, refl);
}

-- a format that rejects bytes doesn't match them in any zone, nor with any year
module _ (format : Reading) (text : List ℕ) (h : Refused format text) where
  locally-refused : (defaults : Defaults) → ParsesLocally format true text defaults (Err (unread h.0))
  unfolding no_offset
  locally-refused defaults = (
    Err (unread h.0),
    (Err h.0, h.1 defaults, refl),
    MatchOption-from defaults.clocks refl
        (λ c. (no_offset, (refl, refl, refl), Err (unread h.0), (Err h.0, h.1 (at_offset no_offset defaults), refl), refl)),
  )

  years-refuse : (offset : Option UtcOffset) (clocks : Option Clocks) (latest : OffsetDateTime) (n : ℕ) (year : ℤ)
      → AreYearsTried (undated format true text offset clocks latest) n year (unread h.0) (Err (unread h.0))
  unfolding AreYearsTried
  years-refuse offset clocks latest zero year = refl
  years-refuse offset clocks latest (suc n) year =
      (Err (unread h.0), locally-refused (in_year year offset clocks), (false, refl, years-refuse offset clocks latest n (year -ℤ pos 1)))

  dated-refused : (defaults : Defaults) → IsDated format true text defaults (Err (unread h.0))
  dated-refused defaults =
      let years = years-refuse defaults.offset defaults.clocks in
      (Err (unread h.0), locally-refused defaults, MatchOption-from defaults.latest refl (λ v. years v 10 (year_after v)))

-- a format that rejects bytes by the first few rejects them with more bytes
unlike : (format : Reading) (text : List ℕ) → is_in (format_firsts format) (first text) ≡ false → may_be_of format text ≡ false
unlike reading.Rfc2822 text none = grind (arith, or_parts, or_from, and_left)
unlike _ text none = grind (arith, or_parts, and_left)

-- the test of the first bytes is the one of the part that is parsed
near : (format : Reading) (text : List ℕ) → may_be_of format (take REACH text) ≡ may_be_of format text
near _ text = grind (arith, get_or-take)

-- The format has no match in the line from bytes that its texts can't start with.
pub matches-nothing : (job : Job) (line : List ℕ) (k : ℕ) (format : Reading) → may_be_of format (drop k line) ≡ false
    → MatchesAlone job line k format None
matches-nothing job line k format none =
    let text = take REACH (drop k line) in
    let h = refused format text (near format (drop k line) ∙ none) in
    (Err (unread h.0), dated-refused format text h job.defaults, refl)

tried-nothing : (job : Job) (line : List ℕ) (k : ℕ) (formats : List Reading) → IsInNone (first (drop k line)) formats
    → AreTriedAlone job line k formats None
tried-nothing job line k [] none = refl
tried-nothing job line k (format ∷ formats) none =
    let x = first (drop k line) in (
      None,
      matches-nothing job line k format (unlike format (drop k line) (All-head (IsNotIn x) format formats none)),
      tried-nothing job line k formats (All-tail (IsNotIn x) format formats none),
    )

-- The line has no match at all from a byte that is inside a word or a number, or that no text of any format starts with.
pub matches-none : (job : Job) (line : List ℕ) (f : Firsts)
    → ((x : ℕ) → is_in f x ≡ false → IsInNone x (job.first.now ∷ job.others.now)) → (k : ℕ)
    → (not (is_inside line k) && is_in f (get_or line k 0)) ≡ false → MatchesFrom job line k None
matches-none job line f all k none =
    let begins : is_inside line k ≡ false → is_in f (get_or line k 0) ≡ false = grind arith in
    let same : get_or line k 0 ≡ first (drop k line) = grind (arith, get_or-drop) in
    let formats = job.first.now ∷ job.others.now in
    MatchBool-from (is_inside line k) (λ _. refl)
    (λ outside. tried-nothing job line k formats (subst (λ x. IsInNone x formats) same (all (get_or line k 0) (begins outside))))

-- the first bytes of either format
abbrev pub joined : Firsts → Firsts → Firsts
joined a b = record { signs = a.signs || b.signs; mail = a.mail || b.mail; others = a.others || b.others }

-- a byte that isn't among the joined first bytes is in neither set
pub in-joined : (a b : Firsts) (x : ℕ) → is_in (joined a b) x ≡ false → (is_in a x ≡ false) × (is_in b x ≡ false)
in-joined a b x none = (grind (arith, or_parts), grind (arith, or_parts))
