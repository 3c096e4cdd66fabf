-- What the strict format reads.
use Rattle.std.proofs.Math.ListN.{get_or-append}
use Rattle.std.proofs.Common.{◌≡◌, ℕ, ◌≤◌, ◌<◌, ◌++◌, nat_lt, Bool, true, false, List, [], length, take, refl, ap, subst, arith, append_assoc, length-append}
use Rattle.std.proofs.lemmas.Bool.{and_parts, false≢true}
use Rattle.std.proofs.lemmas.Bool.Decides.{nat_tests}
use Rattle.std.proofs.lemmas.List.{length-take}
use Rattle.std.specs.Prelude.{◌↔◌, ◌==◌, ◌||◌, if◌then◌else◌, codes, slice_index}
use Rattle.time_readers.specs.Readers.{MatchesPlaces}
use Rattle.time_readers.specs.Rfc3339.{HasForm}
use Rattle.time_readers.specs.declared.rfc3339.Numbers.{Numbers}
use Rattle.time_record.specs.Record.{Record, empty}
use Rattle.time_formatting.specs.WellKnown.{clock_text, date_text, moment_text, offset_text}
use Rattle.time_values.specs.Calendar.{greatest_year}
use Rattle.time_values.specs.DisplayTexts.{fixed, fraction_display}
use Rattle.time_values.specs.Moments.{offset_date, offset_of, offset_time}
use Rattle.time_values.specs.Times as Times
use Rattle.time_values.specs.declared.date.Date.{Date}
use Rattle.time_values.specs.declared.offset_date_time.OffsetDateTime.{OffsetDateTime}
use Rattle.time_parsing.specs.Rfc3339.{Reads}
use Rattle.time_parsing.specs.Outcome.{direct}
use Rattle.time_parsing.specs.Rfc3339Strict as Strict
use Rattle.time_parsing.specs.Rfc3339Strict.{has_separator, strict_text, StrictTexts}
use Rattle.time_parsing.specs.Written.{ReadsBack, written}
use Rattle.time_parsing.proofs.WrittenBack.{read_back}

-- a text of RFC 3339 has more bytes than its date
pub long_enough : (bytes rest : List ℕ) (n : Numbers) → HasForm true bytes rest n → 11 ≤ length bytes
unfolding MatchesPlaces
long_enough bytes rest n year =
    let dash = year.3 in
    let month = dash.3 in
    let second_dash = month.3 in
    let day = second_dash.3 in
    let separator = day.3 in
    let one : length dash.2.0 ≡ 1 = ap length dash.2.2.0 in
    let more : length second_dash.2.0 ≡ 1 = ap length second_dash.2.2.0 in
    omega (
      arith,
      ap length year.2.1,
      length-append year.2.0 year.0,
      year.2.2.1.enough,
      ap length dash.2.1,
      length-append dash.2.0 dash.0,
      one,
      ap length month.2.1,
      length-append month.2.0 month.0,
      month.2.2.1.0.enough,
      ap length second_dash.2.1,
      length-append second_dash.2.0 second_dash.0,
      more,
      ap length day.2.1,
      length-append day.2.0 day.0,
      day.2.2.1.0.enough,
      ap length separator.2.1,
      length-append separator.2.0 separator.0,
      separator.2.2.0,
    )

strict : (Y : ℕ) (bytes : List ℕ) (b : Bool) (r : Record) (rest : List ℕ) (new : Record) → has_separator bytes ≡ b
    → Reads Y (if b then bytes else take 10 bytes) r rest new ↔ ((b ≡ true) × Reads Y bytes r rest new)
strict Y bytes true r rest new e = (λ read. (refl, read), λ read. read.1)
strict Y bytes false r rest new e =
    (λ read. absurd (omega (arith, long_enough (take 10 bytes) rest read.0 read.2, length-take 10 bytes)), λ read. absurd (false≢true read.0))

pub strict_texts : (Y : ℕ) → StrictTexts Y
strict_texts Y bytes r rest new = strict Y bytes (has_separator bytes) r rest new refl

pub strict_text-whole : (bytes : List ℕ) → has_separator bytes ≡ true → strict_text bytes ≡ bytes
strict_text-whole bytes e = ap (λ b. if b then bytes else take 10 bytes) e

-- the separator of a text is that of each longer one
pub separator-append : (bytes tail : List ℕ) → has_separator bytes ≡ true → has_separator (bytes ++ tail) ≡ true
separator-append bytes tail e =
    let is_separator = slice_index bytes 10 == 84 || (slice_index bytes 10 == 116 || slice_index bytes 10 == 32) in
    let parts = and_parts (nat_lt 10 (length bytes)) is_separator e in
    let long : 10 < length bytes = grind (arith, nat_tests, parts.0) in
    let longer : nat_lt 10 (length (bytes ++ tail)) ≡ true = grind (arith, nat_tests, long, length-append bytes tail) in
    let same : slice_index (bytes ++ tail) 10 ≡ slice_index bytes 10 = get_or-append bytes tail 0 10 long in
    rw (longer, same) parts.1

date-separator : (d : Date) → has_separator (date_text d ++ codes "T") ≡ true
unfolding fixed
date-separator d = refl

-- a written text has the separator `T`
pub moment_text-separator : (k : ℕ) (v : OffsetDateTime) → has_separator (moment_text k v) ≡ true
unfolding fixed
moment_text-separator k v =
    let date = date_text (offset_date v) in
    let tail =
    clock_text (offset_time v) ++ fraction_display k (Times.nanosecond (offset_time v)) ++ offset_text (offset_of v) in
    subst (λ (b : List ℕ). has_separator b ≡ true) (append_assoc date (codes "T") tail)
    (separator-append (date ++ codes "T") tail (date-separator (offset_date v)))

pub strict_read_back :
    ReadsBack greatest_year (direct (Strict.RefusesDirectly greatest_year)) (Strict.Reads greatest_year)
    (Strict.Refuses greatest_year)
strict_read_back digits v w none cut =
    let back = read_back digits v w none cut in
    let text = moment_text (written digits v) v in
    let separator = moment_text-separator (written digits v) v in (
      (back.0.0, (strict_texts greatest_year text empty [] back.0.0).1 (separator, back.0.1), back.0.2),
      (back.1.0, (strict_texts greatest_year text empty [] back.1.0).1 (separator, back.1.1), back.1.2),
    )
