-- No text parses as a moment by a format with a missing part.
use Rattle.time_values.specs.Calendar.{greatest_year}
use Rattle.std.proofs.Common.{arith, ◌≡◌, ℕ, zero, suc, ℤ, pos, Bool, true, false, List, [], None, Some, Ok, Err, inl, inr, refl, sym, ap, ◌∙◌, Option, MatchOption, ◌-ℤ◌, ◌||◌, ◌&&◌, not, is_some, if◌then◌else◌, MatchBool}
use Rattle.std.proofs.lemmas.Bool.{false_from_ne_true, or_left, or_right}
use Rattle.restamp_formats.specs.Common.{steps_shape, Tree, Refusal, Time, OffsetDateTime, UtcOffset, over_record, Reads, Record, empty, IsMoment, IsMomentOfParts, IsTimed, replace_leap_second, full_year, full_iso_year, Kind, MissingField, Clocks, Defaults, Reading, Match, Part}
use Rattle.restamp_formats.specs.MissingField.{always, format_missing_field, is_of, missing_field_of, has_kind, has_day, has_iso_day, has_whole_iso_year, has_whole_year, ParsesNoMoment, has_default_year}
use Rattle.restamp_formats.specs.Reading.{AreYearsTried, IsCompleted, IsRead, IsReadBy, IsReadWith, ParsesAs, ParsesLocally, ParsesInZone, at_offset, completed, has_year, in_year, undated, year_after}
use Rattle.restamp_formats.specs.{ComponentValues.no_defaults, Reason.Reason}
use Rattle.restamp_formats.proofs.{MissingFieldRecords.dated_parts, MissingFieldRecords.day_of, MissingFieldRecords.iso_day_of, MissingFieldRecords.said, MissingFieldTrees.only, MissingFieldTrees.part_said}

-- the parts that give an hour and its half of the day
abbrev hours_of : Record → Bool
hours_of r = (is_some r.hour_24 || is_some r.hour_12) && (is_some r.hour_24 || is_some r.hour_12_is_pm)

-- a record with a time has an hour
timed_parts : (r : Record) (t : Time) → IsTimed (replace_leap_second r) (Ok t) → hours_of r ≡ true
unfolding IsTimed
timed_parts r t is = grind arith

-- defaults change nothing but the year and the offset
module _ (defaults : Defaults) (r : Record) where
  abbrev apart : Record
  apart =
      let q = completed defaults r in record r {
        year = q.year;
        offset_hour = q.offset_hour;
        offset_minute = q.offset_minute;
        offset_second = q.offset_second;
        offset_is_negative = q.offset_is_negative;
      }

  changed_apart : completed defaults r ≡ apart
  changed_apart = grind arith

  -- a whole year was parsed, or its default applies to a text without any part of a year
  year_parts : is_some (full_year (completed defaults r)) ≡ true
      → (is_some r.year || (is_some r.year_century && is_some r.year_last_two) || (not (has_year r) && is_some defaults.year)) ≡ true
  year_parts is = grind arith

  iso_year_parts : is_some (full_iso_year (completed defaults r)) ≡ true
      → (is_some r.iso_year || (is_some r.iso_year_century && is_some r.iso_year_last_two)) ≡ true
  iso_year_parts is = grind arith

-- a record with a part that gives a year, and without a count from 1970, has a part of a year
pub part_of_year : (k : Kind) (r : Record) → is_of Part.Year k ≡ true → said k r ≡ true → is_some r.unix_timestamp_nanos ≡ false
    → has_year r ≡ true
part_of_year Kind.Year r i s none = grind arith
part_of_year k r i s none = grind arith

-- nothing is missing from a tree that gives all parts of a record with a moment
nothing_missing : (given count day iso_day year may_lack iso_year hour of_half half : Bool) (r_day r_year r_iso_day r_iso_year : Bool)
    → ((r_day && r_year) || (r_iso_day && r_iso_year)) ≡ true → (r_day ≡ true → day ≡ true) → (r_year ≡ true → (year || (given && may_lack)) ≡ true)
    → (r_iso_day ≡ true → iso_day ≡ true) → (r_iso_year ≡ true → iso_year ≡ true) → ((hour || of_half) && (hour || half)) ≡ true
    → (if count then None else
    if not (day || iso_day) then Some MissingField.Day else
    if not ((day && (year || may_lack)) || (iso_day && iso_year)) then Some MissingField.WholeYear else
    if not ((day && (year || (given && may_lack))) || (iso_day && iso_year)) then Some MissingField.Year else
    if not (hour || of_half) then Some MissingField.Hour else
    if not (hour || half) then Some MissingField.Half else None) ≡ None
nothing_missing given count day iso_day year may_lack iso_year hour of_half half r_day r_year r_iso_day r_iso_year is d y i iy hours = grind arith

module _ (t : Tree) (given : Bool) (b rest : List ℕ) (r : Record) (reads : Reads greatest_year t b empty rest r) where
  -- a part of the record comes from the tree
  told : (k : Kind) → said k empty ≡ false → said k r ≡ true → has_kind k t ≡ true
  told k begin s = let from = only k t b empty rest r reads s in grind arith

  day_told : day_of r ≡ true → has_day t ≡ true
  day_told is = grind (
    arith,
    told Kind.Ordinal refl,
    told Kind.Month refl,
    told Kind.Day refl,
    told Kind.Weekday refl,
    told Kind.SundayWeek refl,
    told Kind.MondayWeek refl,
  )

  iso_day_told : iso_day_of r ≡ true → has_iso_day t ≡ true
  iso_day_told is = grind (arith, told Kind.IsoWeek refl, told Kind.Weekday refl)

  hours_told : hours_of r ≡ true → ((has_kind Kind.Hour t || has_kind Kind.HourOfHalf t) && (has_kind Kind.Hour t || has_kind Kind.Half t)) ≡ true
  hours_told is = grind (arith, told Kind.Hour refl, told Kind.HourOfHalf refl, told Kind.Half refl)

  -- if a text has no part of a year, not every reading of its tree has one
  may_lack_year : is_some r.unix_timestamp_nanos ≡ false → has_year r ≡ false → not (always Part.Year t) ≡ true
  may_lack_year none bare =
      ap not (false_from_ne_true (always Part.Year t) (λ e.
      let s = part_said Part.Year t b empty rest r e reads in
      let clash : has_year r ≡ true = part_of_year s.of r s.is s.said none in
      absurd cc))

  module _ (defaults : Defaults) (year_given : is_some defaults.year ≡ true → given ≡ true) where
    abbrev q : Record
    q = completed defaults r

    module _ (none : is_some r.unix_timestamp_nanos ≡ false) where
      year_told : is_some (full_year q) ≡ true → (has_whole_year t || (given && not (always Part.Year t))) ≡ true
      year_told is =
          let parts = year_parts defaults r is in
          grind (arith, told Kind.Year refl, told Kind.YearCentury refl, told Kind.YearLastTwo refl, may_lack_year none, year_given)

      iso_year_told : is_some (full_iso_year q) ≡ true → has_whole_iso_year t ≡ true
      iso_year_told is =
          let parts = iso_year_parts defaults r is in
          grind (arith, told Kind.IsoYear refl, told Kind.IsoYearCentury refl, told Kind.IsoYearLastTwo refl)

      -- a text with a moment has no missing part
      nothing_lacks : (v : OffsetDateTime) → IsMomentOfParts greatest_year q (Ok v) → missing_field_of given t ≡ None
      unfolding IsMomentOfParts
      nothing_lacks v (inl (e, first, clash)) = absurd cc
      nothing_lacks v (inr (d, dated, inl (e, first, clash))) = absurd cc
      nothing_lacks v (inr (d, dated, inr (time, timed, last))) =
          nothing_missing given (has_kind Kind.Count t) (has_day t) (has_iso_day t) (has_whole_year t) (not (always Part.Year t)) (has_whole_iso_year t)
          (has_kind Kind.Hour t) (has_kind Kind.HourOfHalf t) (has_kind Kind.Half t)
          (day_of q) (is_some (full_year q)) (iso_day_of q) (is_some (full_iso_year q)) (dated_parts q d dated)
          (λ a. day_told (sym (ap day_of same) ∙ a)) year_told (λ a. iso_day_told (sym (ap iso_day_of same) ∙ a)) iso_year_told
          (hours_told (sym (ap hours_of same) ∙ timed_parts q time timed))
        where
          same : q ≡ apart defaults r
          same = changed_apart defaults r

    moment_lacks : (v : OffsetDateTime) → IsCompleted defaults r (Ok v) → missing_field_of given t ≡ None
    unfolding IsMoment
    moment_lacks v is = by_count r.unix_timestamp_nanos refl is
      where
        by_count : (count : Option ℤ) → count ≡ r.unix_timestamp_nanos → IsMoment greatest_year q (Ok v) → missing_field_of given t ≡ None
        by_count (Some n) e p = let counts = told Kind.Count refl (ap is_some (sym e)) in rw counts
        by_count None e p = nothing_lacks (ap is_some (sym e)) v (uncounted q.unix_timestamp_nanos _ _ (grind arith) p)
          where
            uncounted : (count : Option ℤ) (P : Type 0) (Q : ℤ → Type 0) → count ≡ None → MatchOption count P Q → P
            uncounted count P Q e p = grind arith

-- no text parses as a moment by a description with a missing part
module _ (t : Tree) (given : Bool) (l : MissingField) (lacks : missing_field_of given t ≡ Some l) (text : List ℕ) where
  no_text : (defaults : Defaults) → (is_some defaults.year ≡ true → given ≡ true) → (refuses : List ℕ → Record → Refusal → Type 0)
      → (is_prefix : Bool) (s : Match) → IsReadWith is_prefix (Reads greatest_year t) refuses text defaults (Ok s) → ⊥
  no_text defaults year refuses true s (Ok x, (r, reads, moment), is) =
      let none = moment_lacks t given text x.1 r reads defaults year x.0 moment in absurd cc
  no_text defaults year refuses true s (Err e, outcome, is) = absurd cc
  no_text defaults year refuses false s (Ok v, (r, reads, moment), is) =
      let none = moment_lacks t given text [] r reads defaults year v moment in absurd cc
  no_text defaults year refuses false s (Err e, outcome, is) = absurd cc

  bare_text : (refuses : List ℕ → Record → Refusal → Type 0) → (is_prefix : Bool) (s : Match)
      → IsReadBy is_prefix over_record (Reads greatest_year t) refuses text (Ok s) → ⊥
  bare_text refuses true s h = no_text no_defaults (λ e. absurd cc) refuses true s h
  bare_text refuses false s h = no_text no_defaults (λ e. absurd cc) refuses false s h

-- only a value, and not an error, can lead to a match
some_only : {V : Type 0} (s : Match) (why : Reason) (o : Option V) (Q : V → Type 0) → ((v : V) → o ≡ Some v → Q v → ⊥)
    → MatchOption o (Ok s ≡ Err why) Q → ⊥
some_only s why None Q none h = absurd cc
some_only s why (Some v) Q none h = none v refl h

module _ (given : Bool) (l : MissingField) (is_prefix : Bool) (text : List ℕ) where
  unread : (format : Reading) (defaults : Defaults) → (is_some defaults.year ≡ true → given ≡ true) → (s : Match)
      → format_missing_field given format ≡ Some l → IsRead format is_prefix text defaults (Ok s) → ⊥
  unread (Reading.Described d) defaults year s lacks h = no_text (steps_shape d) given l lacks text defaults year _ is_prefix s h
  unread (Reading.Complete d) defaults year s lacks h = bare_text (steps_shape d) given l lacks text _ is_prefix s h
  unread (Reading.Counted d) defaults year s lacks h = no_text (steps_shape d) given l lacks text defaults year _ is_prefix s h
  unread format defaults year s lacks h = absurd cc

  unsaid : (format : Reading) (defaults : Defaults) → (is_some defaults.year ≡ true → given ≡ true) → (s : Match)
      → format_missing_field given format ≡ Some l → ParsesAs format is_prefix text defaults (Ok s) → ⊥
  unsaid format defaults year s lacks (Ok read, h, is) = unread format defaults year read lacks h
  unsaid format defaults year s lacks (Err e, h, is) = absurd cc

  -- no text parses as one with the clocks of a zone
  module _ (format : Reading) (lacks : format_missing_field given format ≡ Some l) where
    unlocal : (defaults : Defaults) → (is_some defaults.year ≡ true → given ≡ true) → (s : Match)
        → ParsesLocally format is_prefix text defaults (Ok s) → ⊥
    unlocal defaults year s (Ok read, h, is) = unsaid format defaults year read lacks h
    unlocal defaults year s (Err why, h, is) = some_only s why defaults.clocks _ (λ clocks _. in_zone clocks) is
      where
        in_zone : (clocks : Clocks) → ParsesInZone clocks format is_prefix text defaults (Ok s) → ⊥
        in_zone clocks (utc, is, Ok shown, h, later) = unsaid format (at_offset utc defaults) year shown lacks h
        in_zone clocks (utc, is, Err e, h, later) = absurd cc

    -- no text parses as one with any year
    module _ (is_given : given ≡ true) (offset : Option UtcOffset) (clocks : Option Clocks) (latest : OffsetDateTime) where
      passed : (n : ℕ) (year : ℤ) (why : Reason) (s : Match)
          → (AreYearsTried (undated format is_prefix text offset clocks latest) n year why (Ok s) → ⊥) → (final : Bool)
          → MatchBool final (Ok s ≡ Err why) (AreYearsTried (undated format is_prefix text offset clocks latest) n year why (Ok s)) → ⊥
      passed n year why s none true h = absurd cc
      passed n year why s none false h = none h

      untried : (n : ℕ) (year : ℤ) (reason : Reason) (s : Match)
          → AreYearsTried (undated format is_prefix text offset clocks latest) n year reason (Ok s) → ⊥
      unfolding AreYearsTried
      untried zero year reason s h = absurd cc
      untried (suc n) year reason s (Ok read, h, later) = unlocal (in_year year offset clocks) (λ e. is_given) read h
      untried (suc n) year reason s (Err why, h, (final, is, later)) =
          passed n (year -ℤ pos 1) why s (λ h. untried n (year -ℤ pos 1) why s h) final later

pub says_no_moment : ParsesNoMoment
says_no_moment format l is_prefix text defaults s lacks (Ok read, h, is) =
    unlocal (has_default_year defaults) l is_prefix text format lacks defaults
    (λ e. or_left (is_some defaults.year) (is_some defaults.latest) e) read h
says_no_moment format l is_prefix text defaults s lacks (Err why, h, is) =
    some_only s why defaults.latest _ (λ latest e. untried (has_default_year defaults) l is_prefix text format lacks
    (or_right (is_some defaults.year) (is_some defaults.latest) (ap is_some e)) defaults.offset defaults.clocks latest 10
    (year_after latest) why s) is
