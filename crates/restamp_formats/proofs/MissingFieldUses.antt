-- A default for a part that a text has changes nothing.
use Rattle.std.proofs.Common.{Option, Result, MatchOption, ◌⊎◌, is_some, MatchResult, arith, ◌≡◌, ℕ, true, false, None, Some, inl, inr, refl, sym, ap, subst, ◌∙◌, Bool, List, [], Ok, Err}
use Rattle.std.proofs.lemmas.Bool.{cases_Bool, not-false}
use Rattle.time_record.specs.Reading as Description
use Rattle.restamp_formats.specs.Common.{Refusal, OffsetDateTime, offset_of, greatest_year, steps_shape, Tree, Record, empty, IsMoment, IsFront, IsOutcome, Kind, Part, Defaults, Clocks, Reading, Match}
use Rattle.restamp_formats.specs.MissingField.{is_of, HasNoUse, SameBut, always, can_default, ClocksHaveNoUse}
use Rattle.restamp_formats.specs.Reading.{IsCompleted, completed, has_year, IsRead, IsReadWith, ParsesAs, ParsesInZone, at_offset}
use Rattle.restamp_formats.specs.{Zoned.IsMomentWhen, Reason.Reason}
use Rattle.restamp_formats.proofs.{MissingFieldMoments.part_of_year, MissingFieldRecords.count_stays, MissingFieldRecords.counted_moment, MissingFieldRecords.fraction_stays, MissingFieldRecords.said, MissingFieldTrees.SaysPart, MissingFieldTrees.part_said, OneReading.one_has}

-- a record with a part that gives an offset, and without a count from 1970, has the hour of an offset
part_of_offset : (k : Kind) (r : Record) → is_of Part.Offset k ≡ true → said k r ≡ true → is_some r.unix_timestamp_nanos ≡ false
    → is_some r.offset_hour ≡ true
part_of_offset Kind.OffsetHour r i s none = s
part_of_offset k r i s none = absurd cc

module _ (r : Record) (d e : Defaults) where
  year_idle : has_year r ≡ true → d.offset ≡ e.offset → completed d r ≡ completed e r
  year_idle had same = grind arith

  offset_idle : is_some r.offset_hour ≡ true → d.year ≡ e.year → completed d r ≡ completed e r
  offset_idle had same = grind arith

  -- a default changes no record that has the part
  same_completed : (p : Part) → SaysPart p r → is_some r.unix_timestamp_nanos ≡ false → SameBut p d e → completed d r ≡ completed e r
  same_completed Part.Year s none same = year_idle (part_of_year s.of r s.is s.said none) same
  same_completed Part.Offset s none same = offset_idle (part_of_offset s.of r s.is s.said none) same

  same_moment : (p : Part) → SaysPart p r → SameBut p d e → (result : Result OffsetDateTime Refusal)
      → IsCompleted d r result → IsCompleted e r result
  same_moment p s same result is = by_count (cases_Bool (is_some r.unix_timestamp_nanos))
    where
      by_count : (is_some r.unix_timestamp_nanos ≡ true) ⊎ (is_some r.unix_timestamp_nanos ≡ false) → IsCompleted e r result
      by_count (inl counts) =
          counted_moment (completed e r) (completed d r) result (ap is_some (count_stays d r) ∙ counts)
          (count_stays e r ∙ sym (count_stays d r)) (fraction_stays e r ∙ sym (fraction_stays d r)) is
      by_count (inr none) = subst (λ q. IsMoment greatest_year q result) (same_completed p s none same) is

pub has_no_use : HasNoUse
has_no_use p tree bytes rest r d e result always reads same is =
    same_moment r d e p (part_said p tree bytes empty rest r always reads) same result is

-- ---- Zones change nothing for texts that have their offsets

-- another default offset changes no match if each text has an offset
module _ (d e : Defaults) (same : d.year ≡ e.year) (text : List ℕ) where
  module _ (tree : Tree) (says : always Part.Offset tree ≡ true) where
    front : (outcome : Result (OffsetDateTime × List ℕ) Refusal)
        → IsFront (IsCompleted d) (Description.Reads greatest_year tree) (Description.Refuses greatest_year tree) text empty outcome
        → IsFront (IsCompleted e) (Description.Reads greatest_year tree) (Description.Refuses greatest_year tree) text empty outcome
    front (Ok x) (r, reads, is) = (r, reads, has_no_use Part.Offset tree text x.1 r d e (Ok x.0) says reads same is)
    front (Err f) (inl refused) = inl refused
    front (Err f) (inr (rest, r, reads, is)) =
        inr (rest, r, reads, has_no_use Part.Offset tree text rest r d e (Err f) says reads same is)

    whole : (outcome : Result OffsetDateTime Refusal)
        → IsOutcome (IsCompleted d) (Description.Reads greatest_year tree) (Description.Refuses greatest_year tree) text empty outcome
        → IsOutcome (IsCompleted e) (Description.Reads greatest_year tree) (Description.Refuses greatest_year tree) text empty outcome
    whole (Ok v) (r, reads, is) = (r, reads, has_no_use Part.Offset tree text [] r d e (Ok v) says reads same is)
    whole (Err f) (inl refused) = inl refused
    whole (Err f) (inr (r, reads, is)) = inr (r, reads, has_no_use Part.Offset tree text [] r d e (Err f) says reads same is)

    read_with : (is_prefix : Bool) (result : Result Match Refusal)
        → IsReadWith is_prefix (Description.Reads greatest_year tree) (Description.Refuses greatest_year tree) text d result
        → IsReadWith is_prefix (Description.Reads greatest_year tree) (Description.Refuses greatest_year tree) text e result
    read_with true result (outcome, is, eq) = (outcome, front outcome is, eq)
    read_with false result (outcome, is, eq) = (outcome, whole outcome is, eq)

  read : (format : Reading) (is_prefix : Bool) (result : Result Match Refusal) → can_default Part.Offset format ≡ false
      → IsRead format is_prefix text d result → IsRead format is_prefix text e result
  read Reading.Iso8601 is_prefix result none is = absurd cc
  read (Reading.Described it) is_prefix result none is = read_with (steps_shape it) (not-false _ none) is_prefix result is
  read (Reading.Counted it) is_prefix result none is = read_with (steps_shape it) (not-false _ none) is_prefix result is
  read format is_prefix result none is = is

  says_same : (format : Reading) (is_prefix : Bool) (result : Result Match Reason) → can_default Part.Offset format ≡ false
      → ParsesAs format is_prefix text d result → ParsesAs format is_prefix text e result
  says_same format is_prefix result none (outcome, is, eq) = (outcome, read format is_prefix outcome none is, eq)

pub clocks_have_no_use : ClocksHaveNoUse
clocks_have_no_use format is_prefix text defaults result none (Ok said, says, is) =
    (Ok said, says_same defaults (record defaults { clocks = None }) refl text format is_prefix (Ok said) none says, is)
clocks_have_no_use format is_prefix text defaults result none (Err reason, says, is) = (
  Err reason,
  says_same defaults (record defaults { clocks = None }) refl text format is_prefix (Err reason) none says,
  by_clocks defaults.clocks is,
)
  where
    by_clocks : (clocks : Option Clocks)
        → MatchOption clocks (result ≡ Err reason) (λ c. ParsesInZone c format is_prefix text defaults result)
        → result ≡ Err reason
    by_clocks None h = h
    by_clocks (Some c) (utc, is_utc, shown, shows, later) =
        subst (λ (it : Result Match Reason). MatchResult it
        (λ s. (moment : Result OffsetDateTime Reason) × IsMomentWhen c s.moment moment
        × MatchResult moment (λ m. ParsesAs format is_prefix text (at_offset (offset_of m) defaults) result) (λ why. result ≡ Err why))
        (λ why. result ≡ Err why))
        (one_has format is_prefix text defaults shown (Err reason)
        (says_same (at_offset utc defaults) defaults refl text format is_prefix shown none shows) says) later
