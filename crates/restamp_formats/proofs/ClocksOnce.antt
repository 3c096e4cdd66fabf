-- A text that is a local time in a zone needs only one parse.
use Rattle.time_values.specs.Calendar.{greatest_year}
use Rattle.std.proofs.Common.{◌≡◌, ◌-◌, ◌∙◌, ◌==◌, ◌∷◌, ℕ, ℤ, Bool, true, false, List, [], length, Option, None, Some, Result, Ok, Err, refl, sym, ap, subst, inl, inr, arith, is_some, if◌then◌else◌, MatchResult}
use Rattle.std.proofs.lemmas.Bool.{false≢true, Decides.nat_tests}
use Rattle.time_record.specs.Resolution.{IsDated}
use Rattle.time_values.specs.Offsets as Offsets
use Rattle.time_record.specs.Reading as Description
use Rattle.time_parsing.specs.Iso8601 as Iso8601
use Rattle.time_parsing.specs.Outcome as Outcome
use Rattle.restamp_formats.specs.Common.{offset_date, offset_of, offset_time, plain_date, plain_time, IsUtc, Refusal, insufficient, Date, Time, UtcOffset, OffsetDateTime, PlainDateTime, steps_shape, Record, empty, IsMoment, IsPlain, IsMomentOfParts, IsOffset, IsTimed, is_leap_second, Refusing, Clocks, Match, Defaults, Reading}
use Rattle.restamp_formats.specs.Reading.{IsGuarded, IsReadWith, ReadsRecord, ParsesAs, ParsesLocally, ParsesInZone, at_offset, completed, said, with_offset, with_year}
use Rattle.restamp_formats.specs.{Reason.Reason, Reason.unread, Zoned.IsMomentWhen}
use Rattle.restamp_formats.proofs.{ComponentValueLemmas.offset_made, ParseLemmas.on_none, ParseLemmas.on_some}

-- the record with the parts of an offset
abbrev placed : UtcOffset → Record → Record
placed o r = record r {
  offset_hour = Some (Offsets.hours o);
  offset_minute = Some (Offsets.minutes o);
  offset_second = Some (Offsets.seconds o);
  offset_is_negative = false;
}

-- the moment of a record without a timestamp, by its parts
by_parts : (r : Record) (result : Result OffsetDateTime Refusal) → r.unix_timestamp_nanos ≡ None → IsMomentOfParts greatest_year r result
    → IsMoment greatest_year r result
unfolding IsMoment
by_parts r result none parts = on_none r.unix_timestamp_nanos _ _ none parts

module _ (r : Record) (d : Date) (t : Time) (dated : IsDated greatest_year r (Ok d)) (timed : IsTimed r (Ok t))
    (no_hour : r.offset_hour ≡ None) (no_stamp : r.unix_timestamp_nanos ≡ None) (no_leap : is_leap_second r ≡ false) where
  parts_without : IsMomentOfParts greatest_year r (Err insufficient)
  unfolding IsMomentOfParts IsTimed IsOffset
  parts_without = inr (d, dated, inr (t, rw no_leap timed, inl (insufficient, rw no_hour refl, refl)))

  without : IsMoment greatest_year r (Err insufficient)
  without = by_parts r (Err insufficient) no_stamp parts_without

  parts_placed : (v : OffsetDateTime) → offset_date v ≡ d → offset_time v ≡ t → IsMomentOfParts greatest_year (placed (offset_of v) r) (Ok v)
  unfolding IsMomentOfParts IsDated IsTimed IsOffset
  parts_placed v date time =
      inr (
        d,
        dated,
        inr (
          t,
          rw no_leap timed,
          inr (
            offset_of v,
            offset_made v _ _ refl refl,
            ((date, time, refl), λ is. absurd (false≢true (sym no_leap ∙ is))),
          ),
        ),
      )

  at_placed : (v : OffsetDateTime) → offset_date v ≡ d → offset_time v ≡ t → IsMoment greatest_year (placed (offset_of v) r) (Ok v)
  at_placed v date time = by_parts (placed (offset_of v) r) (Ok v) no_stamp (parts_placed v date time)

  moment_at : (v : OffsetDateTime) → offset_date v ≡ d → offset_time v ≡ t → IsMoment greatest_year (with_offset (Some (offset_of v)) r) (Ok v)
  moment_at v date time =
      subst (λ (x : Record). IsMoment greatest_year x (Ok v)) (ap (λ (h : Option ℤ). if is_some h then r else placed (offset_of v) r) (sym no_hour))
      (at_placed v date time)

-- the date and time of a record, by its date and its time
pub plain_parts : (r : Record) (p : PlainDateTime) → IsPlain greatest_year r (Ok p) → IsDated greatest_year r (Ok (plain_date p)) × IsTimed r (Ok
    (plain_time p))
unfolding IsPlain
plain_parts r p (inl (e, first, is)) = absurd cc
plain_parts r p (inr (d, first, inl (e, second, is))) = absurd cc
plain_parts r p (inr (d, first, inr (t, second, is))) =
    (subst (λ (x : Date). IsDated greatest_year r (Ok x)) (sym is.0) first, subst (λ (x : Time). IsTimed r (Ok x)) (sym is.1) second)

pub nothing_left : (rest : List ℕ) → true ≡ (length rest == 0) → rest ≡ []
nothing_left [] e = refl
nothing_left (x ∷ rest) e = absurd (grind (arith, nat_tests))

-- the match of a moment before the rest of a text, or its error
abbrev before : List ℕ → List ℕ → Result OffsetDateTime Refusal → Result Match Refusal
before text rest (Ok v) = Ok (said v (length text - length rest))
before text rest (Err e) = Err e

abbrev reasoned : Result Match Refusal → Result Match Reason
reasoned (Ok s) = Ok s
reasoned (Err e) = Err (unread e)

-- the result with defaults, by the record of the parse and by the format
module _ (text rest : List ℕ) (r : Record) where
  by_record : (reads : Outcome.Reading) (refuses : Refusing) → reads text empty rest r → (is_prefix : Bool) (defaults : Defaults)
      → (is_prefix ≡ false → rest ≡ []) → (result : Result OffsetDateTime Refusal) → IsMoment greatest_year (completed defaults r) result
      → IsReadWith is_prefix reads refuses text defaults (before text rest result)
  by_record reads refuses read true defaults all (Ok v) moment = (Ok (v, rest), (r, read, moment), refl)
  by_record reads refuses read true defaults all (Err e) moment = (Err e, inr (rest, r, read, moment), refl)
  by_record reads refuses read false defaults all (Ok v) moment =
      let none = all refl in
      let whole : length text ≡ length text - length rest = omega (arith, ap length none) in
      (Ok v, (r, subst (λ (x : List ℕ). reads text empty x r) none read, moment), ap (λ (n : ℕ). Ok (said v n)) (sym whole))
  by_record reads refuses read false defaults all (Err e) moment =
      (Err e, inr (r, subst (λ (x : List ℕ). reads text empty x r) (all refl) read, moment), refl)

  no_rules : (format : Reading) → ReadsRecord format text empty rest r → (is_prefix : Bool) (result : Result Match Refusal)
      → MatchResult result (λ s. IsGuarded format is_prefix text s (reasoned result)) (λ e. reasoned result ≡ Err (unread e))
  no_rules Reading.Iso8601 read is_prefix (Ok s) = refl
  no_rules (Reading.Described e) read is_prefix (Ok s) = refl
  no_rules format read is_prefix (Err e) = refl
  no_rules format read is_prefix (Ok s) = absurd read

  says : (format : Reading) → ReadsRecord format text empty rest r → (is_prefix : Bool) (defaults : Defaults)
      → (is_prefix ≡ false → rest ≡ []) → (result : Result OffsetDateTime Refusal) → IsMoment greatest_year (completed defaults r) result
      → ParsesAs format is_prefix text defaults (reasoned (before text rest result))
  says Reading.Iso8601 read is_prefix defaults all result moment = (
    before text rest result,
    by_record (Iso8601.Reads greatest_year) (Iso8601.Refuses greatest_year) read is_prefix defaults all result moment,
    no_rules Reading.Iso8601 read is_prefix (before text rest result),
  )
  says (Reading.Described e) read is_prefix defaults all result moment = (
    before text rest result,
    by_record (Description.Reads greatest_year (steps_shape e)) (Description.Refuses greatest_year (steps_shape e)) read is_prefix defaults all result moment,
    no_rules (Reading.Described e) read is_prefix (before text rest result),
  )
  says format read is_prefix defaults all result moment = absurd read

  pub says_once : (format : Reading) → ReadsRecord format text empty rest r → (is_prefix : Bool) (defaults : Defaults) (clocks : Clocks)
      (utc v m : OffsetDateTime) (d : Date) (t : Time)
      → (is_prefix ≡ false → rest ≡ []) → defaults.clocks ≡ Some clocks → defaults.offset ≡ None
      → IsDated greatest_year (with_year defaults.year r) (Ok d) → IsTimed (with_year defaults.year r) (Ok t)
      → ((with_year defaults.year r).offset_hour ≡ None) × ((with_year defaults.year r).unix_timestamp_nanos ≡ None)
      × (is_leap_second (with_year defaults.year r) ≡ false)
      → (offset_date utc ≡ d) × (offset_time utc ≡ t) × IsUtc (offset_of utc) → IsMomentWhen clocks utc (Ok m)
      → (offset_date v ≡ d) × (offset_time v ≡ t) × (offset_of v ≡ offset_of m)
      → ParsesLocally format is_prefix text defaults (Ok (said v (length text - length rest)))
  says_once format read is_prefix defaults clocks utc v m d t all on none dated timed plain in_utc when at =
      let base = with_year defaults.year r in
      let first = subst (λ (o : Option UtcOffset). IsMoment greatest_year (with_offset o base) (Err insufficient)) (sym none)
      (without base d t dated timed plain.0 plain.1 plain.2) in
      let shown = moment_at base d t dated timed plain.0 plain.1 plain.2 utc in_utc.0 in_utc.1 in
      let last = moment_at base d t dated timed plain.0 plain.1 plain.2 v at.0 at.1 in
      let on_these : ParsesInZone clocks format is_prefix text defaults (Ok (said v (length text - length rest))) = (
        offset_of utc,
        in_utc.2,
        Ok (said utc (length text - length rest)),
        says format read is_prefix (at_offset (offset_of utc) defaults) all (Ok utc) shown,
        (
          Ok m,
          when,
          subst (λ o. ParsesAs format is_prefix text (at_offset o defaults) (Ok (said v (length text - length rest))))
              at.2 (says format read is_prefix (at_offset (offset_of v) defaults) all (Ok v) last),
        ),
      ) in (
        Err (unread insufficient),
        says format read is_prefix defaults all (Err insufficient) first,
        on_some defaults.clocks clocks _ _ on on_these,
      )
