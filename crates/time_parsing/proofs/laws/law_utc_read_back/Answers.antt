use Rattle.std.proofs.Common.{◌≡◌, ℕ, ℤ, List, Option, Some, None, Result, Ok, Err, MatchOption, IsOkAnd, inl, inr, refl, sym, ap, subst, ◌∙◌, arith}
use Rattle.std.proofs.lemmas.Int.{ints}
use Rattle.time_values.specs.Instants.{clock_nanos, instant, IsLeapSecondMoment, IsLastNanosecondOfMonth}
use Rattle.time_values.specs.Moments.{offset_date, offset_time, offset_of, offset_instant, utc_date, utc_time, utc_instant}
use Rattle.time_values.specs.Offsets.{HasOffset, IsUtc, offset_refusal}
use Rattle.time_values.specs.Calendar.{greatest_year}
use Rattle.time_values.specs.Refusal.{Refusal, insufficient}
use Rattle.time_values.specs.declared.utc_offset.UtcOffset.{UtcOffset}
use Rattle.time_values.specs.declared.offset_date_time.OffsetDateTime.{OffsetDateTime}
use Rattle.time_values.specs.declared.utc_date_time.UtcDateTime.{UtcDateTime}
use Rattle.time_values.proofs.InstantLemmas.{instant_is, same_moment}
use Rattle.time_record.specs.Record.{Record, empty}
use Rattle.time_record.specs.Resolution.{IsMoment, IsMomentOfParts, IsUtcMoment, IsUtcMomentOfParts, IsConstructed, IsOffset, IsOffsetOrUtc}
use Rattle.time_record.specs.Resolution.{IsStamped, offset_part, offset_seconds_of}
use Rattle.time_parsing.specs.Iso8601 as Iso8601
use Rattle.time_parsing.specs.Outcome.{IsOutcome, Reading, Refusing}
use Rattle.time_parsing.specs.Rfc2822 as Rfc2822
use Rattle.time_parsing.specs.Rfc3339 as Rfc3339
use Rattle.time_parsing.specs.Written.{ReadsUtcBack, ReadsBasicUtcBack, ReadsMailUtcBack}
use Rattle.time_parsing.proofs.IsoBack.{iso_read_back, basic_read_back}
use Rattle.time_parsing.proofs.MailForm.{mail_read_back}
use Rattle.time_parsing.proofs.WrittenBack.{read_back}
use Rattle.time_parsing.proofs.laws.law_utc_read_back.Goals as goal

-- ---- A written text parses back as a date and time in UTC

Err-Ok : {A : Type 0} (a : A) (e : Refusal) → ◌≡◌ {A = Result A Refusal} (Ok a) (Err e) → ⊥
Err-Ok a e h = cc

-- if a record has an offset, that is also its offset by the rule that a missing one is UTC
or_utc : (hour : Option ℤ) (m s : ℤ) (o : UtcOffset)
    → MatchOption hour (◌≡◌ {A = Result UtcOffset Refusal} (Ok o) (Err insufficient))
    (λ h. IsConstructed (offset_refusal h m s) (HasOffset h m s) (Ok o))
    → MatchOption hour (IsUtc o) (λ h. IsConstructed (offset_refusal h m s) (HasOffset h m s) (Ok o))
or_utc None m s o e = absurd (Err-Ok o insufficient e)
or_utc (Some h) m s o is = is

offset_or_utc : (r : Record) (o : UtcOffset) → IsOffset r (Ok o) → IsOffsetOrUtc r (Ok o)
unfolding IsOffset IsOffsetOrUtc
offset_or_utc r o is = or_utc r.offset_hour (offset_part r r.offset_minute) (offset_seconds_of r) o is

-- if the instant of a date and time in UTC is a leap second, so is the date and time
leap_there : (u : UtcDateTime) (n : ℤ) → utc_instant greatest_year u ≡ n → IsLeapSecondMoment greatest_year n
    → IsLastNanosecondOfMonth (utc_date u) (utc_time u)
leap_there u n is (date, time, shown, leap, within) =
    let same = same_moment date (utc_date u) time (utc_time u) (shown ∙ sym is) in
    subst (λ d. IsLastNanosecondOfMonth d (utc_time u)) same.0 (subst (λ t. IsLastNanosecondOfMonth date t) same.1 leap)

-- the date and time in UTC of a moment of parts
parts_in_utc : (r : Record) (w : OffsetDateTime) (u : UtcDateTime) → utc_instant greatest_year u ≡ offset_instant greatest_year w
    → IsMomentOfParts greatest_year r (Ok w) → IsUtcMomentOfParts greatest_year r (Ok u)
unfolding IsMomentOfParts IsUtcMomentOfParts
parts_in_utc r w u is (inl (e, refused, clash)) = absurd (Err-Ok w e clash)
parts_in_utc r w u is (inr (d, dated, inl (e, refused, clash))) = absurd (Err-Ok w e clash)
parts_in_utc r w u is (inr (d, dated, inr (t, timed, inl (e, refused, clash)))) = absurd (Err-Ok w e clash)
parts_in_utc r w u is (inr (d, dated, inr (t, timed, inr (o, offset, judged)))) =
    let there : utc_instant greatest_year u ≡ instant greatest_year d t o =
    is ∙ ap (λ x. instant greatest_year x (offset_time w) (offset_of w)) judged.0.0
    ∙ ap (λ x. instant greatest_year d x (offset_of w)) judged.0.1 ∙ ap (λ x. instant greatest_year d t x) judged.0.2 in
    inr (
      d,
      dated,
      inr (
        t,
        timed,
        inr (
          o,
          offset_or_utc r o offset,
          inr (
            u,
            (there, (utc_date u).year_in),
            ((refl, refl), λ leap. leap_there u (instant greatest_year d t o) there (judged.1 leap)),
          ),
        ),
      ),
    )

-- the date and time in UTC of a timestamp
instant-utc : (w : OffsetDateTime) → IsUtc (offset_of w) → offset_instant greatest_year w ≡ clock_nanos greatest_year (offset_date w) (offset_time w)
instant-utc w utc =
    omega (arith, ints, utc.0, utc.1, utc.2, instant_is (offset_date w) (offset_time w) (offset_of w))

in_utc : (stamp : Option ℤ) (r : Record) (w : OffsetDateTime) (u : UtcDateTime) → utc_instant greatest_year u ≡ offset_instant greatest_year w
    → MatchOption stamp (IsMomentOfParts greatest_year r (Ok w))
    (λ n. IsOkAnd {E = Refusal} (Ok w) (λ v. IsStamped greatest_year n r.subsecond (offset_date v) (offset_time v) × IsUtc (offset_of v)))
    → MatchOption stamp (IsUtcMomentOfParts greatest_year r (Ok u))
    (λ n. IsOkAnd {E = Refusal} (Ok u) (λ v. IsStamped greatest_year n r.subsecond (utc_date v) (utc_time v)))
in_utc None r w u is parts = parts_in_utc r w u is parts
in_utc (Some n) r w u is (stamped, utc) =
    let same = same_moment (offset_date w) (utc_date u) (offset_time w) (utc_time u) (sym (instant-utc w utc) ∙ sym is) in
    subst (λ d. IsStamped greatest_year n r.subsecond d (utc_time u)) same.0
    (subst (λ t. IsStamped greatest_year n r.subsecond (offset_date w) t) same.1 stamped)

moment_in_utc : (r : Record) (w : OffsetDateTime) (u : UtcDateTime) → utc_instant greatest_year u ≡ offset_instant greatest_year w
    → IsMoment greatest_year r (Ok w) → IsUtcMoment greatest_year r (Ok u)
unfolding IsMoment IsUtcMoment
moment_in_utc r w u is moment = in_utc r.unix_timestamp_nanos r w u is moment

outcome_in_utc : (reads : Reading) (refuses : Refusing) (bytes : List ℕ) (w : OffsetDateTime) (u : UtcDateTime)
    → utc_instant greatest_year u ≡ offset_instant greatest_year w
    → IsOutcome (IsMoment greatest_year) reads refuses bytes empty (Ok w) → IsOutcome (IsUtcMoment greatest_year) reads refuses bytes empty (Ok u)
outcome_in_utc reads refuses bytes w u is (r, read, moment) = (r, read, moment_in_utc r w u is moment)

utc_read_back : ReadsUtcBack greatest_year (Rfc3339.Reads greatest_year) (Rfc3339.Refuses greatest_year)
utc_read_back digits v u none (w, cut, is, within) =
    outcome_in_utc (Rfc3339.Reads greatest_year) (Rfc3339.Refuses greatest_year) _ w u is (read_back digits v w none cut).1

utc_mail_read_back : ReadsMailUtcBack greatest_year (Rfc2822.Reads greatest_year) (Rfc2822.Refuses greatest_year)
utc_mail_read_back v u bytes none (w, cut, is, within) text =
    outcome_in_utc (Rfc2822.Reads greatest_year) (Rfc2822.Refuses greatest_year) bytes w u is (mail_read_back v w bytes none cut text).1

utc_iso_read_back : ReadsUtcBack greatest_year (Iso8601.Reads greatest_year) (Iso8601.Refuses greatest_year)
utc_iso_read_back digits v u none (w, cut, is, within) =
    outcome_in_utc (Iso8601.Reads greatest_year) (Iso8601.Refuses greatest_year) _ w u is (iso_read_back digits v w none cut).1

utc_basic_read_back : ReadsBasicUtcBack greatest_year (Iso8601.Reads greatest_year) (Iso8601.Refuses greatest_year)
utc_basic_read_back v u none (w, cut, is, within) =
    outcome_in_utc (Iso8601.Reads greatest_year) (Iso8601.Refuses greatest_year) _ w u is (basic_read_back v w none cut).1

pub returns-clause-rfc3339 : goal.returns-clause-rfc3339
returns-clause-rfc3339 c = utc_read_back

pub returns-clause-rfc2822 : goal.returns-clause-rfc2822
returns-clause-rfc2822 c = utc_mail_read_back

pub returns-clause-extended : goal.returns-clause-extended
returns-clause-extended c = utc_iso_read_back

pub returns-clause-basic : goal.returns-clause-basic
returns-clause-basic c = utc_basic_read_back
