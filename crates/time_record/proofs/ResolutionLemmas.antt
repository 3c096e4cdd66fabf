-- A record resolves to at most one value of each kind, or to one error.
use Rattle.std.specs.Prelude.{unwrap_or}
use Rattle.std.proofs.Common.{◌≡◌, ℕ, ℤ, Bool, false, if◌then◌else◌, Option, Some, None, Result, Ok, Err, MatchOption, IsOkAnd, ◌⊎◌, inl, inr, sym}
use Rattle.std.proofs.Common.{ap, subst, ◌∙◌, arith, refl}
use Rattle.std.proofs.lemmas.Int.{ints}
use Rattle.time_values.specs.declared.date.Date.{Date}
use Rattle.time_values.specs.declared.offset_date_time.OffsetDateTime.{OffsetDateTime}
use Rattle.time_values.specs.declared.plain_date_time.PlainDateTime.{PlainDateTime}
use Rattle.time_values.specs.declared.time.Time.{Time}
use Rattle.time_values.specs.declared.timestamp.Timestamp.{Timestamp}
use Rattle.time_values.specs.declared.utc_date_time.UtcDateTime.{UtcDateTime}
use Rattle.time_values.specs.declared.utc_offset.UtcOffset.{UtcOffset}
use Rattle.time_values.specs.Instants.{IsInstant, IsLeapSecondMoment, IsLastNanosecondOfMonth, clock_nanos, instant}
use Rattle.time_values.specs.Offsets.{HasOffset, IsUtc, offset_refusal}
use Rattle.time_values.specs.Calendar.{greatest_year}
use Rattle.time_values.specs.Refusal.{Refusal, insufficient}
use Rattle.time_values.specs.Times.{HasClock, time_refusal}
use Rattle.time_values.specs.Names.{days_from_monday}
use Rattle.time_values.proofs.InstantLemmas.{clock_nanos_range, same_date_by_iso_week, same_date_by_ordinal, same_date_by_parts, same_date_by_week}
use Rattle.time_values.proofs.InstantLemmas.{same_moment, same_offset, same_offset_by_parts, same_time_by_clock, same_timestamp, instant_is}
use Rattle.time_record.specs.Record.{Record}
use Rattle.time_record.specs.Resolution.{IsConstructed, IsDated, IsInUtc, IsInstantOfParts, IsMoment, IsMomentOfParts, IsOffset, IsOffsetOr}
use Rattle.time_record.specs.Resolution.{IsOffsetOrUtc, IsPlain, IsStamped, IsTimed, IsTimestamp, IsUtcMoment, IsUtcMomentOfParts, Judged, Then}
use Rattle.time_record.specs.Resolution.{Clock, clock_of, is_leap_second, offset_part, offset_seconds_of, replace_leap_second, HasRow, IsRowDate, Row}
use Rattle.time_record.specs.Resolution.{by_iso_week, by_monday_week, by_month_and_day, by_ordinal, by_sunday_week, first_row}

-- at most one value has the property
abbrev pub IsOne : {A : Type 0} → (A → Type 0) → Type 0
IsOne {A} P = (a b : A) → P a → P b → a ≡ b

same_Ok : {A : Type 0} (a b : A) → ◌≡◌ {A = Result A Refusal} (Ok a) (Ok b) → a ≡ b
same_Ok a b h = cc

same_Err : {A : Type 0} (e f : Refusal) → ◌≡◌ {A = Result A Refusal} (Err e) (Err f) → e ≡ f
same_Err e f h = cc

Ok-Err : {A : Type 0} (a : A) (e : Refusal) → ◌≡◌ {A = Result A Refusal} (Ok a) (Err e) → ⊥
Ok-Err a e h = cc

-- a step that returns a value, and the result of the next step for it
pub Then-next : {A Stops : Type 0} {Gives Next : A → Type 0} (a : A) → Gives a → Next a → Stops ⊎ ((a : A) × Gives a × Next a)
Then-next a given next = inr (a, given, next)

-- without a leap second the time of a record is its own
pub IsTimed-no_leap : (r : Record) (result : Result Time Refusal) → is_leap_second r ≡ false → IsTimed r result → IsTimed (replace_leap_second r) result
IsTimed-no_leap r result none timed =
    subst (λ (leap : Bool). IsTimed (if leap then record r { second = Some 59; subsecond = Some 999_999_999 } else r) result) (sym none) timed

-- steps that each have one result have one result together
Then-one : {A B : Type 0} (First : Result A Refusal → Type 0) (Next : A → Result B Refusal → Type 0) →
    IsOne First → ((a : A) → IsOne (Next a)) → IsOne (Then First Next)
Then-one First Next one each r s (inl h) (inl k) = h.2 ∙ ap Err (same_Err h.0 k.0 (one (Err h.0) (Err k.0) h.1 k.1)) ∙ sym k.2
Then-one First Next one each r s (inl h) (inr k) = absurd (Ok-Err k.0 h.0 (one (Ok k.0) (Err h.0) k.1 h.1))
Then-one First Next one each r s (inr h) (inl k) = absurd (Ok-Err h.0 k.0 (one (Ok h.0) (Err k.0) h.1 k.1))
Then-one First Next one each r s (inr h) (inr k) =
    let same = same_Ok h.0 k.0 (one (Ok h.0) (Ok k.0) h.1 k.1) in
    each k.0 r s (subst (λ a. Next a r) same h.2) k.2

-- a result with a unique value or a given error is unique
IsConstructed-one : {V : Type 0} (o : Option Refusal) (P : V → Type 0) → IsOne P → IsOne (IsConstructed o P)
IsConstructed-one None P one (Ok v) (Ok w) h k = ap Ok (one v w h k)
IsConstructed-one None P one (Ok v) (Err f) h k = absurd k
IsConstructed-one None P one (Err e) s h k = absurd h
IsConstructed-one (Some r) P one (Ok v) s h k = absurd h
IsConstructed-one (Some r) P one (Err e) (Ok w) h k = absurd k
IsConstructed-one (Some r) P one (Err e) (Err f) h k = ap Err (h ∙ sym k)

-- and so is a result by an option
MatchOption-one : {X V : Type 0} (o : Option X) (P : Result V Refusal → Type 0) (Q : X → Result V Refusal → Type 0) →
    IsOne P → ((x : X) → IsOne (Q x)) → IsOne (λ r. MatchOption o (P r) (λ x. Q x r))
MatchOption-one None P Q one each r s h k = one r s h k
MatchOption-one (Some x) P Q one each r s h k = each x r s h k

-- a value that is unique
IsOkAnd-one : {V : Type 0} (P : V → Type 0) → IsOne P → IsOne (λ (r : Result V Refusal). IsOkAnd r P)
IsOkAnd-one P one (Ok v) (Ok w) h k = ap Ok (one v w h k)
IsOkAnd-one P one (Ok v) (Err f) h k = absurd k
IsOkAnd-one P one (Err e) s h k = absurd h

-- a given result
IsThat-one : {V : Type 0} (that : Result V Refusal) → IsOne (λ r. r ≡ that)
IsThat-one that r s h k = h ∙ sym k

-- a row determines one date
HasRow-one : (row : Row) → IsOne (HasRow greatest_year row)
HasRow-one (by_ordinal y n) a b h k = same_date_by_ordinal a b (h.0 ∙ sym k.0) (h.1 ∙ sym k.1)
HasRow-one (by_month_and_day y m n) a b h k =
    same_date_by_parts a b (h.0.0 ∙ sym k.0.0) (h.0.1 ∙ sym k.0.1) (h.0.2 ∙ sym k.0.2)
HasRow-one (by_iso_week y week w) a b h k =
    same_date_by_iso_week y week (days_from_monday w) a b h k
HasRow-one (by_sunday_week y week w) a b h k =
    same_date_by_week 6 a b (omega arith) (h.0 ∙ sym k.0) (h.1 ∙ sym k.1) (h.2 ∙ sym k.2)
HasRow-one (by_monday_week y week w) a b h k =
    same_date_by_week 0 a b (omega arith) (h.0 ∙ sym k.0) (h.1 ∙ sym k.1) (h.2 ∙ sym k.2)

IsRowDate-one : (row : Row) → IsOne (IsRowDate greatest_year row)
IsRowDate-one row (Ok d) (Ok e) h k = ap Ok (HasRow-one row d e h k)
IsRowDate-one row (Ok d) (Err e) h k = absurd (k.0 d h)
IsRowDate-one row (Err e) (Ok d) h k = absurd (h.0 d k)
IsRowDate-one row (Err e) (Err f) h k = ap Err (h.1 ∙ sym k.1)

pub IsDated-one : (r : Record) → IsOne (IsDated greatest_year r)
unfolding IsDated
IsDated-one r = MatchOption-one (first_row r) (λ s. s ≡ Err insufficient) (IsRowDate greatest_year) (IsThat-one (Err insufficient)) IsRowDate-one

pub IsTimed-one : (r : Record) → IsOne (IsTimed r)
unfolding IsTimed
IsTimed-one r =
    let refused = λ (c : Clock). time_refusal c.hour c.minute c.second c.nanosecond in
    let Shows = λ (c : Clock). HasClock c.hour c.minute c.second c.nanosecond in
    MatchOption-one (clock_of r) (λ s. s ≡ Err insufficient) (λ c. IsConstructed (refused c) (Shows c)) (IsThat-one (Err insufficient))
    (λ c. IsConstructed-one (refused c) (Shows c) (same_time_by_clock c.hour c.minute c.second c.nanosecond))

IsOffsetOr-one : (Missing : Result UtcOffset Refusal → Type 0) (r : Record) → IsOne Missing → IsOne (IsOffsetOr Missing r)
IsOffsetOr-one Missing r one =
    let m = offset_part r r.offset_minute in
    let s = offset_seconds_of r in
    MatchOption-one r.offset_hour Missing (λ h. IsConstructed (offset_refusal h m s) (HasOffset h m s)) one
    (λ h. IsConstructed-one (offset_refusal h m s) (HasOffset h m s) (same_offset h m s))

pub IsOffset-one : (r : Record) → IsOne (IsOffset r)
unfolding IsOffset
IsOffset-one r = IsOffsetOr-one (λ s. s ≡ Err insufficient) r (IsThat-one (Err insufficient))

IsUtc-one : IsOne IsUtc
IsUtc-one a b h k = same_offset_by_parts a b (h.0 ∙ sym k.0) (h.1 ∙ sym k.1) (h.2 ∙ sym k.2)

IsOffsetOrUtc-one : (r : Record) → IsOne (IsOffsetOrUtc r)
unfolding IsOffsetOrUtc
IsOffsetOrUtc-one r = IsOffsetOr-one (λ s. IsOkAnd s IsUtc) r (IsOkAnd-one IsUtc IsUtc-one)

-- date-times are equal if their parts are
same_plain : (a b : PlainDateTime) → a.date ≡ b.date → a.time ≡ b.time → a ≡ b
same_plain a b d t = λ i. record { date = d i; time = t i }

same_utc : (a b : UtcDateTime) → a.date ≡ b.date → a.time ≡ b.time → a ≡ b
same_utc a b d t = λ i. record { date = d i; time = t i }

same_zoned : (a b : OffsetDateTime) → a.date ≡ b.date → a.time ≡ b.time → a.offset ≡ b.offset → a ≡ b
same_zoned a b d t o = λ i. record { date = d i; time = t i; offset = o i }

pub IsPlain-one : (r : Record) → IsOne (IsPlain greatest_year r)
unfolding IsPlain
IsPlain-one r =
    Then-one (IsDated greatest_year r) _ (IsDated-one r)
    (λ d. Then-one (IsTimed r) _ (IsTimed-one r)
    (λ t. IsOkAnd-one (λ (p : PlainDateTime). (p.date ≡ d) × (p.time ≡ t))
    (λ a b h k. same_plain a b (h.0 ∙ sym k.0) (h.1 ∙ sym k.1))))

-- a timestamp and a nanosecond determine one date and time
IsStamped-one : (n : ℤ) (k : Option ℕ) (a b : Date) (s t : Time) →
    IsStamped greatest_year n k a s → IsStamped greatest_year n k b t → (a ≡ b) × (s ≡ t)
IsStamped-one n k a b s t g h =
    let same = same_moment a b g.0 h.0 (g.1 ∙ sym h.1) in
    let clock = subst (λ (x : Time). HasClock x.hour x.minute x.second (unwrap_or k x.nanosecond) s) same.1 g.2 in
    (same.0, same_time_by_clock h.0.hour h.0.minute h.0.second (unwrap_or k h.0.nanosecond) s t clock h.2)

-- a value that a leap second may turn into an error
Judged-one : {V : Type 0} (leap : Bool) (AtEnd : Type 0) (P : V → Type 0) → IsOne P → IsOne (Judged leap AtEnd P)
Judged-one leap AtEnd P one (Ok v) (Ok w) h k = ap Ok (one v w h.0 k.0)
Judged-one leap AtEnd P one (Ok v) (Err f) h k = absurd (k.1 (h.1 k.0))
Judged-one leap AtEnd P one (Err e) (Ok w) h k = absurd (h.1 (k.1 h.0))
Judged-one leap AtEnd P one (Err e) (Err f) h k = ap Err (h.2 ∙ sym k.2)

IsMomentOfParts-one : (r : Record) → IsOne (IsMomentOfParts greatest_year r)
unfolding IsMomentOfParts
IsMomentOfParts-one r =
    Then-one (IsDated greatest_year r) _ (IsDated-one r)
    (λ d. Then-one (IsTimed (replace_leap_second r)) _ (IsTimed-one (replace_leap_second r))
    (λ t. Then-one (IsOffset r) _ (IsOffset-one r)
    (λ o. Judged-one (is_leap_second r) (IsLeapSecondMoment greatest_year (instant greatest_year d t o))
    (λ (v : OffsetDateTime). (v.date ≡ d) × (v.time ≡ t) × (v.offset ≡ o))
    (λ a b h k. same_zoned a b (h.0 ∙ sym k.0) (h.1 ∙ sym k.1) (h.2 ∙ sym k.2)))))

pub IsMoment-one : (r : Record) → IsOne (IsMoment greatest_year r)
unfolding IsMoment
IsMoment-one r =
    let At = λ (n : ℤ) (v : OffsetDateTime). IsStamped greatest_year n r.subsecond v.date v.time × IsUtc v.offset in
    MatchOption-one r.unix_timestamp_nanos (IsMomentOfParts greatest_year r) (λ n s. IsOkAnd s (At n)) (IsMomentOfParts-one r)
    (λ n. IsOkAnd-one (At n)
    (λ a b h k.
    let same = IsStamped-one n r.subsecond a.date b.date a.time b.time h.0 k.0 in
    same_zoned a b same.0 same.1 (IsUtc-one a.offset b.offset h.1 k.1)))

-- an instant has one date and time in UTC, or none
IsInUtc-one : (n : ℤ) → IsOne (IsInUtc greatest_year n)
IsInUtc-one n (Ok a) (Ok b) h k =
    let same = same_moment a.date b.date a.time b.time (h.0 ∙ sym k.0) in ap Ok (same_utc a b same.0 same.1)
IsInUtc-one n (Ok a) (Err f) h k = absurd (k.0 (subst (IsInstant greatest_year) h.0 (clock_nanos_range a.date a.time)))
IsInUtc-one n (Err e) (Ok b) h k = absurd (h.0 (subst (IsInstant greatest_year) k.0 (clock_nanos_range b.date b.time)))
IsInUtc-one n (Err e) (Err f) h k = ap Err (h.1 ∙ sym k.1)

IsUtcMomentOfParts-one : (r : Record) → IsOne (IsUtcMomentOfParts greatest_year r)
unfolding IsUtcMomentOfParts
IsUtcMomentOfParts-one r =
    Then-one (IsDated greatest_year r) _ (IsDated-one r)
    (λ d. Then-one (IsTimed (replace_leap_second r)) _ (IsTimed-one (replace_leap_second r))
    (λ t. Then-one (IsOffsetOrUtc r) _ (IsOffsetOrUtc-one r)
    (λ o. Then-one (IsInUtc greatest_year (instant greatest_year d t o)) _ (IsInUtc-one (instant greatest_year d t o))
    (λ u. Judged-one (is_leap_second r) (IsLastNanosecondOfMonth u.date u.time) (λ (v : UtcDateTime). (v.date ≡ u.date) × (v.time ≡ u.time))
    (λ a b h k. same_utc a b (h.0 ∙ sym k.0) (h.1 ∙ sym k.1))))))

pub IsUtcMoment-one : (r : Record) → IsOne (IsUtcMoment greatest_year r)
unfolding IsUtcMoment
IsUtcMoment-one r =
    let At = λ (n : ℤ) (v : UtcDateTime). IsStamped greatest_year n r.subsecond v.date v.time in
    MatchOption-one r.unix_timestamp_nanos (IsUtcMomentOfParts greatest_year r) (λ n s. IsOkAnd s (At n)) (IsUtcMomentOfParts-one r)
    (λ n. IsOkAnd-one (At n)
    (λ a b h k. let same = IsStamped-one n r.subsecond a.date b.date a.time b.time h k in same_utc a b same.0 same.1))

IsInstantOfParts-one : (r : Record) → IsOne (IsInstantOfParts greatest_year r)
unfolding IsInstantOfParts
IsInstantOfParts-one r (Ok v) (Ok w) h k =
    let same = same_Ok h.0 k.0 (IsUtcMomentOfParts-one r (Ok h.0) (Ok k.0) h.1 k.1) in
    ap Ok (same_timestamp v w (h.2 ∙ ap (λ (u : UtcDateTime). clock_nanos greatest_year u.date u.time) same ∙ sym k.2))
IsInstantOfParts-one r (Ok v) (Err f) h k = absurd (Ok-Err h.0 k.0.0 (IsUtcMomentOfParts-one r (Ok h.0) (Err k.0.0) h.1 k.0.1))
IsInstantOfParts-one r (Err e) (Ok w) h k = absurd (Ok-Err k.0 h.0.0 (IsUtcMomentOfParts-one r (Ok k.0) (Err h.0.0) k.1 h.0.1))
IsInstantOfParts-one r (Err e) (Err f) h k = ap Err (h.1 ∙ sym k.1)

pub IsTimestamp-one : (r : Record) → IsOne (IsTimestamp greatest_year r)
unfolding IsTimestamp
IsTimestamp-one r =
    let At = λ (n : ℤ) (v : Timestamp). (v.nanoseconds ≡ n) × IsInstant greatest_year v.nanoseconds in
    MatchOption-one r.unix_timestamp_nanos (IsInstantOfParts greatest_year r) (λ n s. IsOkAnd s (At n)) (IsInstantOfParts-one r)
    (λ n. IsOkAnd-one (At n) (λ a b h k. same_timestamp a b (h.0 ∙ sym k.0)))

-- ---- The moments of timestamps

-- a moment with its own nanosecond
pub IsStamped-none : (n : ℤ) (d : Date) (t : Time) → clock_nanos greatest_year d t ≡ n → IsStamped greatest_year n None d t
IsStamped-none n d t e = (t, e, (refl, refl, refl, refl), d.year_in)

-- and with another nanosecond in its second
pub IsStamped-some : (n : ℤ) (k : ℕ) (from d : Date) (t time : Time) → clock_nanos greatest_year from t ≡ n → d ≡ from →
    HasClock t.hour t.minute t.second k time → IsStamped greatest_year n (Some k) d time
IsStamped-some n k from d t time e same h = (t, ap (λ x. clock_nanos greatest_year x t) same ∙ e, h, d.year_in)

-- at no offset, the local time is UTC
pub clock_nanos-utc : (n : ℤ) (d : Date) (t : Time) (o : UtcOffset) → IsUtc o → instant greatest_year d t o ≡ n → clock_nanos greatest_year d t ≡ n
clock_nanos-utc n d t o utc e = omega (arith, ints, instant_is d t o, utc)
