-- A text has exactly one reading.
use Rattle.std.proofs.Common.{◌≡◌, ℕ, zero, suc, ℤ, pos, Bool, true, false, List, [], ◌∷◌, sym, ap, subst, arith, ◌∙◌, None, Ok, Err, Result, ◌-ℤ◌, MatchOption, MatchResult, MatchBool}
use Rattle.std.proofs.lemmas.Int.{ints}
use Rattle.time_zones.proofs.FolderLemmas.{one_answer, same_offset_by_seconds}
use Rattle.time_record.proofs.ResolutionLemmas.{IsMoment-one}
use Rattle.time_parsing.specs.exact.Laws.{tree_exact, strict_exact_path, rfc2822_exact_path, iso8601_exact, rfc2822_exact, strict_exact}
use Rattle.time_parsing.specs.Outcome.{IsExact, IsExactPath}
use Rattle.time_parsing.proofs.OneOutcome.{one_moment_outcome, one_outcome, one_front}
use Rattle.time_parsing.specs.Outcome as Outcome
use Rattle.restamp_formats.specs.Common.{offset_of, IsUtc, greatest_year, Refusal, OffsetDateTime, UtcOffset, Record, empty, IsMoment, RefusesDirectly, RefusesRfc2822, Refusing, Path, over_record, direct, steps_shape, Clocks, Defaults, Reading, Match}
use Rattle.restamp_formats.specs.Reading.{IsReadBy, IsReadWith, IsRead, ParsesAs, ParsesInZone, ParsesLocally, Undated, undated, at_offset, completed, in_year, is_after, is_early, IsEarly, IsFinal, year_after, AreYearsTried, IsCompleted, IsDated, AreTried, IsReadInTurn, all_of, front_of, bare_where, guarded, IsGuarded, IsReadInFront, zones_of}
use Rattle.restamp_formats.specs.{Zoned.IsMomentWhen, Zoned.clock_of, Zoned.moment_by, Zoned.IsSuffixed, Reason.Reason, Reason.unread, Reason.is_local_time_error}
use Rattle.restamp_formats.proofs.OneWriting.{both_are, one_bool, one_option, one_suffixed}

one_read_by : (is_prefix : Bool) (path : Path) (reads : Outcome.Reading) (refuses : Refusing)
    → IsExact reads refuses → IsExactPath greatest_year path reads refuses
    → (text : List ℕ) (a b : Result Match Refusal)
    → IsReadBy is_prefix path reads refuses text a
    → IsReadBy is_prefix path reads refuses text b → a ≡ b
one_read_by true path reads refuses exact alone text a b p q =
    p.2 ∙ ap (front_of text)
    (one_front reads refuses exact (IsMoment greatest_year) IsMoment-one text empty p.0 q.0 p.1 q.1) ∙ sym q.2
one_read_by false path reads refuses exact alone text a b p q =
    p.2 ∙ ap (all_of text)
    (one_moment_outcome path reads refuses exact alone IsMoment-one text None p.0 q.0 p.1 q.1) ∙ sym q.2

one_completed : (defaults : Defaults) (r : Record) (a b : Result OffsetDateTime Refusal)
    → IsCompleted defaults r a → IsCompleted defaults r b → a ≡ b
one_completed defaults r a b p q = IsMoment-one (completed defaults r) a b p q

one_read_with : (is_prefix : Bool) (reads : Outcome.Reading) (refuses : Refusing) → IsExact reads refuses
    → (text : List ℕ) (defaults : Defaults) (a b : Result Match Refusal)
    → IsReadWith is_prefix reads refuses text defaults a
    → IsReadWith is_prefix reads refuses text defaults b → a ≡ b
one_read_with true reads refuses exact text defaults a b p q =
    p.2 ∙ ap (front_of text)
    (one_front reads refuses exact (IsCompleted defaults) (one_completed defaults) text empty p.0 q.0 p.1 q.1) ∙ sym q.2
one_read_with false reads refuses exact text defaults a b p q =
    p.2 ∙ ap (all_of text)
    (one_outcome reads refuses exact (IsCompleted defaults) (one_completed defaults) text empty p.0 q.0 p.1 q.1) ∙ sym q.2

pub one_read_in_front : (text : List ℕ) (a b : Result Match Refusal) → IsReadInFront text a → IsReadInFront text b
    → a ≡ b
one_read_in_front text a b p q =
    one_read_by true (direct (RefusesDirectly greatest_year)) _ _ (strict_exact greatest_year) strict_exact_path text a b p q

one_read : (format : Reading) (is_prefix : Bool) (text : List ℕ) (defaults : Defaults) (a b : Result Match Refusal)
    → IsRead format is_prefix text defaults a → IsRead format is_prefix text defaults b → a ≡ b
one_read Reading.Rfc3339 is_prefix text defaults a b p q =
    one_read_by is_prefix (direct (RefusesDirectly greatest_year)) _ _ (strict_exact greatest_year) strict_exact_path text a b p q
one_read (Reading.Zoned zones) is_prefix text defaults a b p q = one_read_in_front text a b p q
one_read Reading.Rfc2822 is_prefix text defaults a b p q =
    p.2 ∙ ap (bare_where is_prefix text)
    (one_read_by is_prefix (direct (RefusesRfc2822 greatest_year)) _ _ (rfc2822_exact greatest_year) rfc2822_exact_path text p.0 q.0 p.1 q.1) ∙ sym q.2
one_read Reading.Iso8601 is_prefix text defaults a b p q = one_read_with is_prefix _ _ (iso8601_exact greatest_year) text defaults a b p q
one_read (Reading.Described d) is_prefix text defaults a b p q =
    one_read_with is_prefix _ _ (tree_exact greatest_year (steps_shape d)) text defaults a b p q
one_read (Reading.Complete d) is_prefix text defaults a b p q =
    one_read_by is_prefix over_record _ _ (tree_exact greatest_year (steps_shape d)) tt text a b p q
one_read (Reading.Counted d) is_prefix text defaults a b p q =
    one_read_with is_prefix _ _ (tree_exact greatest_year (steps_shape d)) text defaults a b p q

-- the further rules of a format have one result
one_told : (format : Reading) (is_prefix : Bool) (text : List ℕ) (outcome : Result Match Refusal) (a b : Result Match Reason)
    → MatchResult outcome (λ s. IsGuarded format is_prefix text s a) (λ e. a ≡ Err (unread e))
    → MatchResult outcome (λ s. IsGuarded format is_prefix text s b) (λ e. b ≡ Err (unread e)) → a ≡ b
one_told format is_prefix text (Ok s) a b p q =
    one_option (zones_of format) (λ x. x ≡ guarded format text s) (λ z x. IsSuffixed z is_prefix text s x) a b both_are
    (λ z. one_suffixed z text s is_prefix a b) p q
one_told format is_prefix text (Err e) a b p q = p ∙ sym q

pub one_has : (format : Reading) (is_prefix : Bool) (text : List ℕ) (defaults : Defaults) (a b : Result Match Reason)
    → ParsesAs format is_prefix text defaults a → ParsesAs format is_prefix text defaults b → a ≡ b
one_has format is_prefix text defaults a b p q =
    one_told format is_prefix text q.0 a b
    (subst (λ (outcome : Result Match Refusal). MatchResult outcome (λ s. IsGuarded format is_prefix text s a) (λ e. a ≡ Err (unread e)))
    (one_read format is_prefix text defaults p.0 q.0 p.1 q.1) p.2) q.2

-- one result has one consequence
pub one_after : {V X : Type 0} (r s : Result V Reason) (P : V → X → Type 0) (Q : Reason → X → Type 0) (x y : X) → r ≡ s
    → ((v : V) → P v x → P v y → x ≡ y) → ((e : Reason) → Q e x → Q e y → x ≡ y)
    → MatchResult r (λ v. P v x) (λ e. Q e x) → MatchResult s (λ v. P v y) (λ e. Q e y) → x ≡ y
one_after {V} (Ok v) (Ok w) P Q x y e one other p q =
    let same : v ≡ w = cc in one w (subst (λ (u : V). P u x) same p) q
one_after (Ok v) (Err f) P Q x y e one other p q = absurd cc
one_after (Err f) (Ok v) P Q x y e one other p q = absurd cc
one_after (Err f) (Err g) P Q x y e one other p q =
    let same : f ≡ g = cc in other g (subst (λ (u : Reason). Q u x) same p) q

-- a zone has one moment for a local date and time
one_moment : (clocks : Clocks) (v : OffsetDateTime) (a b : Result OffsetDateTime Reason)
    → IsMomentWhen clocks v a → IsMomentWhen clocks v b → a ≡ b
one_moment clocks v a b p q =
    p.2 ∙ ap (moment_by clocks.fold) (one_answer clocks.zone (clock_of v) p.0 q.0 p.1 q.1) ∙ sym q.2

one_utc : (a b : UtcOffset) → IsUtc a → IsUtc b → a ≡ b
one_utc a b p q = same_offset_by_seconds a b (omega (arith, ints, p.0, p.1, p.2, q.0, q.1, q.2))

-- a text has one match as a local time
one_on : (clocks : Clocks) (format : Reading) (is_prefix : Bool) (text : List ℕ) (defaults : Defaults) (a b : Result Match Reason)
    → ParsesInZone clocks format is_prefix text defaults a → ParsesInZone clocks format is_prefix text defaults b → a ≡ b
one_on clocks format is_prefix text defaults a b p q =
    let SaysAt : UtcOffset → Result Match Reason → Type 0 = λ o x. ParsesAs format is_prefix text (at_offset o defaults) x in
    let same : p.0 ≡ q.0 = one_utc p.0 q.0 p.1 q.1 in
    one_after p.2 q.2
    (λ s x. (moment : Result OffsetDateTime Reason) × IsMomentWhen clocks s.moment moment
    × MatchResult moment (λ m. SaysAt (offset_of m) x) (λ why. x ≡ Err why)) (λ why x. x ≡ Err why) a b
    (one_has format is_prefix text (at_offset q.0 defaults) p.2 q.2 (subst (λ (o : UtcOffset). SaysAt o p.2) same p.3) q.3)
    (λ s u v. one_after u.0 v.0 (λ m. SaysAt (offset_of m)) (λ why x. x ≡ Err why) a b (one_moment clocks s.moment u.0 v.0 u.1 v.1)
    (λ m i j. one_has format is_prefix text (at_offset (offset_of m) defaults) a b i j) (λ why i j. i ∙ sym j) u.2 v.2)
    (λ why u v. u ∙ sym v) p.4 q.4

one_locally : (format : Reading) (is_prefix : Bool) (text : List ℕ) (defaults : Defaults) (a b : Result Match Reason)
    → ParsesLocally format is_prefix text defaults a → ParsesLocally format is_prefix text defaults b → a ≡ b
one_locally format is_prefix text defaults a b p q =
    one_after p.0 q.0 (λ s x. x ≡ Ok s)
    (λ e x. MatchOption defaults.clocks (x ≡ Err e) (λ c. ParsesInZone c format is_prefix text defaults x)) a b
    (one_has format is_prefix text defaults p.0 q.0 p.1 q.1) (λ s. both_are)
    (λ e. one_option defaults.clocks (λ x. x ≡ Err e) (λ c x. ParsesInZone c format is_prefix text defaults x) a b both_are
    (λ c. one_on c format is_prefix text defaults a b)) p.2 q.2

-- the consequence of a rejection in a year
abbrev Passes : ℕ → Undated → ℤ → Reason → Result Match Reason → Type 0
Passes n u year why result =
    (final : Bool) × IsFinal u year why final
    × MatchBool final (result ≡ Err why) (AreYearsTried u n (year -ℤ pos 1) why result)

one_final : (u : Undated) (year : ℤ) (why : Reason) (a b : Bool)
    → IsFinal u year why a → IsFinal u year why b → a ≡ b
one_final u year why a b p q =
    one_bool (is_local_time_error why) (λ x. IsEarly u year x) (λ x. x ≡ false) a b
    (λ i j. i.2 ∙ ap (is_early u.latest)
    (one_has u.format u.is_prefix u.text (at_offset (offset_of u.latest) (in_year year u.offset u.clocks)) i.0 j.0 i.1 j.1) ∙ sym j.2)
    both_are p q

one_passing : (n : ℕ) (u : Undated) (year : ℤ) (why : Reason) (a b : Result Match Reason)
    → (AreYearsTried u n (year -ℤ pos 1) why a → AreYearsTried u n (year -ℤ pos 1) why b → a ≡ b)
    → Passes n u year why a → Passes n u year why b → a ≡ b
one_passing n u year why a b before p q =
    one_bool q.0 (λ x. x ≡ Err why) (λ x. AreYearsTried u n (year -ℤ pos 1) why x) a b both_are before
    (subst (λ (final : Bool). MatchBool final (a ≡ Err why) (AreYearsTried u n (year -ℤ pos 1) why a))
    (one_final u year why p.0 q.0 p.1 q.1) p.2) q.2

one_years : (n : ℕ) (u : Undated) (year : ℤ) (reason : Reason) (a b : Result Match Reason)
    → AreYearsTried u n year reason a → AreYearsTried u n year reason b → a ≡ b
unfolding AreYearsTried
one_years zero u year reason a b p q = p ∙ sym q
one_years (suc n) u year reason a b p q =
    one_after p.0 q.0
    (λ s x. MatchBool (is_after s.moment u.latest) (AreYearsTried u n (year -ℤ pos 1) reason x) (x ≡ Ok s))
    (λ why x. Passes n u year why x) a b
    (one_locally u.format u.is_prefix u.text (in_year year u.offset u.clocks) p.0 q.0 p.1 q.1)
    (λ s. one_bool (is_after s.moment u.latest) (λ x. AreYearsTried u n (year -ℤ pos 1) reason x) (λ x. x ≡ Ok s) a b
    (one_years n u (year -ℤ pos 1) reason a b) both_are)
    (λ why. one_passing n u year why a b (one_years n u (year -ℤ pos 1) why a b)) p.2 q.2

pub one_dated : (format : Reading) (is_prefix : Bool) (text : List ℕ) (defaults : Defaults) (a b : Result Match Reason)
    → IsDated format is_prefix text defaults a → IsDated format is_prefix text defaults b → a ≡ b
one_dated format is_prefix text defaults a b p q =
    one_after p.0 q.0 (λ s x. x ≡ Ok s)
    (λ e x. MatchOption defaults.latest (x ≡ Err e)
    (λ v. AreYearsTried (undated format is_prefix text defaults.offset defaults.clocks v) 10 (year_after v) e x)) a b
    (one_locally format is_prefix text defaults p.0 q.0 p.1 q.1) (λ s. both_are)
    (λ e. one_option defaults.latest (λ x. x ≡ Err e)
    (λ v x. AreYearsTried (undated format is_prefix text defaults.offset defaults.clocks v) 10 (year_after v) e x) a b both_are
    (λ v. one_years 10 (undated format is_prefix text defaults.offset defaults.clocks v) (year_after v) e a b)) p.2 q.2

one_tried : (formats : List Reading) (is_prefix : Bool) (text : List ℕ) (defaults : Defaults) (reason : Reason)
    (a b : Result Match Reason)
    → AreTried formats is_prefix text defaults reason a
    → AreTried formats is_prefix text defaults reason b → a ≡ b
one_tried [] is_prefix text defaults reason a b p q = p ∙ sym q
one_tried (format ∷ formats) is_prefix text defaults reason a b p q =
    one_after p.0 q.0 (λ s x. x ≡ Ok s) (λ _ x. AreTried formats is_prefix text defaults reason x) a b
    (one_dated format is_prefix text defaults p.0 q.0 p.1 q.1) (λ s. both_are)
    (λ e. one_tried formats is_prefix text defaults reason a b) p.2 q.2

pub one_in_turn : (format : Reading) (formats : List Reading) (is_prefix : Bool) (text : List ℕ) (defaults : Defaults)
    (a b : Result Match Reason)
    → IsReadInTurn format formats is_prefix text defaults a
    → IsReadInTurn format formats is_prefix text defaults b → a ≡ b
one_in_turn format formats is_prefix text defaults a b p q =
    one_after p.0 q.0 (λ s x. x ≡ Ok s) (λ e x. AreTried formats is_prefix text defaults e x) a b
    (one_dated format is_prefix text defaults p.0 q.0 p.1 q.1) (λ s. both_are)
    (λ e. one_tried formats is_prefix text defaults e a b) p.2 q.2
