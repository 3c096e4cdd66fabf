-- Consequences of the match of a text by one format, at one offset or with one year.
use Rattle.time_values.specs.Calendar.{greatest_year}
use Rattle.std.proofs.Common.{Option, Result, MatchBool, MatchOption, ◌+ℤ◌, ◌-ℤ◌, FitsSigned, MatchResult, ◌≡◌, ℕ, zero, suc, ◌+◌, ◌-◌, ◌<◌, ℤ, pos, Bool, false, List, ◌∷◌, length, get_or, drop, refl, sym, ap, subst, arith, add-one, ◌∙◌, None, Some, Ok, Err}
use Rattle.std.proofs.{lemmas.Int.to_z-of_z, Math.Seq.drop-cons}
use Rattle.std.specs.Int.{w32, cast_signed as to_z, cast_unsigned as of_z}
use Rattle.restamp_formats.specs.Common.{OffsetDateTime, offset_of, IsUtc, UtcOffset, refusal_of, Parse, Defaults, Reading, Match, Clocks}
use Rattle.restamp_formats.specs.Reading.{AreTried, ParsesAs, ParsesLocally, Undated, undated, is_after, IsFinal, year_after, IsReadInYear, AreYearsTried, IsDated, IsReadInTurn, ParsesInZone, IsEarly, at_offset, in_year, is_early, IsRead, is_counted, erased_match, zones_of}
use Rattle.restamp_formats.specs.{Reason.Satisfies, Reason.IsErrOf, Reason.Reason, Reason.unread, Zoned.IsMomentWhen}

-- ---- The match of a text that needs no defaults

pub dated_at_once : (format : Reading) (is_prefix : Bool) (text : List ℕ) (defaults : Defaults) (s : Match)
    → ParsesAs format is_prefix text defaults (Ok s) → IsDated format is_prefix text defaults (Ok s)
dated_at_once format is_prefix text defaults s says = (Ok s, (Ok s, says, refl), refl)

pub in_turn_at_once : (format : Reading) (formats : List Reading) (is_prefix : Bool) (text : List ℕ) (defaults : Defaults) (s : Match)
    → ParsesLocally format is_prefix text defaults (Ok s) → IsReadInTurn format formats is_prefix text defaults (Ok s)
in_turn_at_once format formats is_prefix text defaults s says = (Ok s, (Ok s, says, refl), refl)

-- ---- Formats that are tried in turn

pub at_item : (formats : List Reading) (i : ℕ) (format : Reading) → i < length formats → format ≡ get_or formats i format
    → drop i formats ≡ format ∷ drop (i + 1) formats
at_item formats i format below is =
    rw add-one (drop-cons formats i format below ∙ ap (λ first. first ∷ drop (suc i) formats) (sym is))

module _ (formats : List Reading) (i : ℕ) (format : Reading) (below : i < length formats)
    (is : format ≡ get_or formats i format) (is_prefix : Bool) (text : List ℕ) (defaults : Defaults) (reason : Reason) where
  pub tried-here : (s : Match) → IsDated format is_prefix text defaults (Ok s)
      → AreTried (drop i formats) is_prefix text defaults reason (Ok s)
  tried-here s says =
      subst (λ left. AreTried left is_prefix text defaults reason (Ok s)) (sym (at_item formats i format below is)) (Ok s, says, refl)

  pub tried-later : (e : Reason) (result : Result Match Reason) → IsDated format is_prefix text defaults (Err e)
      → AreTried (drop (i + 1) formats) is_prefix text defaults reason result
      → AreTried (drop i formats) is_prefix text defaults reason result
  tried-later e result says later =
      subst (λ left. AreTried left is_prefix text defaults reason result) (sym (at_item formats i format below is)) (Err e, says, later)

pub on_none : {V : Type 0} (o : Option V) (P : Type 0) (Q : V → Type 0) → o ≡ None → P → MatchOption o P Q
on_none None P Q e p = p
on_none (Some v) P Q e p = absurd cc

pub on_some : {V : Type 0} (o : Option V) (v : V) (P : Type 0) (Q : V → Type 0) → o ≡ Some v → Q v → MatchOption o P Q
on_some None v P Q e q = absurd cc
on_some (Some w) v P Q e q = let same : v ≡ w = cc in subst Q same q

-- a year that is passed on, one less or one more
pub one_less : (y : ℤ) → FitsSigned w32 y → FitsSigned w32 (y -ℤ pos 1) → to_z w32 (of_z w32 (to_z w32 (of_z w32 y) -ℤ pos 1)) ≡ y -ℤ pos 1
one_less y fits less = ap (λ (x : ℤ). to_z w32 (of_z w32 (x -ℤ pos 1))) (to_z-of_z w32 y fits) ∙ to_z-of_z w32 (y -ℤ pos 1) less

pub one_more : (y : ℤ) → FitsSigned w32 y → FitsSigned w32 (y +ℤ pos 1) → to_z w32 (of_z w32 (to_z w32 (of_z w32 y) +ℤ pos 1)) ≡ y +ℤ pos 1
one_more y fits more = ap (λ (x : ℤ). to_z w32 (of_z w32 (x +ℤ pos 1))) (to_z-of_z w32 y fits) ∙ to_z-of_z w32 (y +ℤ pos 1) more

-- a text without a year, in the years that are tried
module _ (u : Undated) (year : ℤ) (reason : Reason) where
  -- the first of the years that are left
  pub years-at : (n : ℕ) (result read : Result Match Reason) → 0 < n → IsReadInYear u year read
      → MatchResult read
      (λ s. MatchBool (is_after s.moment u.latest) (AreYearsTried u (n - 1) (year -ℤ pos 1) reason result) (result ≡ Ok s))
      (λ why. (final : Bool) × IsFinal u year why final
      × MatchBool final (result ≡ Err why) (AreYearsTried u (n - 1) (year -ℤ pos 1) why result))
      → AreYearsTried u n year reason result
  unfolding AreYearsTried
  years-at zero result read some in_year next = absurd (omega arith)
  years-at (suc n) result read some in_year next = let k : suc n - 1 ≡ n = omega arith in (read, in_year, rw k at next)

  pub years-end : (n : ℕ) → n ≡ 0 → AreYearsTried u n year reason (Err reason)
  unfolding AreYearsTried
  years-end n e = rw e refl

-- the match of a text by the first of several formats
pub in_turn-first : (format : Reading) (formats : List Reading) (is_prefix : Bool) (text : List ℕ) (defaults : Defaults) (s : Match)
    → ParsesAs format is_prefix text defaults (Ok s) → IsReadInTurn format formats is_prefix text defaults (Ok s)
in_turn-first format formats is_prefix text defaults s says = (Ok s, (Ok s, (Ok s, says, refl), refl), refl)

-- the match of a text that may omit its year
module _ (format : Reading) (is_prefix : Bool) (text : List ℕ) (defaults : Defaults) (e : Reason) where
  pub dated-years : (v : OffsetDateTime) (year : ℤ) (result : Result Match Reason) → defaults.latest ≡ Some v
      → ParsesLocally format is_prefix text defaults (Err e) → year ≡ year_after v
      → AreYearsTried (undated format is_prefix text defaults.offset defaults.clocks v) 10 year e result
      → IsDated format is_prefix text defaults result
  dated-years v year result some says after tried = (Err e, says, on_some defaults.latest v _ _ some (rw (← after) tried))

-- ---- The match of a text as a local time in a zone

module _ (format : Reading) (is_prefix : Bool) (text : List ℕ) (defaults : Defaults) where
  -- the match in a zone: none in UTC, none by the zone, or the match at the zone's offset
  module _ (clocks : Clocks) (utc : UtcOffset) (d : Defaults) (same : d ≡ at_offset utc defaults) (is : IsUtc utc) where
    pub on-unread : (e : Reason) → ParsesAs format is_prefix text d (Err e) → ParsesInZone clocks format is_prefix text defaults (Err e)
    on-unread e says = (utc, is, Err e, rw (← same) says, refl)

    pub on-refused : (s : Match) (why : Reason) → ParsesAs format is_prefix text d (Ok s) → IsMomentWhen clocks s.moment (Err why)
        → ParsesInZone clocks format is_prefix text defaults (Err why)
    on-refused s why says when =
        (utc, is, Ok s, rw (← same) says, (Err why, when, refl))

    pub on-shown : (s : Match) (m : OffsetDateTime) (e : Defaults) (r : Result Match Reason) → ParsesAs format is_prefix text d (Ok s)
        → IsMomentWhen clocks s.moment (Ok m) → e ≡ at_offset (offset_of m) defaults → ParsesAs format is_prefix text e r
        → ParsesInZone clocks format is_prefix text defaults r
    on-shown s m e r says when there later = (utc, is, Ok s, rw (← same) says, (Ok m, when, rw (← there) later))

  -- the match of a text that the format rejects without a zone
  pub locally-on : (e : Reason) (clocks : Clocks) (r : Result Match Reason) → defaults.clocks ≡ Some clocks
      → ParsesAs format is_prefix text defaults (Err e) → ParsesInZone clocks format is_prefix text defaults r
      → ParsesLocally format is_prefix text defaults r
  locally-on e clocks r some says on = (Err e, says, on_some defaults.clocks clocks _ _ some on)

-- whether the match with a year isn't too late
pub early : (u : Undated) (year : ℤ) (d e : Defaults) (o : UtcOffset) (shown : Result Match Reason) (b : Bool)
    → d ≡ in_year year u.offset u.clocks → o ≡ offset_of u.latest → e ≡ at_offset o d
    → ParsesAs u.format u.is_prefix u.text e shown → b ≡ is_early u.latest shown → IsEarly u year b
early u year d e o shown b of_year of_latest at says is =
    let same : e ≡ at_offset (offset_of u.latest) (in_year year u.offset u.clocks) =
    at ∙ ap (λ (i : UtcOffset). at_offset i d) of_latest ∙ ap (at_offset (offset_of u.latest)) of_year in
    (shown, subst (λ (i : Defaults). ParsesAs u.format u.is_prefix u.text i shown) same says, is)

-- a text by a format without a suffix, which accepts a fraction after a minus
pub says_plain : {E : Type 0} (IsOf : Reason → E → Type 0) (format : Reading) (is_prefix : Bool) (text : List ℕ) (defaults : Defaults)
    (parsed : Result Match Parse) (result : Result Match E) → zones_of format ≡ None → is_counted format ≡ false
    → IsRead format is_prefix text defaults (erased_match parsed)
    → MatchResult parsed (λ s. result ≡ Ok s) (λ e. IsErrOf IsOf (unread (refusal_of e)) result)
    → Satisfies IsOf (ParsesAs format is_prefix text defaults) result
says_plain IsOf format is_prefix text defaults (Ok s) result zones counted is same =
    rw same (Ok s, is, on_none (zones_of format) _ _ zones (rw counted refl))
says_plain IsOf format is_prefix text defaults (Err e) (Ok s) zones counted is kept = absurd kept
says_plain IsOf format is_prefix text defaults (Err e) (Err why) zones counted is kept =
    (unread (refusal_of e), kept, (Err (refusal_of e), is, refl))
