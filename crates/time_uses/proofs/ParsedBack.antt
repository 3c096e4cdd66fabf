-- What is parsed of a moment's own text is the moment.
use Rattle.std.proofs.Common.{◌≡◌, ℕ, List, Option, Some, None, Result, Ok, Err, refl, sym, ap, subst}
use Rattle.std.specs.Result.{result_ok}
use Rattle.time.specs.Types.{Auto, OffsetDateTime, Parse, Unwritable}
use Rattle.time.specs.Words.{direct, greatest_year, seen, moment_text, offset_time, unwritable_3339, IsMomentOutcome, OneMomentOutcome, RefusesRfc3339, Writes}
use Rattle.time.specs.parsing.Rfc3339.{Reads, Refuses}
use Rattle.time.specs.parsing.Written.{written, IsCut, KeepsAll, ReadsBack}
use Rattle.time.specs.values.DisplayTexts.{Items}
use Rattle.time.specs.values.Times as Times
use Rattle.time.proofs.OneOutcome.{same_Ok}

-- a text that was written, where there is no reason against one
pub written_text : (reason : Option Unwritable) (bytes : List ℕ) (result : Result Items Unwritable) (text : Items)
    → Writes reason bytes result → reason ≡ None → result ≡ Ok text → text.items ≡ bytes
written_text reason bytes result text writes none ok =
    let wrote = subst (λ r. Writes r bytes result) none writes in
    subst (λ r. Writes None bytes r) ok wrote

-- nothing of a moment is cut off
whole : (v : OffsetDateTime) → KeepsAll Auto → IsCut (written Auto v) v v
whole v keeps = record {
  date = refl;
  clock = (refl, refl, refl, sym (keeps (Times.nanosecond (offset_time v)) (offset_time v).nanosecond_in));
  offset = refl;
}

value_of : (v : OffsetDateTime) (result : Result OffsetDateTime Parse) → seen result ≡ Ok v → result_ok result ≡ Some v
value_of v (Ok w) is = ap Some (same_Ok w v is)
value_of v (Err e) is = cc

pub parsed_back : (v : OffsetDateTime) (bytes : List ℕ) (result : Result OffsetDateTime Parse)
    → ReadsBack greatest_year (direct (RefusesRfc3339 greatest_year)) (Reads greatest_year) (Refuses greatest_year)
    → KeepsAll Auto
    → OneMomentOutcome greatest_year (direct (RefusesRfc3339 greatest_year)) (Reads greatest_year) (Refuses greatest_year)
    → unwritable_3339 v ≡ None → bytes ≡ moment_text (written Auto v) v
    → IsMomentOutcome greatest_year (direct (RefusesRfc3339 greatest_year)) (Reads greatest_year) (Refuses greatest_year)
    bytes None (seen result)
    → result_ok result ≡ Some v
parsed_back v bytes result reads keeps one none is outcome =
    let own = (reads Auto v v none (whole v keeps)).0 in
    let moved = subst (λ text. IsMomentOutcome greatest_year (direct (RefusesRfc3339 greatest_year)) (Reads greatest_year)
    (Refuses greatest_year) text None (Ok v)) (sym is) own in
    value_of v result (one bytes None (seen result) (Ok v) outcome moved)
