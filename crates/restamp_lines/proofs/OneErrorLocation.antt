-- The error in a rejected line has exactly one location.
use Rattle.std.proofs.Common.{◌≡◌, ℕ, ◌∙◌, ap, sym, true, List, Option, Some, None, Ok, Err, inl, inr, ◌+◌, drop, MatchOption, MatchResult, Result}
use Rattle.std.proofs.lemmas.Option.{same_Some}
use Rattle.time_values.specs.Calendar.{greatest_year}
use Rattle.time_values.specs.Refusal.{Refusal}
use Rattle.time_components.specs.Tree.{steps_shape}
use Rattle.time_components.specs.declared.inspect.Step.{Step}
use Rattle.time_record.specs.Record.{Record, empty}
use Rattle.time_parsing.specs.Outcome as Outcome
use Rattle.time_parsing.specs.Outcome.{Refusing, IsExact}
use Rattle.time_parsing.specs.exact.Laws.{tree_exact, iso8601_exact}
use Rattle.time_locating.specs.Located.{IsExactMark, IsExactPlace, Locating, Marking}
use Rattle.time_locating.specs.Misses.{Miss, first_byte}
use Rattle.time_locating.specs.exact.PlaceLaws.{iso8601_exact_mark, iso8601_exact_place, tree_exact_mark, tree_exact_place, rfc2822_exact_mark, rfc2822_exact_place, strict_exact_mark, strict_exact_place}
use Rattle.time_locating.proofs.WholeTexts.{one_answer, one_index}
use Rattle.restamp_lines.specs.Job.{Part, part_of}
use Rattle.restamp_lines.specs.ErrorLocation.{IsMissingFieldBy, IsMissingFieldIn, OneMissingField, dated, is_insufficient, missing_field_in, IsLocationBehind, IsLocationBy, IsRfc3339Location, IsTreeLocation, IsPartLocation, IsReasonLocation, IsMismatchLocation, IsTailLocation, IsZonedLocation, IsValueLocation, OneErrorLocation, ErrorLocation, is_trailing, error_location}
use Rattle.restamp_formats.specs.Reason.{Reason, unread, suffix}
use Rattle.restamp_formats.specs.Reading.{completed, IsReadInFront}
use Rattle.restamp_formats.specs.declared.missing_field.MissingField.{MissingField}
use Rattle.restamp_formats.specs.declared.reading.Defaults.{Defaults}
use Rattle.restamp_formats.specs.declared.reading.Reading.{Reading}
use Rattle.restamp_formats.specs.declared.reading.Reading.TheVariants as reading
use Rattle.restamp_formats.specs.declared.reading.Match.{Match}
use Rattle.restamp_formats.proofs.OneReading.{one_read_in_front}
use Rattle.restamp_formats.proofs.OneWriting.{both_are, one_bool, one_option, one_suffix}

-- ---- A rejected line has at most one missing part

one_by-one : (reads : Outcome.Reading) (refuses : Refusing) → IsExact reads refuses → (defaults : Defaults) (text : List ℕ)
    (a b : Option MissingField) → IsMissingFieldBy reads refuses defaults text a
    → IsMissingFieldBy reads refuses defaults text b → a ≡ b
one_by-one reads refuses exact defaults text a b (inl (e, p, q)) (inl (f, u, v)) = q ∙ sym v
one_by-one reads refuses exact defaults text a b (inl (e, p, q)) (inr (rest, r, u, v)) =
    absurd (exact.not_both text empty rest r e u p)
one_by-one reads refuses exact defaults text a b (inr (rest, r, p, q)) (inl (e, u, v)) =
    absurd (exact.not_both text empty rest r e p u)
one_by-one reads refuses exact defaults text a b (inr (rest, r, p, q)) (inr (other, s, u, v)) =
    q ∙ ap (λ (t : Record). Some (missing_field_in (completed defaults t))) (exact.one_record text empty rest other r s p u) ∙ sym v

one_part-one : (format : Reading) (defaults : Defaults) (text : List ℕ) (a b : Option MissingField)
    → IsMissingFieldIn format defaults text a → IsMissingFieldIn format defaults text b → a ≡ b
one_part-one reading.Iso8601 defaults text a b p q = one_by-one _ _ (iso8601_exact greatest_year) defaults text a b p q
one_part-one (reading.Described d) defaults text a b p q = one_by-one _ _ (tree_exact greatest_year (steps_shape d)) defaults text a b p q
one_part-one (reading.Counted d) defaults text a b p q = one_by-one _ _ (tree_exact greatest_year (steps_shape d)) defaults text a b p q
one_part-one _ defaults text a b p q = p ∙ sym q

pub one_missing_field : OneMissingField
one_missing_field job line reason x y =
    let is_missing = λ (p : Part). IsMissingFieldIn job.first.now (dated job.defaults) p.text in
    one_bool (is_insufficient reason) (λ z. MatchOption (part_of job.place line) (z ≡ None) (λ p. is_missing p z)) (λ z. z ≡ None) x y
    (one_option (part_of job.place line) (λ z. z ≡ None) is_missing x y both_are (λ p. one_part-one _ _ p.text x y)) both_are

-- a format that matches everything, so that an index can only be that of a value
abbrev reads_all : Outcome.Reading
reads_all bytes r rest q = Unit {0}

abbrev locates_none : Locating
locates_none bytes r m = ⊥

none_exact : IsExactPlace reads_all locates_none
none_exact = record {
  one_place = λ b r m n h k. absurd h;
  not_read = λ b r q m h k. h;
}

module _ (reads : Outcome.Reading) (locates : Locating) (marks : Marking) (places : IsExactPlace reads locates) (one : IsExactMark marks)
    (part : Part) where
  value-one : (e : Refusal) (w v : ErrorLocation) → IsValueLocation marks part e w → IsValueLocation marks part e v → w ≡ v
  value-one e w v h k =
      let same = one_index reads_all locates_none marks none_exact one part.text empty e h.0 k.0 (None, (empty, tt), h.1) (None, (empty, tt), k.1) in cc

  place-one : (w v : ErrorLocation) → IsMismatchLocation reads locates part w → IsMismatchLocation reads locates part v → w ≡ v
  place-one w v h k =
      let same = same_Some _ _ (one_answer reads locates places part.text empty (Some h.0) (Some k.0) h.1 k.1) in
      h.2 ∙ ap (λ (m : Miss). error_location (part.start + m.left + 1) (Some m.wanted)) same ∙ sym k.2

  by-one : (e : Refusal) (w v : ErrorLocation) → IsLocationBy reads locates marks part e w
      → IsLocationBy reads locates marks part e v → w ≡ v
  by-one e w v (inl h) (inl k) = value-one e w v h.1 k.1
  by-one e w v (inl h) (inr k) = absurd (k.0 h.0)
  by-one e w v (inr h) (inl k) = absurd (h.0 k.0)
  by-one e w v (inr h) (inr k) = place-one w v h.1 k.1

-- one result has one consequence
one_result : {A E X : Type 0} (r : Result A E) (P : A → X → Type 0) (Q : X → Type 0) (x y : X) → ((a : A) → P a x → P a y → x ≡ y)
    → (Q x → Q y → x ≡ y) → MatchResult r (λ a. P a x) (λ _. Q x) → MatchResult r (λ a. P a y) (λ _. Q y) → x ≡ y
one_result (Ok a) P Q x y one other = one a
one_result (Err e) P Q x y one other = other

-- the match of a prefix has one consequence
front-one : (text : List ℕ) (P : Match → ErrorLocation → Type 0) (Q : ErrorLocation → Type 0) (w v : ErrorLocation)
    → ((s : Match) → P s w → P s v → w ≡ v) → (Q w → Q v → w ≡ v)
    → (outcome : Result Match Refusal) × IsReadInFront text outcome × MatchResult outcome (λ s. P s w) (λ _. Q w)
    → (outcome : Result Match Refusal) × IsReadInFront text outcome × MatchResult outcome (λ s. P s v) (λ _. Q v) → w ≡ v
front-one text P Q w v one other (a, p, h) (b, q, k) = one_result b P Q w v one other (rw (one_read_in_front text a b p q) at h) k

behind-one : (part : Part) (front : Match) (w v : ErrorLocation) → IsLocationBehind part front w → IsLocationBehind part front v → w ≡ v
behind-one part front w v h k = let same = one_suffix (drop front.length part.text) h.0 k.0 h.1 k.1 in cc

rfc3339-one : (part : Part) (e : Refusal) (w v : ErrorLocation) → IsRfc3339Location part e w
    → IsRfc3339Location part e v → w ≡ v
rfc3339-one = by-one _ _ _ strict_exact_place strict_exact_mark

zoned-one : (part : Part) (e : Refusal) (w v : ErrorLocation) → IsZonedLocation part e w
    → IsZonedLocation part e v → w ≡ v
zoned-one part e w v =
    let front = record part { is_prefix = true } in
    one_bool (is_trailing e) (IsTailLocation front e) (IsRfc3339Location front e) w v
    (front-one part.text (IsLocationBehind front) (IsRfc3339Location front e) w v
    (λ behind. behind-one front behind w v) (rfc3339-one front e w v)) (rfc3339-one front e w v)

tree-one : (d : List Step) (part : Part) (e : Refusal) (w v : ErrorLocation) → IsTreeLocation (steps_shape d) part e w
    → IsTreeLocation (steps_shape d) part e v → w ≡ v
tree-one d = by-one _ _ _ (tree_exact_place first_byte (steps_shape d)) (tree_exact_mark (steps_shape d))

part-one : (format : Reading) (part : Part) (e : Refusal) (w v : ErrorLocation)
    → IsPartLocation format part e w → IsPartLocation format part e v → w ≡ v
part-one reading.Rfc3339 = rfc3339-one
part-one (reading.Zoned zones) = zoned-one
part-one reading.Rfc2822 = by-one _ _ _ rfc2822_exact_place rfc2822_exact_mark
part-one reading.Iso8601 = by-one _ _ _ iso8601_exact_place iso8601_exact_mark
part-one (reading.Described d) = tree-one d
part-one (reading.Complete d) = tree-one d
part-one (reading.Counted d) = tree-one d

reason-one : (format : Reading) (part : Part) (reason : Reason) (otherwise w v : ErrorLocation)
    → IsReasonLocation format part reason otherwise w → IsReasonLocation format part reason otherwise v → w ≡ v
reason-one format part (unread e) otherwise w v = part-one format part e w v
reason-one format part (suffix fault) otherwise w v =
    front-one part.text (λ front u. u ≡ error_location (part.start + front.length + 1) None) (λ u. u ≡ otherwise) w v (λ _. both_are) both_are
reason-one format part reason otherwise w v = both_are

pub one_error_location : OneErrorLocation
one_error_location job line column reason w v =
    let otherwise = error_location column None in
    one_option (part_of job.place line) (λ u. u ≡ otherwise) (λ p. IsReasonLocation job.first.now p reason otherwise) w v both_are
    (λ p. reason-one job.first.now p reason otherwise w v)
