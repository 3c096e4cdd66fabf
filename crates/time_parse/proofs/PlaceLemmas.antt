-- The location of an error is written part by part.
use Rattle.std.proofs.Common.{◌≡◌, ◌∙◌, ℕ, ◌+◌, ◌<◌, List, [], ◌∷◌, ◌++◌, length, map, take, get_or, add-one, Option, Some, None, Result, Ok, Err, OnOk, refl, sym, ap, subst, inl, inr}
use Rattle.std.proofs.KnownBytes.{Appends-trans}
use Rattle.std.specs.Io.KnownBytes.{Appends}
use Rattle.std.proofs.Math.Seq.{take-suc}
use Rattle.std.proofs.lemmas.List.{map-append}
use Rattle.time_values.specs.Calendar.{greatest_year}
use Rattle.time_components.specs.Tree.{Tree}
use Rattle.time_record.specs.Record.{empty}
use Rattle.time_values.specs.Refusal.{Refusal}
use Rattle.time_parsing.specs.Outcome.{Path, Reading, Refusing}
use Rattle.time_locating.specs.Located.{IsErrorAt, IsLocated, Locating, Marking, erased_located, wants}
use Rattle.time_locating.specs.Misses.{all_bytes}
use Rattle.time_locating.specs.declared.located.Located.{Located}
use Rattle.programs_answers.specs.Output.{Writes}
use Rattle.programs_answers.specs.declared.formats.Target.{Target}
use Rattle.time_parse.specs.Place.{IsErrorPlace, IsPlace, IsRefusalFor, IsTreePlace, expected_text, index_text, place_text}
use Rattle.time_parse.specs.Request.{printable}

-- one more byte is printed
pub printable_more : (a b c : Option (List ℕ)) (bytes : List ℕ) (i d : ℕ) → i < length bytes → Appends a b (map printable (take i bytes))
    → Appends b c (printable (get_or bytes i d) ∷ []) → Appends a c (map printable (take (i + 1) bytes))
printable_more a b c bytes i d h before more =
    let all = ap (λ s. map printable s) (take-suc bytes i d h) ∙ map-append printable (take i bytes) (get_or bytes i d ∷ []) in
    rw add-one (subst (Appends a c) (sym all) (Appends-trans a b c (map printable (take i bytes)) (printable (get_or bytes i d) ∷ []) before more))

-- equal trees have equal locations
pub Writes-tree : {E : Type 0} (r : Result (Unit {0}) E) (tree same : Tree) (target : Target) (bytes : List ℕ) (a b : Option (List ℕ))
    → tree ≡ same → OnOk r (Writes (IsTreePlace all_bytes tree target bytes) a b)
    → OnOk r (Writes (IsTreePlace all_bytes same target bytes) a b)
Writes-tree r tree same target bytes a b e h =
    subst (λ (t : Tree). OnOk r (Writes (IsTreePlace all_bytes t target bytes) a b)) e h

module _ {E : Type 0} (target : Target) (path : Path) (reads : Reading) (refuses : Refusing) (locates : Locating) (marks : Marking)
    (text : List ℕ) where
  -- an index and what was expected there
  pub place_written : (r : Result (Unit {0}) E) (at : Located) (a b c : Option (List ℕ)) (front : List ℕ)
      → IsLocated reads locates text empty (Some at) → Appends a b front → OnOk r (Appends b c (expected_text (wants at.expected)))
      → front ++ expected_text (wants at.expected) ≡ place_text (erased_located (Some at))
      → OnOk r (Writes (IsPlace target path reads refuses locates marks text) a c)
  place_written (Ok u) at a b c front h before after is = (
    front ++ expected_text (wants at.expected),
    inl (at, h, is),
    Appends-trans a b c front (expected_text (wants at.expected)) before after,
  )
  place_written (Err e) at a b c front h before after is = tt

  -- nothing, or the index of a component
  pub unplaced_written : (r : Result (Unit {0}) E) (a c : Option (List ℕ)) (refusal : Option Refusal)
      → IsLocated reads locates text empty None → IsRefusalFor target path reads refuses text refusal
      → OnOk r (Writes (IsErrorPlace reads locates marks text refusal) a c)
      → OnOk r (Writes (IsPlace target path reads refuses locates marks text) a c)
  unplaced_written (Ok u) a c refusal h k after = (after.0, inr (h, refusal, k, after.1), after.2)
  unplaced_written (Err e) a c refusal h k after = tt

-- the index of an error's component
pub error_written : {E : Type 0} (r : Result (Unit {0}) E) (reads : Reading) (locates : Locating) (marks : Marking) (text : List ℕ)
    (e : Refusal) (index : Option ℕ) (a c : Option (List ℕ)) → IsErrorAt reads locates marks text empty e index
    → OnOk r (Appends a c (index_text index)) → OnOk r (Writes (IsErrorPlace reads locates marks text (Some e)) a c)
error_written (Ok u) reads locates marks text e index a c h after = (index_text index, (index, h, refl), after)
error_written (Err f) reads locates marks text e index a c h after = tt

-- an answer, followed by a location
pub both_written : {E : Type 0} (r : Result (Unit {0}) E) (P Q : List ℕ → Type 0) (a b c : Option (List ℕ)) → Writes P a b
    → OnOk r (Writes Q b c)
    → OnOk r (Writes (λ t. (o : List ℕ) × (p : List ℕ) × P o × Q p × (t ≡ o ++ p)) a c)
both_written (Ok u) P Q a b c before after =
    (before.0 ++ after.0, (before.0, after.0, before.1, after.1, refl), Appends-trans a b c before.0 after.0 before.2 after.2)
both_written (Err e) P Q a b c before after = tt
