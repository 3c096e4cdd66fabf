-- What a walk over trees in turn reads.
use Rattle.std.specs.Prelude.{◌≡◌, ◌<◌, ◌≤◌, ◌⊎◌, ℕ, List, [], ◌∷◌, ◌++◌, drop, length, Option, Some, None, Result, Ok, Err, false}
use Rattle.std.specs.Borrow.{Bor}
use Rattle.time_values.specs.Refusal.{Refusal, refusal_of_description}
use Rattle.time_values.specs.declared.error.ParseFromDescription.{ParseFromDescription}
use Rattle.time_components.specs.Tree.{further, steps_trees, Tree, Trees, literal, component, sequence, optional, none, more}
use Rattle.time_values.specs.Calendar.{greatest_year}
use Rattle.time_components.specs.declared.format_description.Component.TheVariants.{Second, Subsecond}
use Rattle.time_components.specs.declared.inspect.Step.{Step}
use Rattle.time_components.specs.declared.inspect.Step.TheVariants as step
use Rattle.time_record.specs.Reading.{Reads, Refuses, ReadsAll, RefusesAll}
use Rattle.time_record.specs.Record.{Record}
use Rattle.time_preparing.specs.Forms.{parts}
use Rattle.time_preparing.specs.declared.joined.Joined.{Joined}
use Rattle.time_preparing.specs.declared.forms.TheConstants.{SECOND, SUBSECOND}

-- the first trees, followed by the second
abbrev pub followed_by : Trees → Trees → Trees
followed_by none us = us
followed_by (more t ts) us = more t (followed_by ts us)

-- a tree for each step that is a byte or a component, in order; the steps that open groups are skipped
abbrev pub leaves : List Step → Trees
leaves [] = none
leaves (step.Literal b ∷ steps) = more (literal (b ∷ [])) (leaves steps)
leaves (step.More b ∷ steps) = more (literal (b ∷ [])) (leaves steps)
leaves (step.Component c ∷ steps) = more (component false c) (leaves steps)
leaves (step.Group g len ∷ steps) = leaves steps

-- the optional tree of this byte and a fraction of a second
abbrev pub fraction_tree : ℕ → Tree
fraction_tree p =
    optional (sequence (more (literal (p ∷ [])) (more (component false (Subsecond SUBSECOND)) none)))

-- the optional tree of the first byte, a second, and optionally the other byte and a fraction
abbrev pub seconds_tree : ℕ → ℕ → Tree
seconds_tree b p =
    optional (sequence (more (literal (b ∷ [])) (more (component false (Second SECOND)) (more (fraction_tree p) none))))

-- The result of parsing trees in turn: the rest and the new record of a reading; or `None` with an unchanged record,
-- and then there may still be a reading.
abbrev pub MayReadAll : Trees → List ℕ → Record → Option (Bor (List ℕ)) → Record → Type 0
MayReadAll ts bytes r (Some rest) r' = ReadsAll greatest_year ts bytes r rest.now r'
MayReadAll ts bytes r None r' = r' ≡ r

-- the rest and the new record of the tree's reading; or the error with which it rejects the bytes, and any new record
abbrev pub ParsesTree : Tree → List ℕ → Record → Result (Bor (List ℕ)) ParseFromDescription → Record → Type 0
ParsesTree t bytes r (Ok rest) r' = Reads greatest_year t bytes r rest.now r'
ParsesTree t bytes r (Err e) r' = Refuses greatest_year t bytes r (refusal_of_description e)

-- Each reading, and each error, of the trees `left` on `b` over `r` is one of all the trees on `b0` over `r0`.
pub record Resumes (all : Trees) (b0 : List ℕ) (r0 : Record) (left : Trees) (b : List ℕ)
    (r : Record) : Type 0 where
  pub reads : (rest : List ℕ) (q : Record) → ReadsAll greatest_year left b r rest q
      → ReadsAll greatest_year all b0 r0 rest q
  pub refuses : (e : Refusal) → RefusesAll greatest_year left b r e → RefusesAll greatest_year all b0 r0 e

-- The first n of the joined steps are read, up to the rest and the new record. That holds whatever steps follow the
-- joined ones, unless the next step is a further byte of a literal: each reading and each error of all steps but the
-- first n, on the rest over the new record, is one of all steps on the bytes over the old record.
abbrev pub ReadsFront : Joined → ℕ → List ℕ → Record → List ℕ → Record → Type 0
ReadsFront j n bytes r rest r' =
    (after : List Step) → further after ≡ []
    → Resumes (steps_trees (parts j ++ after)) bytes r (steps_trees (drop n (parts j ++ after))) rest r'

-- Either at least one step is joined, the number `left` of steps from the first joined one on suffices for all joined
-- ones, and the first n of these are read; or n is 0, the rest is all bytes, and the record is unchanged.
abbrev pub MayReadFront : Joined → ℕ → ℕ → List ℕ → Record → List ℕ → Record → Type 0
MayReadFront j left n bytes r rest r' =
    ((n ≡ 0) × (rest ≡ bytes) × (r' ≡ r))
    ⊎ ((0 < length (parts j)) × (length (parts j) ≤ left) × ReadsFront j n bytes r rest r')
