-- The steps of items that were built by hand, or why they can't be prepared.
use Rattle.std.specs.Prelude.{◌≡◌, ◌≢◌, ◌≤◌, ℕ, zero, suc, List, [], ◌∷◌, ◌++◌, codes, length, map, Option, None, Some, Result, Ok, Err}
use Rattle.time_components.specs.Tree.{steps_shape, Tree, Trees, literal, component, sequence, optional, first_of, none, more}
use Rattle.time_components.specs.declared.inspect.Group.{Group}
use Rattle.time_components.specs.declared.inspect.Group.TheVariants as groups
use Rattle.time_components.specs.declared.inspect.Step.{Step}
use Rattle.time_components.specs.declared.inspect.Step.TheVariants as step
use Rattle.time_preparing.specs.declared.items.Unprepared.{Unprepared}
use Rattle.time_preparing.specs.declared.items.Unprepared.TheVariants.{EmptyLiteral, OptionalNotCompound, TooLong}

-- a step, or the reason why a part of an item has no step
abbrev pub Place : Type 0
Place = Result Step Unprepared

-- a step for each further byte of a literal
abbrev pub further_places : List ℕ → List Place
further_places bytes = map (λ b. Ok (step.More b)) bytes

-- a step for each byte of a literal, or `EmptyLiteral` if it has none
abbrev pub literal_places : List ℕ → List Place
literal_places [] = Err EmptyLiteral ∷ []
literal_places (b ∷ bytes) = Ok (step.Literal b) ∷ further_places bytes

-- the step of a group, which counts the places inside it, followed by these places
abbrev pub group_places : Group → List Place → List Place
group_places g inside = Ok (step.Group g (length inside)) ∷ inside

abbrev mutual
  -- the steps of a tree in their order; a part without a step has the reason instead
  pub places_of : Tree → List Place
  places_of (literal bytes) = literal_places bytes
  places_of (component whole c) = Ok (step.Component c) ∷ []
  places_of (sequence ts) = group_places groups.List (places_of_all ts)
  places_of (optional t) = optional_places_of t
  places_of (first_of ts) = group_places groups.First (places_of_all ts)

  -- the places of an optional tree: those of a group if the tree is a sequence, or else `OptionalNotCompound`
  pub optional_places_of : Tree → List Place
  optional_places_of (sequence ts) = group_places groups.Optional (places_of_all ts)
  optional_places_of _ = Err OptionalNotCompound ∷ []

  -- the places of trees in turn
  pub places_of_all : Trees → List Place
  places_of_all none = []
  places_of_all (more t ts) = places_of t ++ places_of_all ts

-- the first reason why places can't be prepared, with room for n steps; none if all are steps, and at most n
abbrev pub first_reason : ℕ → List Place → Option Unprepared
first_reason n [] = None
first_reason n (Err reason ∷ places) = Some reason
first_reason zero (Ok s ∷ places) = Some TooLong
first_reason (suc n) (Ok s ∷ places) = first_reason n places

-- No list of at most n steps has the tree of these trees in sequence.
abbrev pub HasNoSteps : ℕ → Trees → Type 0
HasNoSteps n ts = (steps : List Step) → length steps ≤ n → steps_shape steps ≢ sequence ts

-- The steps are those of the trees, at most n, and have the tree of these trees in sequence; or the error is the first
-- reason, and no list of at most n steps has this tree.
abbrev pub Prepares : ℕ → Trees → Result (List Step) Unprepared → Type 0
Prepares n ts (Ok steps) = (places_of_all ts ≡ map Ok steps) × (length steps ≤ n) × (steps_shape steps ≡ sequence ts)
Prepares n ts (Err reason) = (first_reason n (places_of_all ts) ≡ Some reason) × HasNoSteps n ts

-- the text that `Display` writes for the reason
abbrev pub unprepared_text : Unprepared → List ℕ
unprepared_text EmptyLiteral = codes "a literal is empty"
unprepared_text OptionalNotCompound = codes "an optional item is no compound"
unprepared_text TooLong = codes "the description is too long"
