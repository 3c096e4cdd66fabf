-- No public contract rests on this file.
--
-- How an append changes a list of steps that has room for n in all.
use Rattle.std.specs.Prelude.{◌≡◌, ◌≤◌, ◌-◌, ℕ, List, ◌++◌, length, Some, Result, Ok, Err}
use Rattle.time_components.specs.Tree.{Tree, Trees}
use Rattle.time_components.specs.declared.inspect.Step.{Step}
use Rattle.time_descriptions.specs.Items.{Item, flat, items_of, steps_of, tree_of, trees_of}
use Rattle.time_preparing.specs.declared.items.Unprepared.{Unprepared}
use Rattle.time_preparing.specs.Items.{first_reason, places_of, places_of_all}

-- The steps of an item of this tree are appended to the old ones, at most n in all; or the first reason is returned,
-- whatever the new steps.
abbrev pub PutsItem : {A : Type 0} → ℕ → Tree → List Step → Result A Unprepared → List Step → Type 0
PutsItem n t old (Ok x) new = (i : Item) × (t ≡ tree_of i) × (new ≡ old ++ steps_of i) × (length new ≤ n)
PutsItem n t old (Err reason) new = first_reason (n - length old) (places_of t) ≡ Some reason

-- The steps of items in turn are appended to the old ones, at most n in all; or the first reason is returned, whatever
-- the new steps.
abbrev pub PutsItems : {A : Type 0} → ℕ → Trees → List Step → Result A Unprepared → List Step → Type 0
PutsItems n ts old (Ok x) new =
    (is : List Item) × (ts ≡ trees_of (items_of is)) × (new ≡ old ++ flat is) × (length new ≤ n)
PutsItems n ts old (Err reason) new = first_reason (n - length old) (places_of_all ts) ≡ Some reason
