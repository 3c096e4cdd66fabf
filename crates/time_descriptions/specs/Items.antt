-- The items of a description, with their steps and their trees.
use Rattle.std.specs.Prelude.{ℕ, List, [], ◌∷◌, ◌++◌, length, map, false, ◌≡◌, Option, Some, None}
use Rattle.time_components.specs.declared.format_description.Component.{Component}
use Rattle.time_components.specs.Tree.{group_tree, Tree, Trees, literal as literal_tree, component as component_tree, none as no_trees, more as more_trees}
use Rattle.time_components.specs.declared.inspect.Group.{Group}
use Rattle.time_components.specs.declared.inspect.Step.{Step}
use Rattle.time_components.specs.declared.inspect.Step.TheVariants as step
use Rattle.time_descriptions.specs.declared.leaf.Leaf.{Leaf}
use Rattle.time_descriptions.specs.declared.leaf.Leaf.TheVariants as leaf

mutual
  -- an item of a description
  pub data Item : Type 0 where
    -- a literal: its first byte, and its further bytes
    literal : ℕ → List ℕ → Item
    -- a component
    component : Component → Item
    -- an optional item with the items in its list, a choice with its lists, or one list of a choice with its items
    group : Group → Items → Item

  -- a list of items
  pub data Items : Type 0 where
    -- no items
    none : Items
    -- an item, and the items after it
    more : Item → Items → Items

-- a list of items, as `Items`
abbrev pub items_of : List Item → Items
items_of [] = none
items_of (i ∷ is) = more i (items_of is)

abbrev mutual
  -- the tree of an item; its components have no flag that an `Ignore` must end between UTF-8 characters
  pub tree_of : Item → Tree
  tree_of (literal b bytes) = literal_tree (b ∷ bytes)
  tree_of (component c) = component_tree false c
  tree_of (group g is) = group_tree g (trees_of is)

  -- the trees of items in order
  pub trees_of : Items → Trees
  trees_of none = no_trees
  trees_of (more i is) = more_trees (tree_of i) (trees_of is)

abbrev mutual
  -- the steps of an item: one for each byte of a literal, one for a component, and one for a group, which has the
  -- number of the steps of the items inside, followed by these steps
  pub steps_of : Item → List Step
  steps_of (literal b bytes) = step.Literal b ∷ map step.More bytes
  steps_of (component c) = step.Component c ∷ []
  steps_of (group g is) = step.Group g (length (all_steps_of is)) ∷ all_steps_of is

  -- the steps of items in order
  pub all_steps_of : Items → List Step
  all_steps_of none = []
  all_steps_of (more i is) = steps_of i ++ all_steps_of is

-- the steps of items in order, for items as a `List`
abbrev pub flat : List Item → List Step
flat is = all_steps_of (items_of is)

-- ---- Items without other items inside them

-- a leaf, which is a literal or a component, as an item
abbrev pub leaf_item : Leaf → Item
leaf_item (leaf.Literal b bytes) = literal b bytes.now
leaf_item (leaf.Component c) = component c

-- Either the result of a function, mapped by view, is what is found, or both are `None`.
abbrev pub Finds : {X Y : Type 0} → (X → Y) → Option X → Option Y → Type 0
Finds view (Some x) found = found ≡ Some (view x)
Finds view None found = found ≡ None
