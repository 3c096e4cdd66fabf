-- The tree of a description, whatever its type.
use Rattle.std.specs.Prelude.{ℕ, List, [], ◌∷◌, Bool, true, false, map, string_bytes, zero, suc, length, min, take, drop}
use Rattle.time_components.specs.declared.format_description.Component.{Component}
use Rattle.time_components.specs.declared.inspect.Node.{Node}
use Rattle.time_components.specs.declared.inspect.Node.TheVariants as node
use Rattle.time_components.specs.declared.format_description.BorrowedFormatItem.{BorrowedFormatItem}
use Rattle.time_components.specs.declared.format_description.BorrowedFormatItem.TheOpen as borrowed
use Rattle.time_components.specs.declared.format_description.BorrowedFormatItem.TheFolds.{fold-BorrowedFormatItem}
use Rattle.time_components.specs.declared.format_description.OwnedFormatItem.{OwnedFormatItem}
use Rattle.time_components.specs.declared.format_description.OwnedFormatItem.TheOpen as owned
use Rattle.time_components.specs.declared.format_description.OwnedFormatItem.TheFolds.{fold-OwnedFormatItem}
use Rattle.time_components.specs.declared.format_description.FormatDescriptionV3Inner.{FormatDescriptionV3Inner}
use Rattle.time_components.specs.declared.format_description.FormatDescriptionV3Inner.TheOpen as v3
use Rattle.time_components.specs.declared.format_description.FormatDescriptionV3Inner.TheFolds.{fold-FormatDescriptionV3Inner}
use Rattle.time_components.specs.declared.inspect.Group.{Group}
use Rattle.time_components.specs.declared.inspect.Group.TheVariants as groups
use Rattle.time_components.specs.declared.inspect.Step.{Step}
use Rattle.time_components.specs.declared.inspect.Step.TheVariants as step

mutual
  -- the tree of a description of any type
  pub data Tree : Type 0 where
    -- literal bytes
    literal : List ℕ → Tree
    -- a component, and whether an `Ignore` matches only bytes that end between UTF-8 characters
    component : Bool → Component → Tree
    -- all trees in sequence
    sequence : Trees → Tree
    -- an optional tree
    optional : Tree → Tree
    -- alternatives: the first tree that matches
    first_of : Trees → Tree

  -- a list of trees
  pub data Trees : Type 0 where
    none : Trees
    more : Tree → Trees → Trees

-- a list of trees, as `Trees`
abbrev pub trees : List Tree → Trees
trees [] = none
trees (t ∷ ts) = more t (trees ts)

-- ---- An item, in terms of other items of its type

-- the tree of a node, given the trees of the items in it
abbrev pub node_tree : {I : Type 0} → (I → Tree) → Node I → Tree
node_tree f (node.Literal text) = literal text.now
node_tree f (node.Component c) = component false c.now
node_tree f (node.WholeComponent c) = component true c.now
node_tree f (node.List items) = sequence (trees (map f items.now))
node_tree f (node.Optional item) = optional (f item.now)
node_tree f (node.First items) = first_of (trees (map f items.now))

-- ---- The tree of each type of description

-- the tree of a borrowed item, given the trees of the items in it
abbrev pub borrowed_step : borrowed.BorrowedFormatItem-F Tree → Tree
borrowed_step (borrowed.Literal x) = literal x.now
borrowed_step (borrowed.StringLiteral x) = literal x.now
borrowed_step (borrowed.Component c) = component false c
borrowed_step (borrowed.Compound xs) = sequence (trees xs.now)
borrowed_step (borrowed.Optional x) = optional x.now
borrowed_step (borrowed.First xs) = first_of (trees xs.now)

-- the tree of a borrowed item
abbrev pub borrowed_shape : BorrowedFormatItem → Tree
borrowed_shape = fold-BorrowedFormatItem Tree borrowed_step

-- the tree of an owned item, given the trees of the items in it
abbrev pub owned_step : owned.OwnedFormatItem-F Tree → Tree
owned_step (owned.Literal x) = literal x.items
owned_step (owned.StringLiteral x) = literal (string_bytes x)
owned_step (owned.Component c) = component false c
owned_step (owned.Compound xs) = sequence (trees xs.items)
owned_step (owned.Optional x) = optional x.value
owned_step (owned.First xs) = first_of (trees xs.items)

-- the tree of an owned item
abbrev pub owned_shape : OwnedFormatItem → Tree
owned_shape = fold-OwnedFormatItem Tree owned_step

-- the tree of a version-3 item, given the trees of the items in it
abbrev pub v3_step : v3.FormatDescriptionV3Inner-F Tree → Tree
v3_step (v3.Component c) = component true c
v3_step (v3.BorrowedLiteral x) = literal x.now
v3_step (v3.BorrowedCompound xs) = sequence (trees xs.now)
v3_step (v3.BorrowedOptional f x) = optional x.now
v3_step (v3.BorrowedFirst xs) = first_of (trees xs.now)
v3_step (v3.OwnedLiteral x) = literal (string_bytes x)
v3_step (v3.OwnedCompound xs) = sequence (trees xs.items)
v3_step (v3.OwnedOptional f x) = optional x.value
v3_step (v3.OwnedFirst xs) = first_of (trees xs.items)

-- the tree of a version-3 item
abbrev pub v3_shape : FormatDescriptionV3Inner → Tree
v3_shape = fold-FormatDescriptionV3Inner Tree v3_step

-- ---- The trees of a row of steps. Every row has a tree: a group that is cut short has the steps that are there.

-- the tree of a group, given the trees in it: an optional group is an optional sequence of them
abbrev pub group_tree : Group → Trees → Tree
group_tree groups.Optional ts = optional (sequence ts)
group_tree groups.First ts = first_of ts
group_tree groups.List ts = sequence ts

-- the bytes of the leading `More` steps, which are the further bytes of a literal
abbrev pub further : List Step → List ℕ
further (step.More b ∷ steps) = b ∷ further steps
further _ = []

-- the tree of a step and of the steps behind it that belong to it, given a function for the trees of fewer steps
abbrev pub tree_at : (List Step → Trees) → Step → List Step → Tree
tree_at trees (step.Literal b) steps = literal (b ∷ further steps)
tree_at trees (step.More b) steps = literal (b ∷ further steps)
tree_at trees (step.Component c) steps = component false c
tree_at trees (step.Group g len) steps = group_tree g (trees (take len steps))

-- how many of the steps behind a step belong to it: the leading `More` steps for a literal, none for a component, and
-- for a group the number stored in it, or all steps behind it if there are fewer
abbrev pub item_length : Step → List Step → ℕ
item_length (step.Literal b) behind = length (further behind)
item_length (step.More b) behind = length (further behind)
item_length (step.Component c) behind = 0
item_length (step.Group g len) behind = min len (length behind)

-- the steps behind a step, without the leading ones that belong to it, which `item_length` counts
abbrev pub steps_after : Step → List Step → List Step
steps_after (step.Literal b) steps = drop (length (further steps)) steps
steps_after (step.More b) steps = drop (length (further steps)) steps
steps_after (step.Component c) steps = steps
steps_after (step.Group g len) steps = drop len steps

-- the trees of a row of steps, in a recursion of at most n levels: complete for up to n steps, perhaps cut for more
unfoldable pub trees_in : ℕ → List Step → Trees
trees_in zero steps = none
trees_in (suc n) [] = none
trees_in (suc n) (s ∷ steps) = more (tree_at (trees_in n) s steps) (trees_in n (steps_after s steps))

-- the trees of a row of steps
abbrev pub steps_trees : List Step → Trees
steps_trees steps = trees_in (length steps) steps

-- the tree of a row of steps: all its items in sequence
abbrev pub steps_shape : List Step → Tree
steps_shape steps = sequence (steps_trees steps)
