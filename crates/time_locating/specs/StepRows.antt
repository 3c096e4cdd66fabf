-- No public contract rests on this file.
--
-- The steps of one item at the front of a row of steps.
use Rattle.std.specs.Prelude.{◌≡◌, ◌≤◌, ◌<◌, List, length}
use Rattle.time_components.specs.Tree.{steps_trees, Tree, none, more}
use Rattle.time_components.specs.declared.inspect.Step.{Step}

-- The only tree of `item` is `tree`, that of the first item of `steps`. `after` has the trees of the items after it.
pub record IsSplit (steps item after : List Step) : Type 0 where
  pub tree : Tree
  pub alone : steps_trees item ≡ more tree none
  pub all : steps_trees steps ≡ more tree (steps_trees after)
  pub within : length item ≤ length steps
  pub fewer : length after < length steps
