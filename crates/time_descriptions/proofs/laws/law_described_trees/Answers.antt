use Rattle.time_descriptions.specs.Writing.{tree_text}
use Rattle.time_descriptions.proofs.OneTree.{described_by_text}
use Rattle.time_descriptions.proofs.ReadDescribed.{read_is_described}
use Rattle.time_descriptions.proofs.laws.law_described_trees.Goals as goal

pub returns : goal.returns
returns c tree = (λ e. (tree_text tree, described_by_text tree e), λ h. read_is_described h.0 tree h.1)
