use Rattle.std.proofs.Common.{◌≡◌, ℕ, List, sym, ◌∙◌}
use Rattle.time_components.specs.Tree.{Tree}
use Rattle.time_descriptions.specs.Strftime.{DescribesStrftime}
use Rattle.time_descriptions.proofs.laws.law_one_strftime_description.Goals as goal

one : (text : List ℕ) (a b : Tree) → DescribesStrftime text a → DescribesStrftime text b → a ≡ b
unfolding DescribesStrftime
one text a b x y = x.1 ∙ sym y.1

pub returns : goal.returns
returns c = one
