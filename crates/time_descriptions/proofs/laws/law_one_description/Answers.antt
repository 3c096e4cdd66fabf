use Rattle.std.proofs.Common.{◌≡◌, ℕ, List, [], Ok, Err, ap, sym, ◌∙◌}
use Rattle.time_components.specs.Tree.{Tree, sequence}
use Rattle.time_descriptions.specs.declared.leaf.Version.{Version}
use Rattle.time_descriptions.specs.Components.{Read}
use Rattle.time_descriptions.specs.Grammar.{Describes}
use Rattle.time_descriptions.specs.Items.{Item, items_of, trees_of}
use Rattle.time_descriptions.proofs.laws.law_one_description.Goals as goal

items_in : Read (List Item) → List Item
items_in (Ok x) = x.0
items_in (Err e) = []

one : (version : Version) (text : List ℕ) (a b : Tree) → Describes version text a → Describes version text b → a ≡ b
unfolding Describes items_in
one version text a b x y =
    x.2 ∙ ap (λ (is : List Item). sequence (trees_of (items_of is))) (ap items_in (sym x.1 ∙ y.1)) ∙ sym y.2

pub returns : goal.returns
returns c = one
