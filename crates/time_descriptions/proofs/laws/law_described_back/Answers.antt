use Rattle.std.proofs.Common.{refl, sym, subst}
use Rattle.time_components.specs.Tree.{Tree, sequence}
use Rattle.time_descriptions.specs.declared.leaf.Version.TheVariants as versions
use Rattle.time_descriptions.specs.Grammar.{Describes}
use Rattle.time_descriptions.specs.Items.{items_of, trees_of}
use Rattle.time_descriptions.specs.Writing.{tree_text}
use Rattle.time_descriptions.proofs.Written.{written_back}
use Rattle.time_descriptions.proofs.laws.law_described_back.Goals as goal

pub returns : goal.returns
unfolding Describes
returns c text tree d =
    let t : Tree = sequence (trees_of (items_of d.0)) in
    let P : Tree → Type 0 = λ x. Describes versions.Two (tree_text x) t in
    let back : P t = (d.0, written_back text d.0 d.1, refl) in
    let Q : Tree → Type 0 = λ x. Describes versions.Two (tree_text x) x in
    subst Q (sym d.2) back
