use Rattle.std.proofs.Common.{◌≡◌, ℕ, List, Ok, Err, ap, sym, ◌∙◌, inl, inr, arith}
use Rattle.std.proofs.lemmas.Bool.{false≢true}
use Rattle.std.specs.Prelude.{is_ok}
use Rattle.time_components.specs.Tree.{Tree}
use Rattle.time_descriptions.specs.declared.error.Fault.{Fault}
use Rattle.time_descriptions.specs.declared.leaf.Version.{Version}
use Rattle.time_descriptions.specs.Components.{Read}
use Rattle.time_descriptions.specs.Grammar.{StartsAtMost, Describes}
use Rattle.time_descriptions.specs.Description.{IsRefused}
use Rattle.time_descriptions.specs.Items.{Item}
use Rattle.time_descriptions.specs.Refusal.{Refusal, refusal_at}
use Rattle.time_descriptions.proofs.laws.law_one_outcome.Goals as goal

fault_in : Fault → Read (List Item) → Fault
fault_in e (Ok x) = e
fault_in e (Err f) = f

one_way : (n : ℕ) (version : Version) (text : List ℕ) (r s : Refusal) → IsRefused n version text r → IsRefused n version text s → r ≡ s
unfolding fault_in
one_way n version text r s (inl x) (inl y) = x.0 ∙ sym y.0
one_way n version text r s (inl x) (inr y) = absurd (omega (arith, x.2, y.3))
one_way n version text r s (inr x) (inl y) = absurd (omega (arith, x.3, y.2))
one_way n version text r s (inr x) (inr y) = x.2 ∙ ap (refusal_at text) (ap (fault_in x.0) (sym x.1 ∙ y.1)) ∙ sym y.2

no_tree : (n : ℕ) (version : Version) (text : List ℕ) (r : Refusal) → IsRefused n version text r → (tree : Tree)
    → Describes version text tree → StartsAtMost n version text → ⊥
unfolding Describes
no_tree n version text r (inl x) tree d f = omega (arith, x.2, f)
no_tree n version text r (inr x) tree d f = false≢true (ap is_ok (sym x.1 ∙ d.1))

pub returns : goal.returns
returns c n version text r x = (λ s y. one_way n version text r s x y, no_tree n version text r x)
