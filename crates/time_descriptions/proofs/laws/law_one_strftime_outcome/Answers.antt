use Rattle.std.proofs.Common.{◌≡◌, ℕ, List, Option, Some, None, ap, sym, ◌∙◌, inl, inr, arith}
use Rattle.std.proofs.lemmas.Bool.{false≢true}
use Rattle.std.specs.Prelude.{is_some}
use Rattle.time_components.specs.Tree.{Tree}
use Rattle.time_descriptions.specs.declared.error.Fault.{Fault}
use Rattle.time_descriptions.specs.Refusal.{Refusal, refusal_at}
use Rattle.time_descriptions.specs.Strftime.{DescribesStrftime, Fits, IsRefusedStrftime}
use Rattle.time_descriptions.proofs.laws.law_one_strftime_outcome.Goals as goal

fault_in : Fault → Option Fault → Fault
fault_in e (Some f) = f
fault_in e None = e

one_way : (n : ℕ) (text : List ℕ) (r s : Refusal) → IsRefusedStrftime n text r → IsRefusedStrftime n text s → r ≡ s
unfolding fault_in
one_way n text r s (inl x) (inl y) = x.0 ∙ sym y.0
one_way n text r s (inl x) (inr y) = absurd (omega (arith, x.1, y.3))
one_way n text r s (inr x) (inl y) = absurd (omega (arith, x.3, y.1))
one_way n text r s (inr x) (inr y) =
    x.2 ∙ ap (refusal_at text) (ap (fault_in x.0) (sym x.1 ∙ y.1)) ∙ sym y.2

no_tree : (n : ℕ) (text : List ℕ) (r : Refusal) → IsRefusedStrftime n text r → (tree : Tree) → DescribesStrftime text tree → Fits n text → ⊥
unfolding DescribesStrftime
no_tree n text r (inl x) tree d f = omega (arith, x.1, f)
no_tree n text r (inr x) tree d f = false≢true (ap is_some (sym d.0 ∙ x.1))

pub returns : goal.returns
returns c n text r x = (λ s y. one_way n text r s x y, no_tree n text r x)
