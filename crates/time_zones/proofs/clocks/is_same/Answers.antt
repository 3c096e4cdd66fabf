use Rattle.std.proofs.Common.{◌≡◌, ℤ, IsTrue, nat_eq, FitsSigned, to_z, of_z, w32, sym, ap, ◌∙◌, arith, rules}
use Rattle.std.proofs.lemmas.Bool.Decides.{nat_tests}
use Rattle.std.proofs.lemmas.Int.{to_z-of_z}
use Rattle.time_zones.proofs.clocks.is_same.Goals as goal

same_words : (a b x y : ℤ) → FitsSigned w32 a → FitsSigned w32 b → a ≡ x → b ≡ y
    → (IsTrue (nat_eq (of_z w32 a) (of_z w32 b)) → x ≡ y) × (x ≡ y → IsTrue (nat_eq (of_z w32 a) (of_z w32 b)))
same_words a b x y fits fits' p q = (
  λ t. let e : of_z w32 a ≡ of_z w32 b = grind (arith, nat_tests) in sym p ∙ sym (to_z-of_z w32 a fits) ∙ ap (to_z w32) e ∙ to_z-of_z w32 b fits' ∙ q,
  λ e. let same = ap (of_z w32) (p ∙ e ∙ sym q) in grind (arith, nat_tests),
)

pub returns : goal.returns
returns c =
    let a = c.whole_seconds.result in
    let b = c.whole_seconds-2.result in
    let fits : FitsSigned w32 a = search rules in
    let fits' : FitsSigned w32 b = search rules in
    same_words a b _ _ fits fits' c.whole_seconds.ensures.value c.whole_seconds-2.ensures.value
