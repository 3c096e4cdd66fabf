-- Results whose error is what a caller keeps of a reason.
use Rattle.std.proofs.Common.{◌≡◌, Ok, Err, subst, sym, Result}
use Rattle.restamp_formats.specs.{Common.Match, Reason.Satisfies, Reason.Reason, Reason.erased, Reason.seen, declared.reason.Reason.Reason as Whole}

-- A result that satisfies a stronger relation satisfies a weaker one.
pub gives_so : {V E : Type 0} (IsOf : Reason → E → Type 0) {P Q : Result V Reason → Type 0} (result : Result V E)
    → ((given : Result V Reason) → P given → Q given) → Satisfies IsOf P result → Satisfies IsOf Q result
gives_so IsOf (Ok v) f p = f (Ok v) p
gives_so IsOf (Err e) f p = (p.0, p.1, f (Err p.0) p.2)

-- If all of a reason is kept, the result with its reason erased satisfies the relation.
pub of_reason : (P : Result Match Reason → Type 0) (result : Result Match Whole)
    → Satisfies (λ reason kept. seen kept ≡ reason) P result → P (erased result)
of_reason P (Ok found) p = p
of_reason P (Err e) p = subst (λ (why : Reason). P (Err why)) (sym p.1) p.2
