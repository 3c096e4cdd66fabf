use Rattle.std.proofs.Common.{◌≡◌, ℕ, List, Some, ap, ◌∙◌, inl, inr}
use Rattle.std.specs.Prelude.{◌⊎◌}
use Rattle.time_components.specs.Tree.{steps_shape}
use Rattle.time_descriptions.specs.declared.error.Fault.{Fault}
use Rattle.time_descriptions.specs.declared.error.Fault.TheVariants as fault
use Rattle.time_descriptions.specs.Refusal.{Refusal, refusal_at}
use Rattle.time_descriptions.specs.Strftime.{DescribesStrftime, Exceeds, Fits, IsRefusedStrftime, strftime}
use Rattle.time_descriptions.proofs.Shapes.{steps_shape-flat}
use Rattle.time_descriptions.proofs.strftime.parse_strftime.Goals as goal

refused : (n : ℕ) (text : List ℕ) (e : Fault) (r : Refusal)
    → ((e ≡ fault.NoRoom) × Exceeds n text) ⊎ (((strftime text).1 ≡ Some e) × Fits n text) → r ≡ refusal_at text e
    → IsRefusedStrftime n text r
refused n text e r (inl x) q = inl (q ∙ ap (refusal_at text) x.0, x.1)
refused n text e r (inr x) q = inr (e, x.0, q, x.1)

pub returns-in-Ok-clause-ok : goal.returns-in-Ok-clause-ok
unfolding DescribesStrftime
returns-in-Ok-clause-ok g c =
    let had = c.in-Ok.ensures.ok in
    (had.0, ap steps_shape had.1 ∙ steps_shape-flat (strftime c.args.text.now).0)

pub returns-in-Err-clause-err : goal.returns-in-Err-clause-err
returns-in-Err-clause-err g c = refused g.row.N c.args.text.now c.in-Err.fault _ c.in-Err.ensures.err c.at.ensures
