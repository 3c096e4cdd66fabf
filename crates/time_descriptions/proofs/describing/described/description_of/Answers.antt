use Rattle.std.proofs.Common.{ℕ, List, subst, sym}
use Rattle.time_descriptions.specs.declared.leaf.Version.TheVariants as versions
use Rattle.time_descriptions.specs.Description.{shape}
use Rattle.time_descriptions.specs.Grammar.{Describes}
use Rattle.time_descriptions.specs.Refusal.{refusal_of}
use Rattle.time_descriptions.proofs.OneTree.{not_refused, one_tree_of}
use Rattle.time_descriptions.proofs.describing.described.description_of.Goals as goal

pub returns-in-Ok-parse_borrowed-clause-ok : goal.returns-in-Ok-parse_borrowed-clause-ok
returns-in-Ok-parse_borrowed-clause-ok g c =
    let tree = g.I.Inspect.shape c.args.item.now in
    let P : List ℕ → Type 0 = λ x. Describes versions.Two x (g.I.Inspect.shape c.args.item.now) in
    let d : P c.as_bytes.result.now = subst P (sym c.as_bytes.ensures.value) c.in-Ok.ensures.ok.1 in
    one_tree_of versions.Two c.as_bytes.result.now (shape c.in-Ok-parse_borrowed.description) tree c.in-Ok-parse_borrowed.ensures.ok d

pub returns-in-Err-parse_borrowed-clause-err : goal.returns-in-Err-parse_borrowed-clause-err
returns-in-Err-parse_borrowed-clause-err g c =
    let tree = g.I.Inspect.shape c.args.item.now in
    let P : List ℕ → Type 0 = λ x. Describes versions.Two x (g.I.Inspect.shape c.args.item.now) in
    let d : P c.as_bytes.result.now = subst P (sym c.as_bytes.ensures.value) c.in-Ok.ensures.ok.1 in
    λ h. not_refused g.row.N versions.Two c.as_bytes.result.now (refusal_of c.in-Err-parse_borrowed.field-0) tree d c.as_bytes.ensures.fits
    c.in-Err-parse_borrowed.ensures.err
