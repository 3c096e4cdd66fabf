use Rattle.std.proofs.Common.{◌≡◌, ◌++◌, ◌∙◌, ℕ, List, false, true, ap, arith, length, subst, sym}
use Rattle.std.proofs.lemmas.Bool.{false≢true}
use Rattle.time_descriptions.specs.declared.leaf.Version.TheVariants as versions
use Rattle.time_descriptions.specs.Grammar.{Describes}
use Rattle.time_descriptions.specs.Writing.{tree_text}
use Rattle.time_descriptions.specs.Described.{is_described}
use Rattle.time_descriptions.proofs.OneTree.{described_by_text}
use Rattle.time_descriptions.proofs.ReadDescribed.{read_is_described}
use Rattle.time_descriptions.proofs.describing.described.text_of.Goals as goal

pub returns-then-not-is_described-clause-err : goal.returns-then-not-is_described-clause-err
returns-then-not-is_described-clause-err g c =
    let e : false ≡ is_described (g.I.Inspect.shape c.args.item.now) = cc in
    λ h. false≢true (e ∙ read_is_described h.0 (g.I.Inspect.shape c.args.item.now) h.1)

pub returns-in-Ok-clause-ok : goal.returns-in-Ok-clause-ok
returns-in-Ok-clause-ok g c =
    let tree = g.I.Inspect.shape c.args.item.now in
    let d : is_described (g.I.Inspect.shape c.args.item.now) ≡ true = cc in
    let P : List ℕ → Type 0 = λ x. Describes versions.Two x (g.I.Inspect.shape c.args.item.now) in
    let e : c.put_item.new.text.bytes.items ≡ tree_text (g.I.Inspect.shape c.args.item.now) =
    c.in-Ok.ensures ∙ ap (λ (x : List ℕ). x ++ tree_text (g.I.Inspect.shape c.args.item.now)) c.new-text.ensures in
    (e, subst P (sym e) (described_by_text tree d))

pub returns-in-Err-clause-err : goal.returns-in-Err-clause-err
returns-in-Err-clause-err g c =
    let tree = g.I.Inspect.shape c.args.item.now in
    let d : is_described (g.I.Inspect.shape c.args.item.now) ≡ true = cc in
    ((tree_text tree, described_by_text tree d), omega (arith, c.in-Err.ensures, ap length c.new-text.ensures))
