use Rattle.std.proofs.Common.{◌≡◌, ℕ, ◌<◌, pred, take, length, Ok, Err, sym, ◌∙◌, ap, arith, length-drop}
use Rattle.std.proofs.lemmas.Grind.{common_steps}
use Rattle.time_descriptions.specs.Components.{modifier, modifiers}
use Rattle.time_descriptions.proofs.WrittenComponents.{stops, goes, fails, below_pred}
use Rattle.time_descriptions.proofs.component.read_modifiers.Goals as goal

pub returns-then-len-eq0-clause-reads : goal.returns-then-len-eq0-clause-reads
returns-then-len-eq0-clause-reads c =
    let i = c.loop-name.invariant in
    sym i.3 ∙ stops c.args.name c.loop-name.modifiers c.loop-name.rest.now c.after-begun.result.now c.space_len.result
    c.space_len.ensures.count c.after-begun.ensures i.0 c.word_len-len.result i.1 c.word_len-len.ensures.count c.if-len-eq0.true

pub returns-in-Err-clause-reads : goal.returns-in-Err-clause-reads
returns-in-Err-clause-reads c =
    let i = c.loop-name.invariant in
    let some : 0 < c.word_len-len.result = omega arith in
    let e : modifier c.args.name (take c.word_len-len.result c.after-begun.result.now) (length c.after-begun.result.now) ≡ Err c.in-Err.fault = grind
    (arith, common_steps) in
    sym i.3 ∙ fails c.args.name c.loop-name.modifiers c.loop-name.rest.now c.after-begun.result.now c.space_len.result
    c.space_len.ensures.count c.after-begun.ensures i.0 c.word_len-len.result c.in-Err.fault i.1 c.word_len-len.ensures.count some e

pub loop-name-preserved : goal.loop-name-preserved
loop-name-preserved c =
    let i = c.loop-name.invariant in
    let some : 0 < c.word_len-len.result = omega arith in
    let e : modifier c.args.name (take c.word_len-len.result c.after-begun.result.now) (length c.after-begun.result.now) ≡ Ok c.in-Ok.modifier = grind
    (arith, common_steps) in
    let next = goes c.args.name c.loop-name.modifiers c.loop-name.rest.now c.after-begun.result.now c.space_len.result
    c.space_len.ensures.count c.after-begun.ensures i.0 c.word_len-len.result c.in-Ok.modifier i.1 c.word_len-len.ensures.count some e in
    let shorter : length c.after-rest.result.now < length c.loop-name.rest.now =
    omega (arith, ap length c.after-rest.ensures, ap length c.after-begun.ensures, length-drop {A = ℕ}, c.word_len-len.ensures.within) in
    let told : modifiers c.args.name (pred i.0) c.with-modifiers.result c.after-rest.result.now
    ≡ modifiers c.args.name i.0 c.loop-name.modifiers c.loop-name.rest.now = cc (next, c.after-rest.ensures, c.with-modifiers.ensures) in
    (pred i.0, below_pred _ _ i.0 shorter i.1, omega (arith, shorter, i.2), told ∙ i.3)
