use Rattle.std.proofs.Common.{◌≡◌, ◌&&◌, ℕ, Bool, cond, eqb, ap, ◌∙◌, true}
use Rattle.time_record.specs.Cells.{bit}
use Rattle.time_record.specs.CellAnswers.{changed, holds}
use Rattle.time_record.specs.Inverse.{record_of}
use Rattle.time_record.proofs.CellLemmas.{bit_holds, three_set}
use Rattle.time_record.proofs.parsed.Parsed.has.Goals as goal

pub returns : goal.returns
unfolding record_of
returns c =
    let self = c.self.inside in
    let cells = c.with_bit-cells.result in
    let first = c.args.first in
    let second = c.args.second in
    let third = c.args.third in
    let bits : (i : ℕ) → bit cells i ≡ changed (changed (changed (bit 0) first true) second true) third true i =
    λ i. c.with_bit-cells.ensures.bits i
    ∙ ap (λ (b : Bool). cond (eqb i third) true b) (c.with_bit-2.ensures.bits i
    ∙ ap (λ (b : Bool). cond (eqb i second) true b) (c.with_bit.ensures.bits i)) in
    let a : bit self.mask first ≡ holds c.args.self.now first =
    bit_holds self.mask self.bytes self.shorts self.words self.stamp _ first c.requires.first c.self.view_is in
    let b : bit self.mask second ≡ holds c.args.self.now second =
    bit_holds self.mask self.bytes self.shorts self.words self.stamp _ second c.requires.second c.self.view_is in
    let d : bit self.mask third ≡ holds c.args.self.now third =
    bit_holds self.mask self.bytes self.shorts self.words self.stamp _ third c.requires.third c.self.view_is in
    three_set self.mask cells first second third bits ∙ (λ j. a j && (b j && d j))
