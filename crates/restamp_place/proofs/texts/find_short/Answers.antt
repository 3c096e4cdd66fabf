use Rattle.std.proofs.Common.{◌+◌, sym, arith, ◌∙◌}
use Rattle.std.proofs.lemmas.Bool.{true≢false}
use Rattle.memchr.proofs.lemmas.FindLemmas.{Nowhere-then, Nowhere-more}
use Rattle.restamp_place.proofs.TextLemmas.{begins-stands, stands-begins, first_further}
use Rattle.restamp_place.proofs.texts.find_short.Goals as goal

pub returns-then-begins_with : goal.returns-then-begins_with
returns-then-begins_with c =
    let at = c.loop-at.at + c.first_in_block-before.result in (
      record { low = omega arith; high = omega arith; before = Nowhere-then c.loop-at.invariant.1 c.first_in_block-before.ensures.passed },
      begins-stands c.args.text.now c.args.bytes.now at _ c.begins_with.ensures (omega arith) c.if-begins_with.true,
    )

pub loop-at-preserved-then-before-lt-BLOCK : goal.loop-at-preserved-then-before-lt-BLOCK
loop-at-preserved-then-before-lt-BLOCK c =
    let at = c.loop-at.at + c.first_in_block-before.result in (
      omega arith,
      Nowhere-more (Nowhere-then c.loop-at.invariant.1 c.first_in_block-before.ensures.passed) (λ here. true≢false
          (sym (stands-begins c.args.text.now c.args.bytes.now at _ c.begins_with.ensures here) ∙ c.if-begins_with.false)),
    )

pub loop-at-preserved : goal.loop-at-preserved
loop-at-preserved c = (omega arith, Nowhere-then c.loop-at.invariant.1 c.first_in_block-before.ensures.passed)

pub returns : goal.returns
returns c =
    first_further c.args.text.now c.args.bytes.now 0 c.loop-at.at _ _ _ c.loop-at.invariant.1 c.find_last.ensures (omega arith) (omega arith) (omega arith)
