use Rattle.std.proofs.Common.{sym, arith, ◌∙◌}
use Rattle.std.proofs.lemmas.Bool.{true≢false}
use Rattle.memchr.proofs.lemmas.FindLemmas.{Nowhere-more}
use Rattle.restamp_place.proofs.TextLemmas.{begins-stands, stands-begins, stands-first}
use Rattle.restamp_place.proofs.texts.find_within.Goals as goal
use Rattle.restamp_place.proofs.texts.find_within.Goals.{else-bytes-at-via-then-bytes-at+else-begins_with, else-bytes-at-via-else-bytes-at}

pub returns-then-begins_with : goal.returns-then-begins_with
returns-then-begins_with c = (
  record { low = omega arith; high = omega arith; before = c.loop-at.invariant },
  begins-stands c.args.text.now c.args.bytes.now c.loop-at.at _ c.begins_with.ensures (omega arith) c.if-begins_with.true,
)

pub loop-at-preserved : goal.loop-at-preserved
loop-at-preserved c =
    let text = c.args.text.now in
    let bytes = c.args.bytes.now in
    let at = c.loop-at.at in
    Nowhere-more c.loop-at.invariant (λ here. elim c.else-bytes-at.branch [
      | else-bytes-at-via-then-bytes-at+else-begins_with w ↦
          true≢false (sym (stands-begins text bytes at _ w.begins_with.ensures here) ∙ w.if-begins_with.false)
      | else-bytes-at-via-else-bytes-at w ↦ w.if-bytes-at.false (stands-first text bytes at here c.requires.some)
    ])

pub returns : goal.returns
returns c k low high is = c.loop-at.invariant k low (omega arith) is
