use Rattle.std.proofs.Common.{◌≡◌, false, ◌<◌, ◌≤◌, ◌+◌, ◌-◌, sym, ap, arith, ⊎_elim, ◌∙◌}
use Rattle.std.proofs.lemmas.Bool.{cases_lt}
use Rattle.restamp_lines.specs.Begins.{may_begin}
use Rattle.restamp_lines.proofs.anywhere.fast.first_within.Goals as goal
use Rattle.restamp_lines.proofs.anywhere.fast.first_within.Goals.{then-may_begin, else-may_begin, then-here-first, else-here-first}

pub loop-k-preserved : goal.loop-k-preserved
loop-k-preserved c =
    let least : (c.if-here-first.first ≤ c.loop-k.first) × (c.if-here-first.first ≤ c.if-may_begin.here) =
    elim c.if-here-first.branch [ then-here-first w ↦ (omega arith, omega arith) | else-here-first w ↦ (omega arith, omega arith) ] in
    let here : c.loop-k.k < c.if-here-first.first → may_begin c.args.firsts c.args.line.now (c.args.from + c.loop-k.k) ≡ false =
    λ under. elim c.if-may_begin.branch [ then-may_begin w ↦ absurd (omega arith) | else-may_begin w ↦ sym c.may_begin.ensures ∙ w.if-may_begin.false ] in (
      omega arith,
      λ j below under. ⊎_elim (λ h. c.loop-k.invariant.1 j h (omega arith))
          (λ h. let same : j ≡ c.loop-k.k = omega arith in rw same (here (omega arith))) (cases_lt j c.loop-k.k),
    )

pub returns-clause-passed : goal.returns-clause-passed
returns-clause-passed c k low below =
    let there : k ≡ c.args.from + (k - c.args.from) = omega arith in
    ap (may_begin c.args.firsts c.args.line.now) there ∙ c.loop-k.invariant.1 (k - c.args.from) (omega arith) (omega arith)
