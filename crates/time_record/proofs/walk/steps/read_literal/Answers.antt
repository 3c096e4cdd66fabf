use Rattle.std.proofs.Common.{◌∷◌, refl, sym, arith}
use Rattle.time_components.specs.Tree.{further}
use Rattle.time_record.proofs.ComponentLemmas.{reads_literal, refuses_literal, Strips-more, Strips-other, Strips-start}
use Rattle.time_record.proofs.walk.steps.read_literal.Goals as goal

pub returns-in-Some : goal.returns-in-Some
returns-in-Some c = λ r.
    let fs = further c.args.steps.now in
    let all = c.args.first ∷ fs in
    let b = c.args.input.now in
    let strips = Strips-more all b all b c.args.first fs (Strips-start all b) refl (omega arith) (cc) in
    reads_literal _ all b r _ (strips.whole _ c.in-Some.ensures)

pub returns-in-None : goal.returns-in-None
returns-in-None c = λ r.
    let fs = further c.args.steps.now in
    let all = c.args.first ∷ fs in
    let b = c.args.input.now in
    let strips = Strips-more all b all b c.args.first fs (Strips-start all b) refl (omega arith) (cc) in
    (refuses_literal _ all b r (λ x h. c.in-None.ensures x (strips.part x h)), refl)

pub returns-in_default : goal.returns-in_default
returns-in_default c = λ r.
    let fs = further c.args.steps.now in
    let all = c.args.first ∷ fs in
    let b = c.args.input.now in
    (refuses_literal _ all b r (Strips-other all b all b c.args.first fs (Strips-start all b) refl (λ h e. absurd (omega arith))), refl)

pub returns-then-found-first : goal.returns-then-found-first
returns-then-found-first c = λ r.
    let fs = further c.args.steps.now in
    let all = c.args.first ∷ fs in
    let b = c.args.input.now in
    (refuses_literal _ all b r (Strips-other all b all b c.args.first fs (Strips-start all b) refl (λ h e. c.if-found-first.true (sym e))), refl)
