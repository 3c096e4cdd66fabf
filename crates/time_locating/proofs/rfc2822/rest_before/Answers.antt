use Rattle.std.proofs.Common.{suc, ◌∷◌, refl, ap, sym, ◌∙◌, subst, arith, None, Some, take, drop, get_or, drop-cons, add-one}
use Rattle.std.proofs.lemmas.List.{get_or-take}
use Rattle.std.proofs.lemmas.Option.{none-some, same_Some}
use Rattle.time_readers.specs.Rfc2822.{places}
use Rattle.time_readers.specs.declared.rfc2822.Place.TheVariants.{WeekdayName}
use Rattle.time_locating.proofs.MailParts.{Reached, Reached-here, Reached-next, Reached-start, rank-below}
use Rattle.time_locating.proofs.rfc2822.rest_before.Goals as goal

pub loop-before-init : goal.loop-before-init
loop-before-init c s = Reached-start c.args.input.now c.args.place s _ (refl, refl)

pub loop-before-preserved : goal.loop-before-preserved
loop-before-preserved c s =
    let i = c.loop-before.before-index in
    let n = c.places_before.result in
    let here = drop-cons places i WeekdayName (omega (arith, rank-below c.args.place))
    ∙ ap (λ x. x ∷ drop (suc i) places) (sym (get_or-take n places i WeekdayName (omega arith))) in
    let step = Reached-next c.args.input.now c.args.place s i c.loop-before.rest.now c.loop-before.passed
    (get_or (take n places) i WeekdayName) (omega arith) here (c.loop-before.invariant s)
    (Some c.in_ok-rest.rest.now) c.past.new.passed c.in_ok-rest.ensures in
    let same = same_Some c.in_ok-rest.rest.now step.0 step.1 in
    subst (λ k. Reached c.args.input.now c.args.place s k c.in_ok-rest.rest.now c.past.new.passed) (sym (add-one i))
    (subst (λ b. Reached c.args.input.now c.args.place s (suc i) b c.past.new.passed) (sym same) step.2)

pub returns-in_err-rest : goal.returns-in_err-rest
returns-in_err-rest c s =
    let i = c.loop-before.before-index in
    let n = c.places_before.result in
    let here = drop-cons places i WeekdayName (omega (arith, rank-below c.args.place))
    ∙ ap (λ x. x ∷ drop (suc i) places) (sym (get_or-take n places i WeekdayName (omega arith))) in
    let step = Reached-next c.args.input.now c.args.place s i c.loop-before.rest.now c.loop-before.passed
    (get_or (take n places) i WeekdayName) (omega arith) here (c.loop-before.invariant s)
    None c.past.new.passed c.in_err-rest.ensures in
    absurd (none-some step.0 step.1)

pub returns : goal.returns
returns c s =
    let same =
    Reached-here c.args.input.now c.args.place s c.loop-before.before-index c.loop-before.rest.now c.loop-before.passed (omega arith)
    (c.loop-before.invariant s) in
    ap Some same
