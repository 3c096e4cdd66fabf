use Rattle.std.proofs.Common.{◌≡◌, ◌+◌, None, Some, refl, sym, ◌∙◌, subst, true, false, arith, drop, get_or}
use Rattle.std.proofs.lemmas.List.{drop_all}
use Rattle.std.proofs.lemmas.Option.{none-some, same_Some}
use Rattle.time_readers.specs.Rfc3339.{PlaceSyntax, fault, nothing_read, places}
use Rattle.time_readers.specs.declared.rfc3339.Place.TheVariants.{Year}
use Rattle.time_locating.specs.Marks.{at_once, is_place_of}
use Rattle.time_locating.proofs.Rfc3339Places.{InUtc}
use Rattle.time_locating.proofs.WholeTexts.{Left, Left-at, Left-end, Left-start}
use Rattle.time_locating.proofs.rfc3339.mark_of_place.Goals as goal

pub loop-place-init : goal.loop-place-init
loop-place-init c rest n form =
    Left-start (PlaceSyntax true) at_once fault c.args.name.now InUtc places nothing_read c.args.input.now rest n _ form refl

pub loop-place-preserved : goal.loop-place-preserved
loop-place-preserved c rest n form =
    let i = c.loop-place.place-index in
    let step = Left-at (PlaceSyntax true) at_once fault c.args.name.now InUtc places nothing_read c.args.input.now i Year c.loop-place.rest.now
    c.loop-place.is_utc (omega arith) (c.loop-place.invariant rest n form) (Some c.in_ok-after.after.now) c.past.new.is_utc
    c.in_ok-after.ensures in
    let same = sym (same_Some c.in_ok-after.after.now step.mid step.is) in
    let other = sym (rw c.place_fault.ensures at c.is_place_of.ensures) ∙ c.if-is_place_of.false in
    let passed = subst (λ b. is_place_of c.args.name.now (fault (get_or places i Year)) c.loop-place.rest.now b ≡ false) (sym same) other in
    subst (λ b. Left (PlaceSyntax true) at_once fault c.args.name.now InUtc places nothing_read c.args.input.now (drop (i + 1) places) b c.past.new.is_utc)
    same (step.past passed)

pub returns-then-is_place_of : goal.returns-then-is_place_of
returns-then-is_place_of c rest n form =
    let i = c.loop-place.place-index in
    let step = Left-at (PlaceSyntax true) at_once fault c.args.name.now InUtc places nothing_read c.args.input.now i Year c.loop-place.rest.now
    c.loop-place.is_utc (omega arith) (c.loop-place.invariant rest n form) (Some c.in_ok-after.after.now) c.past.new.is_utc
    c.in_ok-after.ensures in
    let same = same_Some c.in_ok-after.after.now step.mid step.is in
    let here = sym (rw c.place_fault.ensures at c.is_place_of.ensures) ∙ c.if-is_place_of.true in
    step.here (subst (λ b. is_place_of c.args.name.now (fault (get_or places i Year)) c.loop-place.rest.now b ≡ true) same here)

pub returns-in_err-after : goal.returns-in_err-after
returns-in_err-after c rest n form =
    let step = Left-at (PlaceSyntax true) at_once fault c.args.name.now InUtc places nothing_read c.args.input.now c.loop-place.place-index Year
    c.loop-place.rest.now c.loop-place.is_utc (omega arith) (c.loop-place.invariant rest n form) None c.past.new.is_utc
    c.in_err-after.ensures in
    absurd (none-some step.mid step.is)

pub returns : goal.returns
returns c rest n form =
    Left-end (PlaceSyntax true) at_once fault c.args.name.now InUtc places nothing_read c.args.input.now (drop c.loop-place.place-index places)
    c.loop-place.rest.now c.loop-place.is_utc (drop_all c.loop-place.place-index places (omega arith))
    (c.loop-place.invariant rest n form)
