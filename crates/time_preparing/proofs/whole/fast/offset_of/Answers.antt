use Rattle.std.proofs.Common.{◌∙◌, ap, w8, arith}
use Rattle.std.specs.Prelude.{FitsSigned}
use Rattle.std.proofs.lemmas.Int.{ints, to_z-of_z}
use Rattle.time_values.specs.Sign.{signed_by}
use Rattle.time_preparing.specs.Whole.{IsOf}
use Rattle.time_preparing.proofs.whole.fast.offset_of.Goals as goal

pub returns-in-Ok : goal.returns-in-Ok
returns-in-Ok c =
    let n = c.in_ok-numbers.numbers in
    let within = c.in_ok-numbers.ensures.within in
    let fits : FitsSigned w8 n.minute = rw within.2 (omega (arith, ints, within.1)) in
    let minute = to_z-of_z w8 n.minute fits in
    let turned_fits : FitsSigned w8 c.signed-minute.result = omega (arith, ints) in
    let turned = to_z-of_z w8 c.signed-minute.result turned_fits ∙ c.signed-minute.ensures ∙ ap (signed_by n.is_negative) minute in
    let of : IsOf n c.in-Ok.offset = rw (to_z-of_z w8 n.hour c.in_ok-numbers.ensures.fits, turned) at c.in-Ok.ensures in
    (n, of, c.in_ok-numbers.ensures.reads)
