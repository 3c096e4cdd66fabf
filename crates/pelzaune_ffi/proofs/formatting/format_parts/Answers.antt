use Rattle.pelzaune_ffi.specs.Results.{HasMoment, moment_refusal}
use Rattle.pelzaune_ffi.proofs.IsoInPlace.{Constructs-made, Constructs-property}
use Rattle.pelzaune_ffi.proofs.formatting.format_parts.Goals as goal

pub returns-in-Ok : goal.returns-in-Ok
returns-in-Ok c =
    let s = c.args.parts.now in
    let v = c.in-Ok.value in
    rw (Constructs-made (moment_refusal s) (λ v. HasMoment v s) v c.in-Ok.ensures)
    (v, Constructs-property (moment_refusal s) (λ v. HasMoment v s) v c.in-Ok.ensures, c.format_value.ensures)
