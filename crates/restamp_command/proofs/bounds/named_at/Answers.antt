use Rattle.std.proofs.Common.{FitsSigned}
use Rattle.std.proofs.lemmas.Int.{to_z-of_z}
use Rattle.std.specs.Int.{w128}
use Rattle.restamp_command.proofs.bounds.named_at.Goals as goal

pub returns : goal.returns
returns c =
    let fits : FitsSigned w128 c.nanos_of.result = c.nanos_of.ensures.fits in
    (c.day_offset.result, c.day_offset.ensures, rw c.nanos_of.ensures.value at (simp to_z-of_z at c.moment_at.ensures))
