use Rattle.std.proofs.Common.{Ok, refl}
use Rattle.pelzaune_ffi.proofs.moments.moment_8601.Goals as goal

pub returns-in-Some : goal.returns-in-Some
returns-in-Some g c = (Ok c.in-Some.value, c.in-Some.ensures, (refl, c.from.ensures))
