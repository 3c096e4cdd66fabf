use Rattle.std.proofs.Common.{refl}
use Rattle.restamp_formats.specs.Common.{fixed}
use Rattle.restamp_formats.proofs.reason.pair.Goals as goal

pub returns : goal.returns
unfolding fixed
returns c = refl
