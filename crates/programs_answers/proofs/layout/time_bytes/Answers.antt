use Rattle.std.proofs.Common.{refl}
use Rattle.time_values.specs.DisplayTexts.{fixed}
use Rattle.programs_answers.proofs.layout.time_bytes.Goals as goal

pub returns : goal.returns
unfolding fixed
returns c = rw (c.pair.ensures, c.pair-2.ensures, c.pair-3.ensures, c.nine.ensures) refl
