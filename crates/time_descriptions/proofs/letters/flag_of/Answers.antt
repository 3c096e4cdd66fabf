use Rattle.time_descriptions.specs.Strftime.{flags}
use Rattle.time_descriptions.proofs.letters.flag_of.Goals as goal

pub returns : goal.returns
unfolding flags
returns c = c.row_of.ensures
