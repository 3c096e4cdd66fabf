use Rattle.time_descriptions.specs.Strftime.{components}
use Rattle.time_descriptions.proofs.letters.component_of_letter.Goals as goal

pub returns : goal.returns
unfolding components
returns c = c.row_of.ensures
