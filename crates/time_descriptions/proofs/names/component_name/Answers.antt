use Rattle.time_descriptions.specs.Values.{component_names}
use Rattle.time_descriptions.proofs.names.component_name.Goals as goal

pub returns : goal.returns
unfolding component_names
returns c = c.look_up.ensures
