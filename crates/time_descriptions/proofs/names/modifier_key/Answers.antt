use Rattle.time_descriptions.specs.Values.{modifier_keys}
use Rattle.time_descriptions.proofs.names.modifier_key.Goals as goal

pub returns-in-End : goal.returns-in-End
unfolding modifier_keys
returns-in-End c = rw c.in-End.is c.look_up-in-End.ensures

pub returns-in-Period : goal.returns-in-Period
unfolding modifier_keys
returns-in-Period c = rw c.in-Period.is c.look_up-in-Period.ensures

pub returns-in-UnixTimestamp : goal.returns-in-UnixTimestamp
unfolding modifier_keys
returns-in-UnixTimestamp c = rw c.in-UnixTimestamp.is c.look_up-in-UnixTimestamp.ensures
