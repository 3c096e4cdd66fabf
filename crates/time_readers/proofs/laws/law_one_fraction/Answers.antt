use Rattle.time_readers.proofs.OneMailDate.{floor-one, round-one}
use Rattle.time_readers.proofs.laws.law_one_fraction.Goals as goal

pub returns : goal.returns
returns c = record { floor = floor-one; rounded = round-one }
