use Rattle.time_locating.specs.exact.PlaceLaws.{Misses-one}
use Rattle.time_locating.proofs.MissLemmas.{furthest_leaves_fewest, own_miss_first}
use Rattle.time_locating.proofs.laws.law_misses.Goals as goal

pub returns-clause-one : goal.returns-clause-one
returns-clause-one c = Misses-one

pub returns-clause-own : goal.returns-clause-own
returns-clause-own c = own_miss_first

pub returns-clause-furthest : goal.returns-clause-furthest
returns-clause-furthest c = furthest_leaves_fewest
