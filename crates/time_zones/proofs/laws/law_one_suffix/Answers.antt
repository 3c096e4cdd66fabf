use Rattle.time_zones.proofs.LongestLemmas.{suffix_once}
use Rattle.time_zones.proofs.laws.law_one_suffix.Goals as goal

pub returns : goal.returns
returns c = suffix_once
