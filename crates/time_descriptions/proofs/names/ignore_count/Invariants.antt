use Rattle.std.proofs.Common.{◌≡◌, ◌<◌, length}
use Rattle.time_descriptions.specs.Values.{count_on}
use Rattle.time_descriptions.proofs.names.ignore_count.Given as goal

abbrev pub invariant-loop-rest : goal.invariant-loop-rest
invariant-loop-rest l = record {
  small : l.value < 65536;
  told : count_on l.value l.rest ≡ count_on 0 l.digits;
}

abbrev pub decreases-loop-rest : goal.decreases-loop-rest
decreases-loop-rest l = length l.rest
