use Rattle.std.proofs.Common.{length}
use Rattle.time_components.proofs.NameLemmas.{IsBegun}
use Rattle.time_components.proofs.component.fast.short_fraction.Given as goal

abbrev pub invariant-loop-rest : goal.invariant-loop-rest
invariant-loop-rest l = IsBegun l.input l.rest l.unit l.nanoseconds

abbrev pub decreases-loop-rest : goal.decreases-loop-rest
decreases-loop-rest l = length l.rest
