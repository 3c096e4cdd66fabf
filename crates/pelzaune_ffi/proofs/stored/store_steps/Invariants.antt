use Rattle.std.proofs.Common.{◌≡◌, take, map}
use Rattle.pelzaune_ffi.specs.Described.{step_of}
use Rattle.pelzaune_ffi.proofs.stored.store_steps.Given as goal

abbrev pub invariant-loop-index : goal.invariant-loop-index
invariant-loop-index l = map step_of (take l.index l.stored.steps) ≡ take l.index l.steps
