use Rattle.std.proofs.Common.{◌≡◌, take, map}
use Rattle.pelzaune_ffi.specs.Described.{step_of}
use Rattle.pelzaune_ffi.proofs.stored.steps_of.Given as goal

abbrev pub invariant-loop-step : goal.invariant-loop-step
invariant-loop-step l = l.steps.items ≡ map step_of (take l.step-index l.stored)
