use Rattle.std.proofs.Common.{ap, sym}
use Rattle.time_descriptions.proofs.WrittenComponents.{ignored_of}
use Rattle.pelzaune_ffi.specs.Described.{skipping}
use Rattle.pelzaune_ffi.proofs.steps.skipping.Goals as goal

pub returns-in-Some : goal.returns-in-Some
returns-in-Some c = sym (ap skipping (ignored_of (record { count = c.in-Some.count }) c.args.count c.in-Some.ensures))
