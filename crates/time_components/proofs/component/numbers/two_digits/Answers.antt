use Rattle.std.proofs.Common.{refl, arith}
use Rattle.time_digits.proofs.Runs.{full_run}
use Rattle.time_components.proofs.component.numbers.two_digits.Goals as goal

pub returns-in-Some : goal.returns-in-Some
returns-in-Some c =
    let found = c.in-Some.ensures in
    (found.0, found.1, full_run c.args.padding 2 2 found.0 c.in-Some.found.0.now c.in-Some.found.1 (omega arith) refl found.2)
