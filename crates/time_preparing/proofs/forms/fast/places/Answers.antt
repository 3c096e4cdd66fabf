use Rattle.std.proofs.Common.{refl, arith}
use Rattle.time_digits.proofs.Runs.{full_run}
use Rattle.time_preparing.proofs.forms.fast.places.Goals as goal

pub returns-in-Some : goal.returns-in-Some
returns-in-Some c =
    let pair = c.in-Some.ensures in
    (pair.0, pair.1, full_run c.args.padding 2 2 pair.0 c.in-Some.found.0.now c.in-Some.found.1 (omega arith) refl pair.2)
