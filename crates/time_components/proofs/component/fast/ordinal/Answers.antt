use Rattle.std.proofs.Common.{refl, ap, arith}
use Rattle.time_components.specs.Spelling.{number}
use Rattle.time_digits.proofs.Runs.{full_run, IsDigitRun-below}
use Rattle.time_components.proofs.component.fast.ordinal.Goals as goal

pub overflow_cast-ordinal : goal.overflow_cast-ordinal
overflow_cast-ordinal c =
    let ordinal = c.in_ok-ordinal.ensures in
    let below = IsDigitRun-below 3 3 ordinal.0 c.in_ok-ordinal.ordinal.0.now c.in_ok-ordinal.ordinal.1 ordinal.2 in
    omega arith

pub returns : goal.returns
returns c =
    let ordinal = c.in_ok-ordinal.ensures in
    let value = c.in_ok-ordinal.ordinal.1 in
    let run = full_run c.args.padding 3 3 ordinal.0 c.in_ok-ordinal.ordinal.0.now value (omega arith) refl ordinal.2 in
    (ordinal.0, ordinal.1, (value, ap number c.in_ok-new.ensures, (run, omega (arith, c.in_ok-new.field-0.ok, c.in_ok-new.ensures))))
