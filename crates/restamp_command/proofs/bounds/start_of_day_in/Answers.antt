use Rattle.std.proofs.Common.{◌≡◌, FitsSigned, Some, None, Ok, Err, arith, refl, rules}
use Rattle.std.proofs.lemmas.Int.{ints, to_z-of_z}
use Rattle.std.specs.Int.{w128}
use Rattle.restamp_formats.specs.Reason.{seen}
use Rattle.restamp_command.specs.Fault.{erased_time_error}
use Rattle.restamp_command.proofs.bounds.start_of_day_in.Goals as goal

pub returns-in_default : goal.returns-in_default
returns-in_default c = (c.from.result, c.from.ensures.0, None, rw c.in_default.is at c.show.ensures, refl)

pub returns-in-Ok : goal.returns-in-Ok
returns-in-Ok c =
    let fits : FitsSigned w128 c.midnight_at.result = omega (arith, ints, c.midnight_at.ensures.range) in
    let at = rw (to_z-of_z w128 c.midnight_at.result fits, c.midnight_at.ensures.value, c.offset.ensures)
    at (rw c.in_ok-begin.was at c.moment_at.ensures) in
    let shown = rw c.in-Some.is at c.show.ensures in
    (c.from.result, c.from.ensures.0, Some c.in-Some.shown, shown, (Ok c.in_ok-begin.begin, at, (Ok c.in-Ok.first, c.in-Ok.ensures, refl)))

pub returns-in-Err : goal.returns-in-Err
returns-in-Err c =
    let fits : FitsSigned w128 c.midnight_at.result = omega (arith, ints, c.midnight_at.ensures.range) in
    let at = rw (to_z-of_z w128 c.midnight_at.result fits, c.midnight_at.ensures.value, c.offset.ensures)
    at (rw c.in_ok-begin.was at c.moment_at.ensures) in
    let shown = rw c.in-Some.is at c.show.ensures in (
      c.from.result,
      c.from.ensures.0,
      Some c.in-Some.shown,
      shown,
      (Ok c.in_ok-begin.begin, at, (Err (seen c.in-Err.why), c.in-Err.ensures, refl)),
    )

pub returns-in_err-begin : goal.returns-in_err-begin
returns-in_err-begin c =
    let fits : FitsSigned w128 c.midnight_at.result = omega (arith, ints, c.midnight_at.ensures.range) in
    let at = rw (to_z-of_z w128 c.midnight_at.result fits, c.midnight_at.ensures.value, c.offset.ensures)
    at (rw c.in_err-begin.was at c.moment_at.ensures) in
    let handed : c.from_residual.result ≡ Err c.in_err-begin.field-0.0 = search rules in
    let shown = rw c.in-Some.is at c.show.ensures in
    rw handed (c.from.result, c.from.ensures.0, Some c.in-Some.shown, shown, (Err (erased_time_error c.in_err-begin.field-0.0), at, refl))
