use Rattle.std.proofs.Common.{refl}
use Rattle.time_parsing.specs.Iso8601.{time_over}
use Rattle.time_parsing.proofs.iso8601.time_over.Goals as goal

pub returns-in_err-found : goal.returns-in_err-found
unfolding time_over
returns-in_err-found c = rw c.from_residual.ensures (rw c.in_err-found.ensures refl, refl)

pub returns-in_err-put_time : goal.returns-in_err-put_time
unfolding time_over
returns-in_err-put_time c =
    rw c.from_residual-in_err-put_time.ensures (rw (c.in_ok-found.ensures, c.in_err-put_time.ensures.0) refl, c.in_err-put_time.ensures.1)

pub returns : goal.returns
unfolding time_over
returns c = rw (c.in_ok-found.ensures, c.in_ok-put_time.ensures) refl
