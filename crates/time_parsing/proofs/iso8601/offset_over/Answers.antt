use Rattle.std.proofs.Common.{refl}
use Rattle.time_parsing.specs.Iso8601.{offset_over}
use Rattle.time_parsing.proofs.iso8601.offset_over.Goals as goal

pub returns-in_err-found : goal.returns-in_err-found
unfolding offset_over
returns-in_err-found c = rw c.from_residual.ensures (rw c.in_err-found.ensures refl, refl)

pub returns-in_err-put_offset : goal.returns-in_err-put_offset
unfolding offset_over
returns-in_err-put_offset c =
    rw c.from_residual-in_err-put_offset.ensures (rw (c.in_ok-found.ensures, c.in_err-put_offset.ensures.0) refl, c.in_err-put_offset.ensures.1)

pub returns : goal.returns
unfolding offset_over
returns c = rw (c.in_ok-found.ensures, c.in_ok-put_offset.ensures) refl
