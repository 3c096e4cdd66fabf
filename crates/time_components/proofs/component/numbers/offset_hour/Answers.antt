use Rattle.std.proofs.Common.{arith}
use Rattle.time_components.proofs.NumberLemmas.{signed_below}
use Rattle.time_components.proofs.component.numbers.offset_hour.Goals as goal

pub returns-in_err-found : goal.returns-in_err-found
returns-in_err-found c = rw c.from_residual.ensures (λ text rest value e s. c.in_err-found.ensures text rest s.0 e s.2)

pub signed_hour-requires : goal.signed_hour-requires
signed_hour-requires c = signed_below c.args.sign_is_mandatory c.args.padding c.args.padding 2 2 2 2 2 c.in_ok-found.ensures.0
    c.in_ok-found.found.0.now (c.in_ok-found.found.1.0, c.in_ok-found.found.1.1) (omega arith) (omega arith) c.in_ok-found.ensures.2
