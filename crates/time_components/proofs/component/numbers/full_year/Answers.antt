use Rattle.std.proofs.Common.{arith}
use Rattle.time_components.proofs.NumberLemmas.{signed_below}
use Rattle.time_components.proofs.component.numbers.full_year.Goals as goal

pub returns-in_err-found : goal.returns-in_err-found
returns-in_err-found g c = rw c.from_residual.ensures (λ text rest value e s. c.in_err-found.ensures text rest s.0 e s.2)

pub signed_year-requires : goal.signed_year-requires
signed_year-requires g c = signed_below c.args.sign_is_mandatory c.args.padding c.args.padding 4 g.row.MOST 4 4 6 c.in_ok-found.ensures.0
    c.in_ok-found.found.0.now (c.in_ok-found.found.1.0, c.in_ok-found.found.1.1) c.requires.most (omega arith) c.in_ok-found.ensures.2
