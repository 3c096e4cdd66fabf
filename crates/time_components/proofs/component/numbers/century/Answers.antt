use Rattle.std.proofs.Common.{arith}
use Rattle.time_digits.specs.declared.Padding.TheVariants.{Zero}
use Rattle.time_components.proofs.NumberLemmas.{signed_below}
use Rattle.time_components.proofs.component.numbers.century.Goals as goal

pub returns-in_err-found : goal.returns-in_err-found
returns-in_err-found g c = rw c.from_residual.ensures (λ text rest value e s. c.in_err-found.ensures text rest s.0 e s.2)

pub signed_century-requires : goal.signed_century-requires
signed_century-requires g c = signed_below c.args.sign_is_mandatory c.args.padding Zero 2 g.row.MOST 1 2 4 c.in_ok-found.ensures.0
    c.in_ok-found.found.0.now (c.in_ok-found.found.1.0, c.in_ok-found.found.1.1) c.requires.most (omega arith) c.in_ok-found.ensures.2
