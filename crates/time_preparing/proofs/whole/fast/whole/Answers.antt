use Rattle.time_preparing.proofs.Wholes.{leads}
use Rattle.time_preparing.proofs.whole.fast.whole.Goals as goal

pub returns-in_ok-found-in-Some : goal.returns-in_ok-found-in-Some
returns-in_ok-found-in-Some c = leads c.in_ok-found-in-Some.found c.in-Some.list.now c.args.steps.now c.in_ok-found-in-Some.ensures c.in-Some.ensures

pub returns-in_ok-own-in-None : goal.returns-in_ok-own-in-None
returns-in_ok-own-in-None c = leads c.in_ok-own-in-None.own c.args.steps.now c.args.steps.now c.in_ok-own-in-None.ensures (λ b r rest new h. h)
