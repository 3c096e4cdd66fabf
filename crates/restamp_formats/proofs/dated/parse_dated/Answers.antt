use Rattle.std.proofs.Common.{Err, refl}
use Rattle.restamp_formats.proofs.ParseLemmas.{on_none}
use Rattle.restamp_formats.proofs.dated.parse_dated.Goals as goal

pub returns-then-not-tries_more-clause-said : goal.returns-then-not-tries_more-clause-said
returns-then-not-tries_more-clause-said g c =
    let why = c.in-Err.ensures.said in
    let none = c.tries_more.ensures c.if-not-tries_more.true in
    let defaults = c.args.defaults.now in
    (why.0, why.1, (Err why.0, (Err why.0, why.2, on_none defaults.clocks _ _ none.0 refl), on_none defaults.latest _ _ none.1 refl))
