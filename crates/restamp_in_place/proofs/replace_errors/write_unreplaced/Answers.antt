use Rattle.std.proofs.Common.{codes, refl}
use Rattle.std.proofs.lemmas.Result.{on_ok_weaker}
use Rattle.restamp_in_place.specs.ReplaceErrors.{IsWhy}
use Rattle.restamp_in_place.proofs.replace_errors.write_unreplaced.Goals as goal

pub returns-in-Stopped-clause-reported : goal.returns-in-Stopped-clause-reported
returns-in-Stopped-clause-reported g c =
    let why : IsWhy c.args.why.now (codes "its lines were not rewritten") = rw c.in-Stopped.is refl in
    on_ok_weaker c.write_why.result (λ reported. (codes "its lines were not rewritten", why, reported)) c.write_why.ensures.reported

pub returns-in-Changed-clause-reported : goal.returns-in-Changed-clause-reported
returns-in-Changed-clause-reported g c =
    let why : IsWhy c.args.why.now (codes "another program changed it meanwhile") = rw c.in-Changed.is refl in
    on_ok_weaker c.write_why-in-Changed.result (λ reported. (codes "another program changed it meanwhile", why, reported))
    c.write_why-in-Changed.ensures.reported
