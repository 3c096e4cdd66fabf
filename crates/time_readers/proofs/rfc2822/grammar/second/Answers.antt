use Rattle.std.proofs.Common.{Some, refl, sym}
use Rattle.time_readers.proofs.MailBlanks.{second-cut}
use Rattle.time_readers.proofs.rfc2822.grammar.second.Goals as goal

pub returns : goal.returns
returns g c =
    let cut = second-cut _ _ _ _ _ (sym c.in-Some.ensures) c.in_ok-found.ensures in
    (cut.0, cut.1, (Some c.in_ok-found.found.1, cut.2, refl))
