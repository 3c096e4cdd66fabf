use Rattle.std.proofs.Common.{None, Some, refl, sym}
use Rattle.time_components.specs.Spelling.{weekday}
use Rattle.time_readers.specs.Rfc2822.{IsShortWeekday}
use Rattle.time_readers.specs.MailBlanks.{opt_cfws}
use Rattle.time_readers.proofs.MailBlanks.{opt_cfws-leaves, Reads-none, read-cut, weekday-cut, no_comma}
use Rattle.time_components.proofs.NameLemmas.{weekday_one, spelled}
use Rattle.time_readers.proofs.rfc2822.grammar.weekday_name.Goals as goal

pub returns-in_default : goal.returns-in_default
returns-in_default c =
    let cut = read-cut opt_cfws opt_cfws-leaves _ _ (sym c.opt_cfws.ensures) in
    (cut.0, cut.1, (None, (cut.2, λ text rest w e is. c.in_default.ensures text rest (weekday w) e (w, refl, is)), refl))

pub returns-in_err-comma : goal.returns-in_err-comma
returns-in_err-comma c =
    let name = spelled weekday IsShortWeekday weekday_one _ _ _ c.in-Some.ensures in
    Reads-none _ _ _ _ c.from_residual.ensures (λ text rest m e asks.
    no_comma _ _ _ _ (sym c.opt_cfws.ensures) name c.in_err-comma.ensures text rest asks.0 e asks.1)

pub returns : goal.returns
returns c =
    let name = spelled weekday IsShortWeekday weekday_one _ _ _ c.in-Some.ensures in
    let cut = weekday-cut _ _ _ _ _ _ (sym c.opt_cfws.ensures) name c.in_ok-comma.ensures (sym c.opt_cfws-2.ensures) in
    (cut.0, cut.1, (Some c.in-Some.name.1, cut.2, refl))
