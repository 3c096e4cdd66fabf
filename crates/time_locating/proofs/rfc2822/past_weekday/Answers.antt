use Rattle.std.proofs.Common.{None, Some, ap, refl, sym}
use Rattle.time_components.specs.Spelling.{weekday}
use Rattle.time_components.proofs.NameLemmas.{spelled, weekday_one}
use Rattle.time_digits.specs.Digits.{Cut}
use Rattle.time_readers.specs.MailBlanks.{opt_cfws}
use Rattle.time_readers.specs.Rfc2822.{IsShortWeekday, IsWeekdayPart}
use Rattle.time_readers.proofs.MailBlanks.{opt_cfws-leaves, no_comma, read-cut, weekday-cut}
use Rattle.time_locating.proofs.MailParts.{weekday_same}
use Rattle.time_locating.proofs.rfc2822.past_weekday.Goals as goal

pub returns-in-None : goal.returns-in-None
returns-in-None c rest v cut =
    let mid = read-cut opt_cfws opt_cfws-leaves _ _ (sym c.opt_cfws.ensures) in
    let none : Cut IsWeekdayPart c.args.input.now c.opt_cfws.result.0.now None =
    (mid.0, mid.1, (mid.2, λ text after w e is. c.in-None.ensures text after (weekday w) e (w, refl, is))) in
    ap Some (weekday_same _ _ _ None _ none cut)

pub returns-in_err-comma-in-Some : goal.returns-in_err-comma-in-Some
returns-in_err-comma-in-Some c rest v cut =
    let name = spelled weekday IsShortWeekday weekday_one _ _ _ c.in-Some.ensures in
    absurd (no_comma _ _ _ _ (sym c.opt_cfws.ensures) name c.in_err-comma-in-Some.ensures cut.0 rest v cut.1 cut.2)

pub returns-in_ok-comma-in-Some : goal.returns-in_ok-comma-in-Some
returns-in_ok-comma-in-Some c rest v cut =
    let name = spelled weekday IsShortWeekday weekday_one _ _ _ c.in-Some.ensures in
    let whole = weekday-cut _ _ _ _ _ _ (sym c.opt_cfws.ensures) name c.in_ok-comma-in-Some.ensures (sym c.opt_cfws-in-Some.ensures) in
    ap Some (weekday_same _ _ _ (Some _) _ whole cut)
