use Rattle.std.proofs.Common.{ap, Some}
use Rattle.time_locating.proofs.MailParts.{year_full}
use Rattle.time_locating.proofs.rfc2822.past_year.Goals as goal

pub returns-in-Some : goal.returns-in-Some
returns-in-Some c full rest v cut =
    let is = year_full c.args.input.now c.in-Some.found.0.now rest c.in-Some.found.1 v full c.in-Some.ensures cut in
    (ap Some is.0, is.1)
