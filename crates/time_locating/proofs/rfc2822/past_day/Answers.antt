use Rattle.std.proofs.Common.{ap, Some}
use Rattle.time_locating.proofs.MailParts.{day_same}
use Rattle.time_locating.proofs.rfc2822.past_day.Goals as goal

pub returns : goal.returns
returns c rest v cut = ap Some (day_same _ _ _ _ _ c.in_ok-found.ensures cut)
