use Rattle.std.proofs.Common.{rules}
use Rattle.time_readers.proofs.MailRanges.{date_first, clock_first, offset_first, of_parts}
use Rattle.time_readers.proofs.direct.moment_of.Goals as goal

pub returns-in_err-date : goal.returns-in_err-date
returns-in_err-date c = search (rules, date_first)

pub returns-in_err-time : goal.returns-in_err-time
returns-in_err-time c = search (rules, clock_first)

pub returns-in_err-offset : goal.returns-in_err-offset
returns-in_err-offset c = search (rules, offset_first)

pub returns : goal.returns
returns c =
    let is = c.new_in_offset.ensures in
    of_parts _ c.args.said _ _ _ _ is.date is.time is.offset c.in_ok-date.ensures c.in_ok-time.ensures c.in_ok-offset.ensures
