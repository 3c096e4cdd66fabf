use Rattle.time_readers.proofs.MailRanges.{not_made}
use Rattle.time_readers.proofs.direct.moment.Goals as goal

pub returns : goal.returns
returns c =
    not_made _ c.args.said c.in_ok-moment.moment c.is_leap_second_valid.result c.in_ok-moment.ensures c.is_leap_second_valid.ensures
    c.if-is_leap_second_valid.false
