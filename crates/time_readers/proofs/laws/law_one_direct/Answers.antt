use Rattle.std.proofs.Common.{None, false}
use Rattle.time_readers.specs.Direct.{minute_refusal, rfc3339_numbers, rfc2822_numbers}
use Rattle.time_readers.specs.Rfc2822 as rfc2822
use Rattle.time_readers.specs.Rfc3339 as rfc3339
use Rattle.time_readers.proofs.Repeats.{PlaceSyntax-unique, one_form}
use Rattle.time_readers.proofs.OneMailDate.{MailAsks-unique}
use Rattle.time_readers.proofs.Walking.{one_direct}
use Rattle.time_readers.proofs.laws.law_one_direct.Goals as goal

pub returns-clause-rfc3339 : goal.returns-clause-rfc3339
returns-clause-rfc3339 c =
    one_direct (rfc3339.PlaceSyntax false) rfc3339.places rfc3339.nothing_read rfc3339.fault minute_refusal rfc3339_numbers
    (one_form (rfc3339.PlaceSyntax false) (PlaceSyntax-unique false) rfc3339.places rfc3339.nothing_read)

pub returns-clause-rfc2822 : goal.returns-clause-rfc2822
returns-clause-rfc2822 c =
    one_direct (rfc2822.PlaceSyntax false) rfc2822.places rfc2822.nothing_read rfc2822.fault (λ n. None) rfc2822_numbers
    (one_form (rfc2822.PlaceSyntax false) (MailAsks-unique false) rfc2822.places rfc2822.nothing_read)
