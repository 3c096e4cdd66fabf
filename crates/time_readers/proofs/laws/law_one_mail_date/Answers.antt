use Rattle.time_readers.specs.Rfc2822.{PlaceSyntax, places, nothing_read}
use Rattle.time_readers.proofs.Repeats.{one_form}
use Rattle.time_readers.proofs.OneMailDate.{MailAsks-unique}
use Rattle.time_readers.proofs.laws.law_one_mail_date.Goals as goal

pub returns : goal.returns
returns c = λ check_ranges bytes. one_form (PlaceSyntax check_ranges) (MailAsks-unique check_ranges) places nothing_read bytes
