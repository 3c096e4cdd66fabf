use Rattle.std.proofs.Common.{ap, ◌∙◌, option_and_then}
use Rattle.std.specs.Option.{option_copied}
use Rattle.time_readers.specs.MailBlanks.{blanks, line_fold}
use Rattle.time_readers.proofs.rfc2822.grammar.blanks.line_fold.Goals as goal

pub returns-in_err-crlf : goal.returns-in_err-crlf
unfolding line_fold
returns-in_err-crlf c = ap option_copied c.from_residual.ensures ∙ ap (option_and_then blanks) c.in_err-crlf.ensures

pub returns : goal.returns
unfolding line_fold
returns c = c.blanks.ensures ∙ ap (option_and_then blanks) c.in_ok-crlf.ensures
