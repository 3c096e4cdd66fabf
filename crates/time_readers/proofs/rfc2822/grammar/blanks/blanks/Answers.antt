use Rattle.std.proofs.Common.{ap, sym, ◌∙◌, option_and_then}
use Rattle.std.specs.Option.{option_copied}
use Rattle.time_readers.specs.Readers.{one_of, zero_or_more}
use Rattle.time_readers.specs.MailBlanks.{is_blank, blanks}
use Rattle.time_readers.proofs.Repeats.{one_of-takes, zero_or_more-none, zero_or_more-more}
use Rattle.time_readers.proofs.rfc2822.grammar.blanks.blanks.Goals as goal

pub returns-in_err-rest : goal.returns-in_err-rest
unfolding blanks
returns-in_err-rest c = ap option_copied c.from_residual.ensures ∙ ap (option_and_then (zero_or_more (one_of is_blank))) c.in_err-rest.ensures

pub loop-more-init : goal.loop-more-init
unfolding blanks
loop-more-init c = ap (option_and_then (zero_or_more (one_of is_blank))) c.in_ok-rest.ensures

pub loop-more-preserved : goal.loop-more-preserved
loop-more-preserved c = sym (zero_or_more-more (one_of is_blank) (one_of-takes is_blank) _ _ (sym c.in-Some.ensures)) ∙ c.loop-more.invariant

pub returns : goal.returns
returns c = sym (zero_or_more-none (one_of is_blank) _ (sym c.in_default.ensures)) ∙ c.loop-more.invariant
