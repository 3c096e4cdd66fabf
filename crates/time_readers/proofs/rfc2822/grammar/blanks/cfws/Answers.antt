use Rattle.std.proofs.Common.{ap, sym, ◌∙◌, option_map, option_and_then}
use Rattle.time_readers.specs.Readers.{zero_or_more}
use Rattle.time_readers.specs.MailBlanks.{cfws}
use Rattle.time_readers.proofs.Repeats.{takes-shorter, zero_or_more-none, zero_or_more-more}
use Rattle.time_readers.proofs.MailBlanks.{blanks_or_comment, blanks_or_comment-takes}
use Rattle.time_readers.proofs.rfc2822.grammar.blanks.cfws.Goals as goal

pub returns-in_err-rest : goal.returns-in_err-rest
unfolding cfws
returns-in_err-rest c = ap (option_map (λ p. p.0.now)) c.from_residual.ensures ∙ ap (option_and_then (zero_or_more blanks_or_comment)) c.in_err-rest.ensures

pub loop-more-init : goal.loop-more-init
unfolding cfws
loop-more-init c = ap (option_and_then (zero_or_more blanks_or_comment)) c.in_ok-rest.ensures

pub loop-more-smaller : goal.loop-more-smaller
loop-more-smaller c = takes-shorter blanks_or_comment blanks_or_comment-takes _ _ (sym c.in-Some.ensures)

pub loop-more-preserved : goal.loop-more-preserved
loop-more-preserved c = sym (zero_or_more-more blanks_or_comment blanks_or_comment-takes _ _ (sym c.in-Some.ensures)) ∙ c.loop-more.invariant

pub returns : goal.returns
returns c = sym (zero_or_more-none blanks_or_comment _ (sym c.in_default.ensures)) ∙ c.loop-more.invariant
