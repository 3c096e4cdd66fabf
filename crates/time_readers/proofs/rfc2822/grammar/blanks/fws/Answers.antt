use Rattle.std.proofs.Common.{ap, sym, ◌∙◌, option_map}
use Rattle.time_readers.proofs.MailBlanks.{fws-fold, fws-none, fws-blanks, more_lines-line, line-shorter, more_lines-stop, more_lines-end}
use Rattle.time_readers.proofs.rfc2822.grammar.blanks.fws.Goals as goal

pub returns-in-Some : goal.returns-in-Some
returns-in-Some c = sym (fws-fold _ _ (sym c.in-Some.ensures))

pub returns-in_err-rest : goal.returns-in_err-rest
returns-in_err-rest c = ap (option_map (λ p. p.0.now)) c.from_residual.ensures ∙ sym (fws-none _ (sym c.in_default.ensures) (sym c.in_err-rest.ensures))

pub loop-line-init : goal.loop-line-init
loop-line-init c = sym (fws-blanks _ _ (sym c.in_default.ensures) (sym c.in_ok-rest.ensures))

pub returns-in_err-rest-2 : goal.returns-in_err-rest-2
returns-in_err-rest-2 c =
    ap (option_map (λ p. p.0.now)) c.from_residual-in_err-rest-2.ensures ∙ sym (more_lines-stop _ _ (sym c.in-Some-crlf.ensures) (sym c.in_err-rest-2.ensures))
    ∙ c.loop-line.invariant

pub loop-line-smaller : goal.loop-line-smaller
loop-line-smaller c = line-shorter _ _ _ (sym c.in-Some-crlf.ensures) (sym c.in_ok-rest-2.ensures)

pub loop-line-preserved : goal.loop-line-preserved
loop-line-preserved c = sym (more_lines-line _ _ _ (sym c.in-Some-crlf.ensures) (sym c.in_ok-rest-2.ensures)) ∙ c.loop-line.invariant

pub returns : goal.returns
returns c = sym (more_lines-end _ (sym c.in_default-crlf.ensures)) ∙ c.loop-line.invariant
