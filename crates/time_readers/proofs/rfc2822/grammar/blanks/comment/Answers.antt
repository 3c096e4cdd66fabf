use Rattle.std.proofs.Common.{ap, sym, ◌∙◌, arith}
use Rattle.std.specs.Option.{option_copied}
use Rattle.time_readers.specs.MailBlanks.{fws}
use Rattle.time_readers.proofs.Repeats.{takes-shorter}
use Rattle.time_readers.proofs.MailBlanks.{fws-takes}
use Rattle.time_readers.proofs.OpenComments.{open-first, open-none, open-blanks, open-plain, open-more, open-most, open-less, open-stop, open-end}
use Rattle.time_readers.proofs.rfc2822.grammar.blanks.comment.Goals as goal

pub returns-in_err-rest : goal.returns-in_err-rest
returns-in_err-rest c = ap option_copied c.from_residual.ensures ∙ sym (open-none _ (sym c.in_err-rest.ensures))

pub loop-open-init : goal.loop-open-init
loop-open-init c = open-first _ _ (sym c.in_ok-rest.ensures)

pub loop-open-smaller-in-Some : goal.loop-open-smaller-in-Some
loop-open-smaller-in-Some c = takes-shorter fws fws-takes _ _ (sym c.in-Some.ensures)

pub loop-open-preserved-in-Some : goal.loop-open-preserved-in-Some
loop-open-preserved-in-Some c = open-blanks _ _ _ _ c.loop-open-test.true (sym c.in-Some.ensures) c.loop-open.invariant

pub loop-open-preserved-in-Some-text : goal.loop-open-preserved-in-Some-text
loop-open-preserved-in-Some-text c = open-plain _ _ _ _ c.loop-open-test.true (sym c.in_default.ensures) (sym c.in-Some-text.ensures) c.loop-open.invariant

pub returns-then-open-eq-MOST_COMMENTS : goal.returns-then-open-eq-MOST_COMMENTS
returns-then-open-eq-MOST_COMMENTS c =
    sym (open-most _ _ _ _ c.if-open-eq-MOST_COMMENTS.true (sym c.in_default.ensures) (sym c.in_default-text.ensures)
    (sym c.in-Some-one.ensures) c.loop-open.invariant)

pub loop-open-preserved-in-Some-one : goal.loop-open-preserved-in-Some-one
loop-open-preserved-in-Some-one c =
    open-more _ _ _ _ c.loop-open-test.true c.if-open-eq-MOST_COMMENTS.false (sym c.in_default.ensures) (sym c.in_default-text.ensures)
    (sym c.in-Some-one.ensures) c.loop-open.invariant

pub returns-in_err-rest-2 : goal.returns-in_err-rest-2
returns-in_err-rest-2 c =
    ap option_copied c.from_residual-in_err-rest-2.ensures
    ∙ sym (open-stop _ _ _ c.loop-open-test.true (sym c.in_default.ensures) (sym c.in_default-text.ensures)
    (sym c.in_default-one.ensures) (sym c.in_err-rest-2.ensures) c.loop-open.invariant)

pub loop-open-preserved : goal.loop-open-preserved
loop-open-preserved c =
    open-less _ _ _ _ c.loop-open-test.true (sym c.in_default.ensures) (sym c.in_default-text.ensures)
    (sym c.in_default-one.ensures) (sym c.in_ok-rest-2.ensures) c.loop-open.invariant

pub returns : goal.returns
returns c = sym (open-end _ _ _ (omega arith) c.loop-open.invariant)
