use Rattle.std.proofs.Common.{sym, ◌∙◌}
use Rattle.std.proofs.lemmas.Bool.{false≢true}
use Rattle.time_digits.specs.Digits.{IsPaddedRun}
use Rattle.time_components.proofs.NumberLemmas.{signed_cut, no_signed, no_unsigned}
use Rattle.time_components.proofs.component.numbers.sign_and_run.Goals as goal

pub returns-in_err-number-in-Some : goal.returns-in_err-number-in-Some
returns-in_err-number-in-Some g c =
    rw c.from_residual.ensures (no_signed c.args.sign_is_mandatory
    (IsPaddedRun c.args.padding g.row.N g.row.M) c.args.padding_alone g.row.A g.row.B c.args.input.now c.in-Some.found.0.now
    c.in-Some.found.1 c.requires.least_alone c.in-Some.ensures c.in_err-number-in-Some.ensures)

pub returns-in_ok-number-in-Some : goal.returns-in_ok-number-in-Some
returns-in_ok-number-in-Some g c =
    signed_cut c.args.sign_is_mandatory (IsPaddedRun c.args.padding g.row.N g.row.M)
    (IsPaddedRun c.args.padding_alone g.row.A g.row.B) c.args.input.now c.in-Some.found.0.now c.in_ok-number-in-Some.number.0.now
    c.in-Some.found.1 (g.T.Integer.value c.in_ok-number-in-Some.number.1) c.in-Some.ensures c.in_ok-number-in-Some.ensures

pub returns-in-None : goal.returns-in-None
returns-in-None g c = no_unsigned c.args.sign_is_mandatory (IsPaddedRun c.args.padding g.row.N g.row.M)
    (IsPaddedRun c.args.padding_alone g.row.A g.row.B) c.args.input.now c.in-None.ensures
    (λ free. absurd (false≢true (sym free ∙ c.if-sign_is_mandatory.true)))

pub returns-in_err-number-in-None-2 : goal.returns-in_err-number-in-None-2
returns-in_err-number-in-None-2 g c =
    rw c.from_residual-in_err-number-in-None-2.ensures
    (no_unsigned c.args.sign_is_mandatory (IsPaddedRun c.args.padding g.row.N g.row.M)
    (IsPaddedRun c.args.padding_alone g.row.A g.row.B) c.args.input.now c.in-None-2.ensures (λ free. c.in_err-number-in-None-2.ensures))
