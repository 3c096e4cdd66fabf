use Rattle.std.proofs.Common.{◌≡◌, ◌≢◌, ◌&&◌, ap, sym, ◌∙◌, subst}
use Rattle.time_components.specs.declared.format_description.Period.{Period}
use Rattle.time_components.specs.Spelling.{period_name}
use Rattle.time_components.proofs.OneSpelling.{no_letters, no_period}
use Rattle.time_components.proofs.component.names.period.Goals as goal
use Rattle.time_components.proofs.component.names.period.Goals.{then-is_uppercase, else-is_uppercase}

pub returns-in_err-letters : goal.returns-in_err-letters
returns-in_err-letters c = rw c.from_residual.ensures
    (no_letters c.args.modifiers.is_uppercase c.args.modifiers.case_sensitive c.args.input.now c.in_err-letters.ensures)

pub returns-in_err-period_of : goal.returns-in_err-period_of
returns-in_err-period_of c =
    let upper : c.if-is_uppercase.upper ≡ (c.args.modifiers.is_uppercase && c.args.modifiers.case_sensitive) = elim c.if-is_uppercase.branch [
      | then-is_uppercase w ↦ w.upper-is ∙ sym (ap (λ b. b && c.args.modifiers.case_sensitive) w.if-is_uppercase.true)
      | else-is_uppercase w ↦ w.upper-is ∙ w.if-is_uppercase.false ∙ sym (ap (λ b. b && c.args.modifiers.case_sensitive) w.if-is_uppercase.false)
    ] in
    rw c.from_residual-in_err-period_of.ensures
    (no_period c.args.modifiers.is_uppercase c.args.modifiers.case_sensitive c.args.input.now c.in_ok-letters.letters.0.now
    c.in_ok-letters.letters.1 c.in_ok-letters.ensures
    (subst (λ u. (period : Period) → c.in_ok-letters.letters.1 ≢ period_name u period) upper c.in_err-period_of.ensures))
