use Rattle.time_values.specs.Names.{month_name}
use Rattle.time_components.specs.Spelling.{month}
use Rattle.time_components.proofs.NameLemmas.{months_titled, no_letters, no_short, is_short}
use Rattle.time_components.proofs.component.names.month_short.Goals as goal

pub returns-in_err-letters : goal.returns-in_err-letters
returns-in_err-letters c = rw c.from_residual.ensures
    (no_letters month month_name months_titled c.args.case_sensitive c.args.input.now c.in_err-letters.ensures)

pub returns-in_err-month : goal.returns-in_err-month
returns-in_err-month c = rw c.from_residual-in_err-month.ensures
    (no_short month month_name months_titled c.args.case_sensitive c.args.input.now c.in_ok-letters.letters.0.now c.in_ok-letters.letters.1
    c.in_ok-letters.ensures c.in_err-month.ensures)

pub returns : goal.returns
returns c = is_short month month_name months_titled c.args.case_sensitive c.args.input.now c.in_ok-letters.letters.0.now
    c.in_ok-letters.letters.1 c.in_ok-month.month c.in_ok-letters.ensures c.in_ok-month.ensures
