use Rattle.std.proofs.Common.{sym, subst, ◌∙◌}
use Rattle.restamp_formats.specs.Common.{IsInstant, greatest_year}
use Rattle.restamp_formats.proofs.CountLemmas.{nanoseconds_short}
use Rattle.restamp_formats.proofs.form.nanoseconds_of.Goals as goal

pub returns-clause-short : goal.returns-clause-short
returns-clause-short c =
    let stamp = c.in_ok-stamp_of in
    nanoseconds_short c.nanoseconds.result
    (subst (IsInstant greatest_year) (sym (c.nanoseconds.ensures ∙ stamp.ensures.1)) stamp.ensures.0)
