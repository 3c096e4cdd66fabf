use Rattle.std.proofs.Common.{◌≡◌, false, Some, subst}
use Rattle.time_values.specs.Calendar.{greatest_year}
use Rattle.time_components.specs.Spelling.{period}
use Rattle.time_components.specs.declared.format_description.Component.TheVariants.{Period}
use Rattle.time_record.proofs.ComponentLemmas.{spelled}
use Rattle.time_preparing.proofs.walk.fast.period.Goals as goal

pub returns : goal.returns
returns c =
    let old = c.args.parsed.now in
    let new = c.set_hour_12_is_pm.new.self in
    let sets = subst (λ b. new ≡ record old { hour_12_is_pm = Some b }) c.is_pm.ensures c.in_ok-set_hour_12_is_pm.ensures in
    spelled greatest_year false (Period c.args.modifiers) c.args.input.now old c.in_ok-found.found.0.now (period c.in_ok-found.found.1) new tt
    c.in_ok-found.ensures sets
