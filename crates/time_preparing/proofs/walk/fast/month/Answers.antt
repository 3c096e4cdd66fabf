use Rattle.std.proofs.Common.{false}
use Rattle.time_values.specs.Calendar.{greatest_year}
use Rattle.time_components.specs.Spelling.{month}
use Rattle.time_components.specs.declared.format_description.Component.TheVariants.{MonthNumerical}
use Rattle.time_record.proofs.ComponentLemmas.{spelled}
use Rattle.time_preparing.proofs.walk.fast.month.Goals as goal

pub returns : goal.returns
returns c =
    spelled greatest_year false (MonthNumerical c.args.modifiers) c.args.input.now c.args.parsed.now c.in_ok-found.found.0.now (month c.in_ok-found.found.1)
    c.set_month.new.self tt c.in_ok-found.ensures c.in_ok-set_month.ensures
