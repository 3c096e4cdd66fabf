use Rattle.std.proofs.Common.{false}
use Rattle.time_values.specs.Calendar.{greatest_year}
use Rattle.time_components.specs.Spelling.{number}
use Rattle.time_components.specs.declared.format_description.Component.TheVariants.{Day}
use Rattle.time_record.proofs.ComponentLemmas.{spelled}
use Rattle.time_preparing.proofs.walk.fast.day.Goals as goal

pub returns : goal.returns
returns c =
    spelled greatest_year false (Day c.args.modifiers) c.args.input.now c.args.parsed.now c.in_ok-found.found.0.now (number c.in_ok-found.found.1.value)
    c.set_day.new.self tt c.in_ok-found.ensures c.in_ok-set_day.ensures
