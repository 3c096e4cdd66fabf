use Rattle.std.proofs.Common.{false, Some, subst}
use Rattle.time_values.specs.Calendar.{greatest_year}
use Rattle.time_components.specs.Spelling.{number}
use Rattle.time_components.specs.declared.format_description.Component.TheVariants.{Hour12}
use Rattle.time_record.specs.Record.{put, Sets, hour_12_is}
use Rattle.time_record.proofs.ComponentLemmas.{spelled}
use Rattle.time_preparing.proofs.walk.fast.hour_12.Goals as goal

pub returns : goal.returns
returns c =
    let old = c.args.parsed.now in
    let sets = subst (λ v. Sets (put greatest_year (hour_12_is v) old) old (Some c.in_ok-set_hour_12.field-0) c.set_hour_12.new.self)
    c.in_ok-new.ensures c.in_ok-set_hour_12.ensures in
    spelled greatest_year false (Hour12 c.args.modifiers) c.args.input.now c.args.parsed.now c.in_ok-found.found.0.now (number c.in_ok-found.found.1)
    c.set_hour_12.new.self tt c.in_ok-found.ensures sets
