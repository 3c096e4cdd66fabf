use Rattle.std.proofs.Common.{false, Some, subst, w32}
use Rattle.std.proofs.lemmas.Int.{to_z-of_z}
use Rattle.time_values.specs.Calendar.{greatest_year}
use Rattle.time_components.specs.Spelling.{signed}
use Rattle.time_components.specs.declared.format_description.Component.TheVariants.{CalendarYearFullStandardRange}
use Rattle.time_record.specs.Record.{put, Sets, year_is}
use Rattle.time_record.proofs.ComponentLemmas.{spelled}
use Rattle.time_preparing.proofs.walk.fast.standard_year.Goals as goal

pub returns : goal.returns
returns c =
    let old = c.args.parsed.now in
    let sets = subst (λ v. Sets (put greatest_year (year_is v) old) old
    (Some c.in_ok-set_year.field-0) c.set_year.new.self)
    (to_z-of_z w32 c.in_ok-found.found.1 c.in_ok-found.ensures.fits) c.in_ok-set_year.ensures in
    spelled greatest_year false (CalendarYearFullStandardRange c.args.modifiers) c.args.input.now c.args.parsed.now c.in_ok-found.found.0.now
    (signed c.in_ok-found.found.1) c.set_year.new.self tt c.in_ok-found.ensures.standard sets
