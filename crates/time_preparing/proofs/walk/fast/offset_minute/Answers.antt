use Rattle.std.proofs.Common.{false, Some, subst, w8}
use Rattle.std.proofs.lemmas.Int.{to_z-of_z}
use Rattle.time_values.specs.Calendar.{greatest_year}
use Rattle.time_components.specs.Spelling.{signed}
use Rattle.time_components.specs.declared.format_description.Component.TheVariants.{OffsetMinute}
use Rattle.time_record.specs.Record.{put, Sets, offset_minute_is}
use Rattle.time_record.proofs.ComponentLemmas.{spelled}
use Rattle.time_preparing.proofs.walk.fast.offset_minute.Goals as goal

pub returns : goal.returns
returns c =
    let old = c.args.parsed.now in
    let sets = subst (λ v. Sets (put greatest_year (offset_minute_is v) old) old
    (Some c.in_ok-set_offset_minute_signed.field-0) c.set_offset_minute_signed.new.self)
    (to_z-of_z w8 c.in_ok-found.found.1 c.in_ok-found.ensures.fits) c.in_ok-set_offset_minute_signed.ensures in
    spelled greatest_year false (OffsetMinute c.args.modifiers) c.args.input.now c.args.parsed.now c.in_ok-found.found.0.now (signed c.in_ok-found.found.1)
    c.set_offset_minute_signed.new.self tt c.in_ok-found.ensures.cut sets
