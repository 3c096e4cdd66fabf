use Rattle.std.proofs.Common.{sym, ◌∙◌}
use Rattle.time_values.specs.Dates as Dates
use Rattle.time_values.specs.Moments.{offset_date, offset_of}
use Rattle.time_values.specs.Offsets as Offsets
use Rattle.time_formatting.proofs.KeptDigits.{writable_3339}
use Rattle.time_formatting.proofs.iso8601.text_8601_basic.Goals as goal

pub write-requires : goal.write-requires
write-requires c =
    let value = c.args.value in
    writable_3339 (Dates.year (offset_date value)) (Offsets.hours (offset_of value)) (Offsets.seconds (offset_of value)) (sym c.reason.ensures ∙ c.in-None.is)
