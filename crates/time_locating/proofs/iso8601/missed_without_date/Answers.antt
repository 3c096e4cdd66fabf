use Rattle.std.proofs.Common.{false, ◌∙◌}
use Rattle.time_readers.specs.declared.iso8601.ExtendedKind.TheVariants.{Unknown}
use Rattle.time_locating.specs.Iso8601.{from_time, offset_misses}
use Rattle.time_locating.specs.Located.{erased_miss}
use Rattle.time_locating.proofs.IsoLengths.{joined}
use Rattle.time_locating.proofs.iso8601.missed_without_date.Goals as goal

pub returns : goal.returns
returns c =
    c.further.ensures
    ∙ joined (erased_miss c.missed_from_time.result) (erased_miss c.offset_missed.result) (from_time false Unknown c.args.input.now)
    (offset_misses Unknown c.args.input.now) c.missed_from_time.ensures c.offset_missed.ensures
