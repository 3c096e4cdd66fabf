use Rattle.std.proofs.Common.{◌∙◌, None, refl}
use Rattle.time_locating.specs.Located.{erased_miss}
use Rattle.time_locating.proofs.IsoLengths.{time_joined}
use Rattle.time_locating.proofs.iso8601.missed_from_time.Goals as goal

pub returns-in-Some : goal.returns-in-Some
returns-in-Some c =
    c.further.ensures
    ∙ time_joined c.args.needs_t c.args.kind c.args.input.now _ (erased_miss c.offset_missed.result) (erased_miss c.letter_missed-missed.result)
    c.in-Some.ensures c.offset_missed.ensures c.letter_missed-missed.ensures

pub returns-in-None : goal.returns-in-None
returns-in-None c =
    time_joined c.args.needs_t c.args.kind c.args.input.now None None (erased_miss c.letter_missed-missed.result) c.in-None.ensures refl
    c.letter_missed-missed.ensures
