use Rattle.time_values.specs.Calendar.{greatest_year}
use Rattle.time_parsing.specs.Outcome.{begun}
use Rattle.time_parsing.specs.Rfc3339.{with_leap_second}
use Rattle.time_locating.proofs.IsoDates.{iso_marked, iso_unmarked}
use Rattle.time_locating.proofs.iso8601.Iso8601Locate.locate_component.Goals as goal

pub returns-in_default : goal.returns-in_default
returns-in_default c =
    let refused = rw c.begin-parsed.ensures at c.in_default.ensures in
    iso_unmarked c.args.name.now c.args.input.now (begun c.args.defaults) refused.0.0

pub returns : goal.returns
returns c =
    let read = rw c.begin-parsed.ensures at c.in-Ok.ensures in
    rw c.index_of.ensures.text
    (iso_marked c.args.name.now c.args.input.now (begun c.args.defaults) c.in-Ok.rest.now _ _ read
    (c.text_mark.ensures (with_leap_second (begun c.args.defaults))))
