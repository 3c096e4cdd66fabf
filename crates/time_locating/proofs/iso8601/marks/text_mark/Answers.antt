use Rattle.time_values.specs.Calendar.{greatest_year}
use Rattle.time_readers.specs.IsoPieces.{Found}
use Rattle.time_readers.specs.IsoDates.{IsoDate, iso_date}
use Rattle.time_locating.proofs.IsoDates.{date-number, either, great_date-mark, held_date-mark, no_date-mark}
use Rattle.time_locating.proofs.iso8601.marks.text_mark.Goals as goal

pub returns-in_default : goal.returns-in_default
returns-in_default c r =
    no_date-mark c.args.name.now c.args.left c.args.input.now r _ _ c.in_default.ensures c.mark_without_date.ensures

pub returns-in-Some : goal.returns-in-Some
returns-in-Some c r =
    let date = c.in-Ok.date in
    let d : Found IsoDate = record { rest = date.rest.now; value = iso_date date.value; kind = date.kind } in
    let number = date-number c.args.input.now d c.in-Ok.ensures in
    let great = c.in-Some.ensures r number.1 in
    great_date-mark c.args.name.now c.args.left c.args.input.now r d _ _ c.in-Ok.ensures great.0
    c.mark_without_date-in-Some.ensures

pub returns-in-None : goal.returns-in-None
returns-in-None c r =
    let date = c.in-Ok.date in
    let d : Found IsoDate = record { rest = date.rest.now; value = iso_date date.value; kind = date.kind } in
    let number = date-number c.args.input.now d c.in-Ok.ensures in
    let held = c.in-None.ensures r number.1 in
    held_date-mark c.args.name.now c.args.left c.args.input.now r d held.0 _ c.in-Ok.ensures held.1
    (either _ _ _ _ _ c.or.ensures c.mark_from_time.ensures c.rows_mark.ensures)
