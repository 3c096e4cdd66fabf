use Rattle.std.proofs.Common.{◌∙◌, Some, length, ap, sym, arith}
use Rattle.time_values.specs.Calendar.{greatest_year}
use Rattle.time_readers.specs.IsoPieces.{Found}
use Rattle.time_readers.specs.IsoDates.{IsoDate, iso_date}
use Rattle.time_record.specs.Record.{empty}
use Rattle.time_locating.specs.Located.{erased_miss}
use Rattle.time_locating.specs.Misses.{further, missed, named}
use Rattle.time_locating.proofs.IsoDates.{date-number}
use Rattle.time_locating.proofs.IsoLengths.{great_date, held_date, no_date}
use Rattle.time_locating.proofs.iso8601.missed.Goals as goal

pub returns-in_default : goal.returns-in_default
returns-in_default c r =
    c.further.ensures
    ∙ no_date c.args.input.now r _ (erased_miss c.rows_missed.result) (erased_miss c.missed_without_date.result)
    c.in_default.ensures c.rows_missed.ensures c.missed_without_date.ensures

pub overflow_add-number : goal.overflow_add-number
overflow_add-number c =
    let date = c.in-Ok.date in
    let d : Found IsoDate = record { rest = date.rest.now; value = iso_date date.value; kind = date.kind } in
    let number = date-number c.args.input.now d c.in-Ok.ensures in
    let left = (c.in-Some.ensures empty number.1).1 (length date.rest.now) in
    omega (arith, left, number.0)

pub returns-in-Some : goal.returns-in-Some
returns-in-Some c r =
    let date = c.in-Ok.date in
    let d : Found IsoDate = record { rest = date.rest.now; value = iso_date date.value; kind = date.kind } in
    let number = date-number c.args.input.now d c.in-Ok.ensures in
    let great = c.in-Some.ensures r number.1 in
    c.further-in-Some.ensures
    ∙ ap (λ k. further (Some (missed k (named c.in-Some.name.now))) (erased_miss c.missed_without_date-in-Some.result))
    (sym (great.1 (length date.rest.now)))
    ∙ great_date c.args.input.now r d c.in-Some.name.now
    (erased_miss c.missed_without_date-in-Some.result) c.in-Ok.ensures great.0 c.missed_without_date-in-Some.ensures

pub returns-in-None : goal.returns-in-None
returns-in-None c r =
    let date = c.in-Ok.date in
    let d : Found IsoDate = record { rest = date.rest.now; value = iso_date date.value; kind = date.kind } in
    let number = date-number c.args.input.now d c.in-Ok.ensures in
    let held = c.in-None.ensures r number.1 in
    held_date c.args.input.now r d held.0 (erased_miss c.missed_from_time.result) c.in-Ok.ensures held.1 c.missed_from_time.ensures
