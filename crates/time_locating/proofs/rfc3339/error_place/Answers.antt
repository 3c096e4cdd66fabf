use Rattle.std.proofs.Common.{[], true, length, refl, inl}
use Rattle.time_values.specs.Calendar.{greatest_year}
use Rattle.time_readers.specs.Rfc3339.{PlaceSyntax, nothing_read, places}
use Rattle.time_parsing.specs.Rfc3339.{Reads}
use Rattle.time_locating.specs.Marks.{at_once}
use Rattle.time_locating.specs.Misses.{missed}
use Rattle.time_locating.specs.Rfc3339.{expected_at}
use Rattle.time_locating.proofs.WholeTexts.{left-within, stands-located, reads_form}
use Rattle.time_locating.proofs.rfc3339.error_place.Goals as goal

pub after_all-requires : goal.after_all-requires
after_all-requires c =
    left-within (PlaceSyntax true) places nothing_read c.args.input.now c.in-Ok.found.0.now c.in-Ok.found.1 c.in-Ok.ensures

pub returns-in-Ok : goal.returns-in-Ok
returns-in-Ok c begin =
    stands-located (PlaceSyntax true) places nothing_read at_once expected_at (Reads greatest_year) begin c.args.input.now
    c.in-Ok.found.0.now c.in-Ok.found.1 c.after_all.result c.in-Ok.ensures (λ r form. reads_form c.args.input.now [] c.in-Ok.found.1 r form) c.after_all.ensures

pub returns-in-Err : goal.returns-in-Err
returns-in-Err c begin =
    let stop = c.in-Err.ensures in
    (missed (length stop.mid) (expected_at c.in-Err.place), inl (c.in-Err.place, stop, refl), c.index_of.ensures stop, c.expected_at.ensures)
