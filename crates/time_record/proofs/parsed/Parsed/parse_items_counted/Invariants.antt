use Rattle.time_values.specs.Calendar.{greatest_year}
use Rattle.time_record.specs.Reading.{BeginsAll}
use Rattle.time_record.proofs.Counting.{Counted}
use Rattle.time_record.proofs.Unique.{Continues}
use Rattle.time_record.proofs.parsed.Parsed.parse_items_counted.Given as goal

abbrev pub invariant-loop-item : goal.invariant-loop-item
invariant-loop-item g l =
    Continues greatest_year g.I.AnyFormatItem.shape l.items l.item-index l.fn.input l.fn.self l.rest l.self
    × Counted (BeginsAll greatest_year) g.I.AnyFormatItem.shape l.items l.item-index l.fn.input l.fn.self l.rest l.self l.fn.tries l.tries
