use Rattle.time_readers.specs.Rfc3339.{PlaceSyntax, places, nothing_read}
use Rattle.time_readers.proofs.Repeats.{one_form, PlaceSyntax-unique}
use Rattle.time_readers.proofs.laws.law_one_form.Goals as goal

pub returns : goal.returns
returns c = λ check_ranges bytes. one_form (PlaceSyntax check_ranges) (PlaceSyntax-unique check_ranges) places nothing_read bytes
