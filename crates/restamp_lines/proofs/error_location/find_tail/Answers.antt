use Rattle.std.proofs.Common.{refl, Ok, Err}
use Rattle.time_values.specs.Refusal.{refusal_of}
use Rattle.restamp_place.proofs.WordLemmas.{tail_range}
use Rattle.restamp_formats.proofs.OneWriting.{read-longest, suffix_of}
use Rattle.restamp_lines.proofs.error_location.find_tail.Goals as goal

pub returns-in-Ok : goal.returns-in-Ok
returns-in-Ok c =
    let read = c.read_suffix in
    let rest = tail_range c.in-Ok.front.length c.args.part.text.now in
    let longest = read-longest c.args.part.text.now c.in-Ok.front read.result _ rest read.ensures.within read.ensures.says read.ensures.longest in
    (Ok c.in-Ok.front, c.in-Ok.ensures.said, (suffix_of read.result read.ensures.says.0, longest, refl))

pub returns-in-Err : goal.returns-in-Err
returns-in-Err c = (Err (refusal_of c.in-Err.field-0), c.in-Err.ensures.said, c.find_by.ensures)
