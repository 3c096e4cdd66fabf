use Rattle.std.proofs.Common.{[]}
use Rattle.pelzaune_ffi.proofs.IsoInPlace.{outcome_of, whole_matches}
use Rattle.pelzaune_ffi.proofs.moments.fast.moment.Goals as goal

pub returns : goal.returns
returns c =
    let text = c.args.text.now in
    let front = c.in_ok-rest in
    let middle = c.in_ok-numbers in
    let all = c.in_ok-offset in
    let matches = whole_matches text front.rest.now middle.rest.now [] c.to_second.new.numbers middle.numbers all.field-0
    front.ensures.stands middle.ensures all.ensures.matches in
    outcome_of text all.field-0 c.moment_from.result matches all.ensures.minute (rw c.rfc3339_numbers.ensures at c.moment_from.ensures)
