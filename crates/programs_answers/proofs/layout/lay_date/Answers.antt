use Rattle.std.proofs.Common.{◌≡◌, ◌^◌, ◌<◌, ap, ◌∙◌, arith, unsigned_abs}
use Rattle.std.specs.Int.{w32}
use Rattle.std.proofs.lemmas.Int.{to_z-of_z, ints}
use Rattle.time_values.specs.Names.{month_number}
use Rattle.programs_answers.proofs.OutputLemmas.{date_text-behind, month_length-below}
use Rattle.programs_answers.proofs.layout.lay_date.Goals as goal

pub date_bytes-requires-clause-day_in : goal.date_bytes-requires-clause-day_in
date_bytes-requires-clause-day_in c = omega (arith, month_length-below c.args.date.year (month_number c.args.date.month))

pub returns : goal.returns
returns c =
    let year = c.year.result in
    let kept = to_z-of_z w32 year (omega (arith, ints)) in
    let magnitude : c.unsigned_abs.result ≡ unsigned_abs year = c.unsigned_abs.ensures.value ∙ ap unsigned_abs kept in
    let fits : c.unsigned_abs.result < 2 ^ 64 = omega (arith, ints) in
    date_text-behind c.args.date c.unsigned_abs.result c.number.result c.day.result c.date_bytes.result
    (magnitude ∙ ap unsigned_abs c.year.ensures) fits (c.number.ensures.value ∙ ap month_number c.month.ensures) c.day.ensures c.date_bytes.ensures
