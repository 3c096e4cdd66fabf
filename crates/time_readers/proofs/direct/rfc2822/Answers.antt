use Rattle.std.proofs.Common.{false, refl, None, arith}
use Rattle.time_values.specs.Calendar.{greatest_year}
use Rattle.time_readers.specs.Direct.{rfc2822_numbers}
use Rattle.time_readers.specs.Rfc2822.{HasForm, FailsAt, fault}
use Rattle.time_readers.proofs.MailRanges.{HasForm-in_places, after}
use Rattle.time_readers.proofs.direct.rfc2822.Goals as goal

pub whole-requires-clause-year : goal.whole-requires-clause-year
whole-requires-clause-year c =
    let found = c.in-Ok.found in
    let year = (HasForm-in_places false c.args.input.now found.0.now found.1 c.in-Ok.ensures).year in
    rw c.rfc2822_numbers.ensures (omega (arith, year.1))

pub returns-in-Ok : goal.returns-in-Ok
returns-in-Ok c =
    let found = c.in-Ok.found in
    after (HasForm false) (FailsAt false) fault (λ n. None) rfc2822_numbers greatest_year c.args.input.now found.0.now
    found.1 c.whole.result c.in-Ok.ensures refl (rw c.rfc2822_numbers.ensures at c.whole.ensures)
