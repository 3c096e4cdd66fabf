use Rattle.std.proofs.Common.{false, refl, inr, arith}
use Rattle.time_values.specs.Calendar.{greatest_year}
use Rattle.time_readers.specs.Direct.{minute_refusal, rfc3339_numbers}
use Rattle.time_readers.specs.Rfc3339.{HasForm, FailsAt, fault}
use Rattle.time_readers.proofs.RangedForms.{HasForm-in_places}
use Rattle.time_readers.proofs.MailRanges.{after, minute_stands, minute_past}
use Rattle.time_readers.proofs.direct.rfc3339.Goals as goal

pub returns-then-numbers-gt59 : goal.returns-then-numbers-gt59
returns-then-numbers-gt59 c =
    let found = c.in-Ok.found in
    inr (
      found.0.now,
      (
        found.1,
        c.in-Ok.ensures,
        rw (minute_past found.1 c.if-numbers-gt59.true, c.into-then-numbers-gt59.ensures) refl,
      ),
    )

pub rfc3339_numbers-requires-clause-hour : goal.rfc3339_numbers-requires-clause-hour
rfc3339_numbers-requires-clause-hour c =
    let found = c.in-Ok.found in
    (HasForm-in_places false c.args.input.now found.0.now found.1 c.in-Ok.ensures).offset_hour

pub whole-requires-clause-year : goal.whole-requires-clause-year
whole-requires-clause-year c =
    let found = c.in-Ok.found in
    let year = (HasForm-in_places false c.args.input.now found.0.now found.1 c.in-Ok.ensures).year in
    rw c.rfc3339_numbers.ensures (omega (arith, year))

pub whole-requires-clause-month : goal.whole-requires-clause-month
whole-requires-clause-month c =
    let found = c.in-Ok.found in
    let places = HasForm-in_places false c.args.input.now found.0.now found.1 c.in-Ok.ensures in
    rw c.rfc3339_numbers.ensures places.month_not_zero

pub returns : goal.returns
returns c =
    let found = c.in-Ok.found in
    after (HasForm false) (FailsAt false) fault minute_refusal rfc3339_numbers greatest_year c.args.input.now found.0.now
    found.1 c.whole.result c.in-Ok.ensures (minute_stands found.1 c.if-numbers-gt59.false)
    (rw c.rfc3339_numbers.ensures at c.whole.ensures)
