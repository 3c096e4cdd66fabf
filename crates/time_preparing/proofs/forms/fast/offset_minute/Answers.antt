use Rattle.std.proofs.Common.{◌≡◌, pos, to_z, w8, arith}
use Rattle.std.proofs.lemmas.Int.{ints}
use Rattle.time_preparing.proofs.forms.fast.offset_minute.Goals as goal

pub returns-clause-within : goal.returns-clause-within
returns-clause-within c = (c.in_ok-minute.minute.1, omega arith, omega (arith, ints))

pub returns-clause-fits : goal.returns-clause-fits
returns-clause-fits c =
    let same : to_z w8 c.in_ok-minute.minute.1 ≡ pos c.in_ok-minute.minute.1 = omega (arith, ints) in
    rw same (omega (arith, ints))
