use Rattle.std.proofs.Common.{arith}
use Rattle.time_readers.specs.IsoDates.{iso_date}
use Rattle.time_locating.proofs.IsoLengths.{Small, held}
use Rattle.time_locating.proofs.iso8601.too_great.Goals as goal
use Rattle.time_locating.proofs.iso8601.too_great.Goals.{in_default-via-in-Calendar+else-get-gt31, in_default-via-in-Ordinal+else-get-gt366, in_default-via-in-Week+else-get-gt53}

pub returns-in_default : goal.returns-in_default
returns-in_default c r year =
    let small : Small (iso_date c.args.numbers) = elim c.in_default.branch [
      | in_default-via-in-Calendar+else-get-gt31 w ↦
          rw w.in-Calendar.is (omega (arith, w.in-Calendar.day.ok), omega (arith, w.get.ensures.value))
      | in_default-via-in-Ordinal+else-get-gt366 w ↦
          rw w.in-Ordinal.is (omega (arith, w.in-Ordinal.ordinal.ok), omega arith)
      | in_default-via-in-Week+else-get-gt53 w ↦
          rw w.in-Week.is (omega (arith, w.in-Week.week.ok), omega arith)
    ] in
    held (iso_date c.args.numbers) r year small
