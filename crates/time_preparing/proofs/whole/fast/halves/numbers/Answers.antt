use Rattle.std.proofs.Common.{arith}
use Rattle.time_values.specs.Calendar.{greatest_year}
use Rattle.time_preparing.proofs.Parts.{half_read}
use Rattle.time_preparing.proofs.whole.fast.halves.numbers.Goals as goal

pub returns : goal.returns
returns c = λ r.
    half_read c.args.form.now _ c.args.input.now _ _ _ _ _ _ r
    c.in_ok-hour.ensures (omega arith) (omega arith) c.in_ok-after.ensures c.in_ok-minute.ensures (omega arith)
    c.in_ok-second.ensures.reads c.in_ok-after-2.ensures c.in_ok-half.ensures
