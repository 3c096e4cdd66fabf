use Rattle.std.proofs.Common.{arith}
use Rattle.time_readers.proofs.IsoPieces.{number-nine}
use Rattle.time_readers.proofs.iso8601.fast.nanoseconds.Goals as goal

pub returns : goal.returns
returns c =
    number-nine c.args.input.now c.in_ok-whole.whole.0.now c.in_ok-after.after.now c.in_ok-found.found.0.now c.in_ok-whole.whole.1
    c.in_ok-found.found.1 c.in_ok-whole.ensures c.in_ok-after.ensures c.in_ok-found.ensures
    c.leading_digits.result (omega arith) c.leading_digits.ensures.all
