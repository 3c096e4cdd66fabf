use Rattle.std.proofs.Common.{arith}
use Rattle.restamp_place.proofs.TextLemmas.{first_further}
use Rattle.restamp_place.proofs.texts.find_last.Goals as goal

pub returns : goal.returns
returns c =
    first_further c.args.text.now c.args.bytes.now c.args.from _ c.args.end c.args.end _
    (λ k low below. c.first_in_block.ensures.passed k (omega arith) (omega arith)) c.find_within-2.ensures (omega arith) (omega arith)
    (omega arith)
