use Rattle.std.proofs.Common.{◌+◌, arith, ap, take, subst}
use Rattle.std.proofs.lemmas.List.{take_all, length-take-le}
use Rattle.std.proofs.lemmas.Bool.{eqb-true}
use Rattle.time_readers.specs.Block.{AllWithin}
use Rattle.time_readers.proofs.IsoDatesAndTimes.{all_within}
use Rattle.time_readers.proofs.block.is_within.Goals as goal

pub returns : goal.returns
returns c = λ all.
    let whole = take_all 16 c.args.bytes.now (omega arith) in
    let long = length-take-le 16 c.args.bytes.now (omega arith) in
    let within = all_within 16 c.args.least c.args.greatest (take 16 c.args.bytes.now) (omega arith) (omega arith) (ap (λ m. m + 1) (eqb-true _ _ all)) in
    subst (AllWithin c.args.least c.args.greatest) whole within
