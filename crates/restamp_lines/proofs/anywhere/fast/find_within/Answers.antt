use Rattle.std.proofs.Common.{◌≡◌, false, arith}
use Rattle.std.proofs.lemmas.Bool.{cases_lt}
use Rattle.restamp_lines.specs.Begins.{may_begin}
use Rattle.restamp_lines.proofs.anywhere.fast.find_within.Goals as goal

pub loop-place-preserved : goal.loop-place-preserved
loop-place-preserved c k low below =
    let here : k ≡ c.loop-place.place → may_begin c.args.firsts c.args.line.now k ≡ false = λ is. cc in
    grind (arith, cases_lt k c.loop-place.place, c.loop-place.invariant k low)
